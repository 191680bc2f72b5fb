-- One byte more, and all of them.
use Rattle.field.proofs.Putting.{puts}
use Rattle.field.proofs.bytes.copy.Goals as goal

pub loop-i-preserved : goal.loop-i-preserved
loop-i-preserved c = search puts

pub returns : goal.returns
returns c = search puts
