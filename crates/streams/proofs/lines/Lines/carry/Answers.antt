-- One byte more.
use Rattle.streams.proofs.Carrying.{carry_more}
use Rattle.streams.proofs.lines.Lines.carry.Goals as goal

pub loop-i-preserved : goal.loop-i-preserved
loop-i-preserved c = carry_more c.loop-i.invariant c.loop-i-test.true
