-- One input more, by the laws of Ending.
use Rattle.streams.proofs.Ending.{ends_worse}
use Rattle.streams.proofs.input.each_input.Goals as goal

pub loop-i-preserved : goal.loop-i-preserved
loop-i-preserved g c = search ends_worse
