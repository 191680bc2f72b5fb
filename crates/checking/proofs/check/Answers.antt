-- The reader was run over the lines taken.
use Rattle.checking.proofs.Answers.{answered}
use Rattle.checking.proofs.check.Goals as goal

pub returns : goal.returns
returns c = search answered
