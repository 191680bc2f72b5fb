use Rattle.reading.proofs.Judgements.{codes}
use Rattle.reading.proofs.State.judge.Goals as goal

pub returns-in-Some : goal.returns-in-Some
returns-in-Some c = search codes depth 2

pub returns-in-None : goal.returns-in-None
returns-in-None c = search codes depth 2
