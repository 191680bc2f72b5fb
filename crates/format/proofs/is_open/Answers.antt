use Rattle.format.proofs.Cutting.{opens}
use Rattle.format.proofs.is_open.Goals as goal

pub returns-in_default-None : goal.returns-in_default-None
returns-in_default-None c = search opens depth 1

pub returns-in-None-Some : goal.returns-in-None-Some
returns-in-None-Some c = search opens depth 1

pub returns-in-Some-Some : goal.returns-in-Some-Some
returns-in-Some-Some c = search opens depth 1
