use Rattle.record.proofs.Typing.{types}
use Rattle.record.proofs.types.type_fault.Goals as goal

pub returns-in-Some : goal.returns-in-Some
returns-in-Some c = search types depth 2

pub returns-in-Some-2 : goal.returns-in-Some-2
returns-in-Some-2 c = search types depth 2

pub returns-in-None : goal.returns-in-None
returns-in-None c = search types depth 2
