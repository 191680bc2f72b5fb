use Rattle.record.proofs.Typing.{uncheckeds}
use Rattle.record.proofs.types.is_unchecked_type.Goals as goal

pub returns-in-Some : goal.returns-in-Some
returns-in-Some c = search uncheckeds depth 1

pub returns-in-None : goal.returns-in-None
returns-in-None c = search uncheckeds depth 1
