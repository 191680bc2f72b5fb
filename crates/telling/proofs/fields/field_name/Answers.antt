-- What fields::field_name ensures, by the laws of Telling.
use Rattle.telling.proofs.Telling.{tells}
use Rattle.telling.specs.Names.{field_name}
use Rattle.telling.proofs.fields.field_name.Goals as goal

pub returns-then-column-eq1 : goal.returns-then-column-eq1
unfolding field_name
returns-then-column-eq1 c = search tells depth 2

pub returns : goal.returns
unfolding field_name
returns c = search tells depth 2
