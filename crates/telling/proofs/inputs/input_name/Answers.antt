-- What inputs::input_name ensures, by the laws of Telling.
use Rattle.telling.proofs.Telling.{tells}
use Rattle.telling.specs.Names.{input_name}
use Rattle.telling.proofs.inputs.input_name.Goals as goal

pub returns-then-is_empty : goal.returns-then-is_empty
unfolding input_name
returns-then-is_empty c = search tells depth 2

pub returns : goal.returns
unfolding input_name
returns c = search tells depth 2
