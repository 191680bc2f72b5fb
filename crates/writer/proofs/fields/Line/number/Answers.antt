-- What Line::number ensures, by the laws of Putting.
use Rattle.writer.proofs.Putting.{number_fits, number_unfit}
use Rattle.writer.proofs.fields.Line.number.Goals as goal

pub returns-then-is_within : goal.returns-then-is_within
returns-then-is_within c = search number_fits depth 2

pub returns-else-is_within : goal.returns-else-is_within
returns-else-is_within c = search number_unfit depth 2
