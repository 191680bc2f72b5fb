-- What Line::text ensures, by the laws of Putting.
use Rattle.writer.proofs.Putting.{text_fits, text_unfit}
use Rattle.writer.proofs.fields.Line.text.Goals as goal

pub returns-then-is_blank : goal.returns-then-is_blank
returns-then-is_blank c = search text_fits depth 2

pub returns-else-is_blank : goal.returns-else-is_blank
returns-else-is_blank c = search text_unfit depth 2
