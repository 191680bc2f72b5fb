-- What Line::blank ensures, by the laws of field's Picks.
use Rattle.field.proofs.Picks.{pick_yes, pick_no, by_call}
use Rattle.writer.proofs.fields.Line.blank.Goals as goal

pub returns-then-is_blank : goal.returns-then-is_blank
returns-then-is_blank c = search (pick_yes, by_call) depth 3

pub returns-else-is_blank : goal.returns-else-is_blank
returns-else-is_blank c = search (pick_no, by_call) depth 3
