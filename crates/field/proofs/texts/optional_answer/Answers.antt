use Rattle.field.proofs.Forms.{form_yes, blank_prints, optional_filled}
use Rattle.field.proofs.Picks.{by_call, both_are, first_holds}
use Rattle.field.proofs.texts.optional_answer.Goals as goal

pub returns-then-is_blank : goal.returns-then-is_blank
returns-then-is_blank c = search (form_yes, both_are, blank_prints, first_holds, by_call) depth 4

pub returns : goal.returns
returns c = search (optional_filled, by_call) depth 2
