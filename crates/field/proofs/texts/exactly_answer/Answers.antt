use Rattle.field.proofs.Forms.{same_part}
use Rattle.field.proofs.Picks.{pick_yes, pick_no}
use Rattle.field.proofs.Results.{form_handed, form_passed}
use Rattle.field.proofs.texts.exactly_answer.Goals as goal

pub returns-in_err-filled_answer : goal.returns-in_err-filled_answer
returns-in_err-filled_answer c = search (form_handed, c.in_err-filled_answer.was) depth 2

pub returns-then-is_same : goal.returns-then-is_same
returns-then-is_same c = search (form_passed, pick_yes, same_part, c.in_ok-filled_answer.was) depth 3

pub returns : goal.returns
returns c = search (form_passed, pick_no, same_part, c.in_ok-filled_answer.was) depth 3
