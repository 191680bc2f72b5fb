use Rattle.field.proofs.Picks.{pick_yes, pick_no}
use Rattle.field.proofs.Results.{form_handed, form_passed}
use Rattle.record.proofs.FileFaults.{no_counter, counted, of_day, no_digits_lem}
use borrow.Author.Tests.{eq-eqb, ne_eqb}
use Rattle.record.proofs.faults.file_frame.identification_answer.Goals as goal

pub returns-in_err-filled_answer : goal.returns-in_err-filled_answer
returns-in_err-filled_answer c = search (form_handed, c.in_err-filled_answer.was) depth 3

pub returns-then-not-is_digits : goal.returns-then-not-is_digits
returns-then-not-is_digits c = search (form_passed, pick_no, no_digits_lem, c.in_ok-filled_answer.was) depth 4

pub returns-then-is_same : goal.returns-then-is_same
returns-then-is_same c = search (form_passed, pick_no, no_counter, c.in_ok-filled_answer.was) depth 4

pub returns-then-value_at-created : goal.returns-then-value_at-created
returns-then-value_at-created c = search (form_passed, pick_yes, counted, of_day, eq-eqb, c.in_ok-filled_answer.was) depth 5

pub returns : goal.returns
returns c = search (form_passed, pick_yes, pick_no, counted, of_day, ne_eqb, c.in_ok-filled_answer.was) depth 5
