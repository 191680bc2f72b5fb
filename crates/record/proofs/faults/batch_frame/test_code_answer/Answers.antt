use Rattle.format.specs.Rules.{is_test_code}
use Rattle.field.proofs.Forms.{either_same}
use Rattle.field.proofs.Picks.{pick_yes, pick_no}
use Rattle.field.proofs.Results.{form_handed, form_passed}
use Rattle.record.proofs.faults.batch_frame.test_code_answer.Goals as goal

pub returns-in_err-filled_answer : goal.returns-in_err-filled_answer
unfolding is_test_code
returns-in_err-filled_answer c = search (form_handed, c.in_err-filled_answer.was) depth 3

pub returns-then-is_same : goal.returns-then-is_same
unfolding is_test_code
returns-then-is_same c = search (form_passed, pick_yes, either_same, c.in_ok-filled_answer.was) depth 4

pub returns : goal.returns
unfolding is_test_code
returns c = search (form_passed, pick_no, either_same, c.in_ok-filled_answer.was) depth 4
