use Rattle.field.proofs.Picks.{pick_yes, pick_no, tests}
use Rattle.field.proofs.Results.{no_handed, no_passed}
use Rattle.record.proofs.BatchFaults.{name_payments, name_debits}
use Rattle.record.proofs.faults.batch_frame.name_code_answer.Goals as goal

pub returns-in_err-code : goal.returns-in_err-code
returns-in_err-code c = search (no_handed, c.in_err-code.was) depth 3

pub returns-in-Debits : goal.returns-in-Debits
returns-in-Debits c = search (no_passed, pick_no, name_debits, tests, c.in_ok-code.was) depth 4

pub returns-in_default : goal.returns-in_default
returns-in_default c = search (no_passed, pick_yes, name_debits, name_payments, tests, c.in_ok-code.was) depth 4

pub returns-in_default-2 : goal.returns-in_default-2
returns-in_default-2 c = search (no_passed, pick_yes, name_debits, name_payments, tests, c.in_ok-code.was) depth 4
