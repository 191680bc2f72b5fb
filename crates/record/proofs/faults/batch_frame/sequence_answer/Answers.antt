use Rattle.field.proofs.Picks.{pick_yes, pick_no}
use Rattle.field.proofs.Results.{no_handed, no_passed}
use Rattle.record.proofs.BatchFaults.{at_least, next_by}
use Rattle.record.proofs.faults.batch_frame.sequence_answer.Goals as goal

pub returns-in_err-sequence : goal.returns-in_err-sequence
returns-in_err-sequence c = search (no_handed, c.in_err-sequence.was) depth 3

pub overflow_sub-sequence : goal.overflow_sub-sequence
overflow_sub-sequence c = search (at_least, c.in_ok-sequence.was) depth 3

pub returns-then-last-sequence : goal.returns-then-last-sequence
returns-then-last-sequence c = search (no_passed, pick_yes, next_by, at_least, c.in_ok-sequence.was) depth 4

pub returns : goal.returns
returns c = search (no_passed, pick_no, next_by, at_least, c.in_ok-sequence.was) depth 4
