use Rattle.field.proofs.Picks.{pick_yes, pick_no}
use Rattle.record.proofs.faults.batch_frame.batch_identification_answer.Goals as goal

pub returns-then-identified : goal.returns-then-identified
returns-then-identified c = search pick_yes depth 1

pub returns-else-identified : goal.returns-else-identified
returns-else-identified c = search pick_no depth 1
