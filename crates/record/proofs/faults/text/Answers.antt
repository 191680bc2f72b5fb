use mathlib.Core.Path.{refl}
use Rattle.record.specs.Faults.{text_fault, first_fault}
use Rattle.record.proofs.Columns.{passed, fault_handed, last_column}
use Rattle.record.proofs.faults.text.Goals as goal

pub returns-in_err-at : goal.returns-in_err-at
unfolding text_fault first_fault
returns-in_err-at c = fault_handed _ _ _ _ c.at.ensures c.filled_answer.ensures c.in_err-at.was _ _ c.from_residual.ensures

pub returns : goal.returns
unfolding text_fault first_fault
returns c = passed _ _ _ _ c.at.ensures c.filled_answer.ensures _ _ _ c.in_ok-at.was
    (last_column _ _ _ _ c.at-2.ensures c.filler_answer.ensures _ refl)
