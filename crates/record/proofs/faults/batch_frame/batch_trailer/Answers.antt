use mathlib.Core.Path.{refl}
use Rattle.record.specs.Faults.{fields_fault, first_fault}
use Rattle.field.proofs.Rows.{no_row}
use Rattle.record.proofs.Columns.{passed, fault_handed, last_column}
use Rattle.record.proofs.faults.batch_frame.batch_trailer.Goals as goal

pub returns-in_err-at : goal.returns-in_err-at
unfolding fields_fault first_fault
returns-in_err-at c = fault_handed _ _ _ _ c.at.ensures (no_row _ _ _ c.total_answer.ensures refl refl) c.in_err-at.was _ _ c.from_residual.ensures

pub returns-in_err-at-2 : goal.returns-in_err-at-2
unfolding fields_fault first_fault
returns-in_err-at-2 c = passed _ _ _ _ c.at.ensures (no_row _ _ _ c.total_answer.ensures refl refl) _ _ _ c.in_ok-at.was
    (fault_handed _ _ _ _ c.at-2.ensures (no_row _ _ _ c.equal_answer.ensures refl refl) c.in_err-at-2.was _ _ c.from_residual-in_err-at-2.ensures)

pub returns-in_err-at-3 : goal.returns-in_err-at-3
unfolding fields_fault first_fault
returns-in_err-at-3 c = passed _ _ _ _ c.at.ensures (no_row _ _ _ c.total_answer.ensures refl refl) _ _ _ c.in_ok-at.was
    (passed _ _ _ _ c.at-2.ensures (no_row _ _ _ c.equal_answer.ensures refl refl) _ _ _ c.in_ok-at-2.was
    (fault_handed _ _ _ _ c.at-3.ensures (no_row _ _ _ c.total_answer-2.ensures refl refl) c.in_err-at-3.was _ _ c.from_residual-in_err-at-3.ensures))

pub returns : goal.returns
unfolding fields_fault first_fault
returns c = passed _ _ _ _ c.at.ensures (no_row _ _ _ c.total_answer.ensures refl refl) _ _ _ c.in_ok-at.was
    (passed _ _ _ _ c.at-2.ensures (no_row _ _ _ c.equal_answer.ensures refl refl) _ _ _ c.in_ok-at-2.was
    (passed _ _ _ _ c.at-3.ensures (no_row _ _ _ c.total_answer-2.ensures refl refl) _ _ _ c.in_ok-at-3.was
    (last_column _ _ _ _ c.at-4.ensures c.filler_answer.ensures _ refl)))
