use mathlib.Core.Path.{refl}
use Rattle.record.specs.Faults.{first_fault}
use Rattle.field.proofs.Rows.{no_row}
use Rattle.record.proofs.Columns.{passed, fault_handed, last_column, number_row}
use Rattle.record.proofs.BatchFaults.{header_via}
use Rattle.record.proofs.faults.batch_frame.batch_header.Goals as goal

pub returns-in_err-at : goal.returns-in_err-at
unfolding first_fault
returns-in_err-at c = header_via _ _ _ (fault_handed _ _ _ _ c.at.ensures c.group_answer.ensures c.in_err-at.was _ _ c.from_residual.ensures)

pub returns-in_err-at-2 : goal.returns-in_err-at-2
unfolding first_fault
returns-in_err-at-2 c = header_via _ _ _ (passed _ _ _ _ c.at.ensures c.group_answer.ensures _ _ _ c.in_ok-at.was
    (fault_handed _ _ _ _ c.at-2.ensures (number_row _ _ _ _ c.ordering.ensures refl refl) c.in_err-at-2.was _ _ c.from_residual-in_err-at-2.ensures))

pub returns-in_err-at-3 : goal.returns-in_err-at-3
unfolding first_fault
returns-in_err-at-3 c = header_via _ _ _ (passed _ _ _ _ c.at.ensures c.group_answer.ensures _ _ _ c.in_ok-at.was
    (passed _ _ _ _ c.at-2.ensures (number_row _ _ _ _ c.ordering.ensures refl refl) _ _ _ c.in_ok-at-2.was
    (fault_handed _ _ _ _ c.at-3.ensures (no_row _ _ _ c.sequence_answer.ensures refl refl) c.in_err-at-3.was _ _ c.from_residual-in_err-at-3.ensures)))

pub returns-in_err-at-4 : goal.returns-in_err-at-4
unfolding first_fault
returns-in_err-at-4 c = header_via _ _ _ (passed _ _ _ _ c.at.ensures c.group_answer.ensures _ _ _ c.in_ok-at.was
    (passed _ _ _ _ c.at-2.ensures (number_row _ _ _ _ c.ordering.ensures refl refl) _ _ _ c.in_ok-at-2.was
    (passed _ _ _ _ c.at-3.ensures (no_row _ _ _ c.sequence_answer.ensures refl refl) _ _ _ c.in_ok-at-3.was
    (fault_handed _ _ _ _ c.at-4.ensures c.exactly_answer.ensures c.in_err-at-4.was _ _ c.from_residual-in_err-at-4.ensures))))

pub returns-in_err-at-5 : goal.returns-in_err-at-5
unfolding first_fault
returns-in_err-at-5 c = header_via _ _ _ (passed _ _ _ _ c.at.ensures c.group_answer.ensures _ _ _ c.in_ok-at.was
    (passed _ _ _ _ c.at-2.ensures (number_row _ _ _ _ c.ordering.ensures refl refl) _ _ _ c.in_ok-at-2.was
    (passed _ _ _ _ c.at-3.ensures (no_row _ _ _ c.sequence_answer.ensures refl refl) _ _ _ c.in_ok-at-3.was
    (passed _ _ _ _ c.at-4.ensures c.exactly_answer.ensures _ _ _ c.in_ok-at-4.was
    (fault_handed _ _ _ _ c.at-5.ensures c.batch_identification_answer.ensures c.in_err-at-5.was _ _ c.from_residual-in_err-at-5.ensures)))))

pub returns : goal.returns
unfolding first_fault
returns c = header_via _ _ _ (passed _ _ _ _ c.at.ensures c.group_answer.ensures _ _ _ c.in_ok-at.was
    (passed _ _ _ _ c.at-2.ensures (number_row _ _ _ _ c.ordering.ensures refl refl) _ _ _ c.in_ok-at-2.was
    (passed _ _ _ _ c.at-3.ensures (no_row _ _ _ c.sequence_answer.ensures refl refl) _ _ _ c.in_ok-at-3.was
    (passed _ _ _ _ c.at-4.ensures c.exactly_answer.ensures _ _ _ c.in_ok-at-4.was
    (passed _ _ _ _ c.at-5.ensures c.batch_identification_answer.ensures _ _ _ c.in_ok-at-5.was
    (last_column _ _ _ _ c.at-6.ensures c.filler_answer.ensures _ refl))))))
