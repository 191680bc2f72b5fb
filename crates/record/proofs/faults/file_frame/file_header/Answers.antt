use mathlib.Core.Path.{refl}
use Rattle.record.specs.Faults.{fields_fault, first_fault}
use Rattle.record.proofs.Columns.{past, fault_handed, last_column, value_row, value_handed}
use Rattle.record.proofs.FileFaults.{identification_row}
use Rattle.record.proofs.faults.file_frame.file_header.Goals as goal

pub returns-in_err-created : goal.returns-in_err-created
unfolding fields_fault first_fault
returns-in_err-created c = search (
    fault_handed _ _ _ _ c.at.ensures (value_row _ _ 6 _ c.date.ensures refl) c.in_err-created.was) depth 2

pub returns-in_err-at : goal.returns-in_err-at
unfolding fields_fault first_fault
returns-in_err-at c = search (
  past _ (value_row _ _ 6 _ c.date.ensures refl) c.in_ok-created.was,
  fault_handed _ _ _ _ c.at-2.ensures c.exactly_answer.ensures c.in_err-at.was,
) depth 3

pub returns-in_err-at-2 : goal.returns-in_err-at-2
unfolding fields_fault first_fault
returns-in_err-at-2 c = search (
  past _ (value_row _ _ 6 _ c.date.ensures refl) c.in_ok-created.was,
  past _ c.exactly_answer.ensures c.in_ok-at.was,
  fault_handed _ _ _ _ c.at-3.ensures c.filled_answer.ensures c.in_err-at-2.was,
) depth 4

pub returns-in_err-at-3 : goal.returns-in_err-at-3
unfolding fields_fault first_fault
returns-in_err-at-3 c = search (
  past _ (value_row _ _ 6 _ c.date.ensures refl) c.in_ok-created.was,
  past _ c.exactly_answer.ensures c.in_ok-at.was,
  past _ c.filled_answer.ensures c.in_ok-at-2.was,
  fault_handed _ _ _ _ c.at-4.ensures (identification_row _ _ (value_handed _ _ _ _ _ c.date.ensures c.at.ensures c.in_ok-created.was) c.identification_answer.ensures) c.in_err-at-3.was,
) depth 5

pub returns-in_err-at-4 : goal.returns-in_err-at-4
unfolding fields_fault first_fault
returns-in_err-at-4 c = search (
  past _ (value_row _ _ 6 _ c.date.ensures refl) c.in_ok-created.was,
  past _ c.exactly_answer.ensures c.in_ok-at.was,
  past _ c.filled_answer.ensures c.in_ok-at-2.was,
  past _ (identification_row _ _ (value_handed _ _ _ _ _ c.date.ensures c.at.ensures c.in_ok-created.was) c.identification_answer.ensures) c.in_ok-at-3.was,
  fault_handed _ _ _ _ c.at-5.ensures (value_row _ _ 1 _ c.ranged.ensures refl) c.in_err-at-4.was,
) depth 6

pub returns : goal.returns
unfolding fields_fault first_fault
returns c = search (
  past _ (value_row _ _ 6 _ c.date.ensures refl) c.in_ok-created.was,
  past _ c.exactly_answer.ensures c.in_ok-at.was,
  past _ c.filled_answer.ensures c.in_ok-at-2.was,
  past _ (identification_row _ _ (value_handed _ _ _ _ _ c.date.ensures c.at.ensures c.in_ok-created.was) c.identification_answer.ensures) c.in_ok-at-3.was,
  past _ (value_row _ _ 1 _ c.ranged.ensures refl) c.in_ok-at-4.was,
  last_column _ _ _ _ c.at-6.ensures c.filler_answer.ensures,
) depth 7
