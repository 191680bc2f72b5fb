use Rattle.record.specs.Faults.{fields_fault, first_fault}
use Rattle.record.proofs.Columns.{last_column}
use Rattle.record.proofs.faults.file_frame.file_trailer.Goals as goal

pub returns : goal.returns
unfolding fields_fault first_fault
returns c = search last_column depth 3
