-- What Line::header ensures, by the laws of Building.
use Rattle.writer.proofs.Building.{header_start_lem}
use Rattle.writer.proofs.fields.Line.header.Goals as goal

pub returns : goal.returns
returns c = search header_start_lem depth 2
