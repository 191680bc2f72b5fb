-- What lines::file_header ensures, by the laws of Building.
use Rattle.writer.proofs.Building.{file_header_is}
use Rattle.writer.proofs.lines.file_header.Goals as goal

pub returns : goal.returns
returns c = search file_header_is depth 2
