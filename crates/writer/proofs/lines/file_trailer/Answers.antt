-- What lines::file_trailer ensures, by the laws of Building.
use Rattle.writer.proofs.Building.{file_trailer_is}
use Rattle.writer.proofs.lines.file_trailer.Goals as goal

pub returns : goal.returns
returns c = search file_trailer_is depth 2
