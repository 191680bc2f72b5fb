-- What lines::batch_trailer ensures, by the laws of Building.
use Rattle.writer.proofs.Building.{batch_trailer_is}
use Rattle.writer.proofs.lines.batch_trailer.Goals as goal

pub returns : goal.returns
returns c = search batch_trailer_is depth 2
