-- What lines::text_line ensures, by the laws of Building.
use Rattle.writer.proofs.Building.{text_line_is}
use Rattle.writer.proofs.lines.text_line.Goals as goal

pub returns : goal.returns
returns c = search text_line_is depth 2
