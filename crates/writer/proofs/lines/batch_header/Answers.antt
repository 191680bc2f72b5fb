-- What lines::batch_header ensures, by the laws of Building.
use Rattle.writer.proofs.Building.{identified_is, unidentified_is}
use Rattle.writer.proofs.lines.batch_header.Goals as goal

pub returns-then-identified : goal.returns-then-identified
returns-then-identified c = search identified_is depth 2

pub returns-else-identified : goal.returns-else-identified
returns-else-identified c = search unidentified_is depth 2
