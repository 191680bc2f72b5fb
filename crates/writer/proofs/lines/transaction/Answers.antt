-- What lines::transaction ensures, by the laws of Building.
use Rattle.writer.proofs.Building.{transaction_is}
use Rattle.writer.proofs.lines.transaction.Goals as goal

pub returns : goal.returns
returns c = search transaction_is depth 2
