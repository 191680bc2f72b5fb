-- What lines::ordering_party ensures, by the laws of Building.
use Rattle.writer.proofs.Building.{ordering_party_is}
use Rattle.writer.proofs.lines.ordering_party.Goals as goal

pub returns : goal.returns
returns c = search ordering_party_is depth 2
