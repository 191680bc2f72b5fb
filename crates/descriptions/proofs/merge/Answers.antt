-- What merge ensures, by the laws of Merging.
use Rattle.descriptions.proofs.Merging.{merge_is}
use Rattle.descriptions.proofs.merge.Goals as goal

pub returns : goal.returns
returns c = search merge_is depth 2
