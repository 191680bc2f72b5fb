-- What Found::is_within ensures.
use Rattle.std.proofs.Common.{refl}
use Rattle.items.specs.Answering.{is_within}
use Rattle.items.proofs.Found.is_within.Goals as goal

pub returns : goal.returns
unfolding is_within
returns c = search refl depth 2
