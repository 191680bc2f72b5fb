-- The name stays.
use mathlib.Core.Path.{refl}
use Rattle.streams.proofs.twice.spooled.Goals as goal

pub returns : goal.returns
returns c = search refl
