-- The input itself, or a temporary file.
use mathlib.Core.Path.{refl}
use Rattle.machine.specs.Lists.{pick}
use Rattle.streams.proofs.twice.rereadable.Goals as goal

pub returns-in-Ok : goal.returns-in-Ok
unfolding pick
returns-in-Ok c = search refl

pub returns-in-Err : goal.returns-in-Err
unfolding pick
returns-in-Err c = search refl
