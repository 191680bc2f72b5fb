-- What step::paid_batch ensures: it is its definition.
use mathlib.Core.Path.{refl}
use Rattle.reading.proofs.step.paid_batch.Goals as goal

pub returns : goal.returns
returns c = search refl depth 1
