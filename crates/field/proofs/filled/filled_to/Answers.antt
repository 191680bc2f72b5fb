-- What filled_to ensures, by the laws of Filling.
use Rattle.field.proofs.Filling.{first_filled}
use Rattle.field.proofs.filled.filled_to.Goals as goal

pub returns : goal.returns
returns g c = search first_filled depth 2
