-- What numbers::ranged ensures, by the laws of Results.
use Rattle.field.proofs.Results.{of_tested}
use Rattle.field.proofs.numbers.ranged.Goals as goal

pub returns : goal.returns
returns c = search (of_tested, c.in_ok-value.was) depth 3
