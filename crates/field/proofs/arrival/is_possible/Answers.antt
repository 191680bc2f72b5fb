-- What arrival::is_possible ensures.
use Rattle.field.proofs.Arrivals.{possible_on, possible_none}
use Rattle.field.proofs.arrival.is_possible.Goals as goal

pub returns-in-None : goal.returns-in-None
returns-in-None c = search possible_none depth 2

pub returns-in-Some : goal.returns-in-Some
returns-in-Some c = search possible_on depth 2
