-- What arrival::days_ahead ensures, by the laws of Arrivals.
use Rattle.field.proofs.Arrivals.{ahead_is}
use Rattle.field.proofs.arrival.days_ahead.Goals as goal

pub returns : goal.returns
returns c = search ahead_is depth 2
