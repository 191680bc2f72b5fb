-- What arrival::is_near ensures.
use Rattle.std.proofs.Common.{rules}
use Rattle.format.specs.Arrival.{is_near}
use Rattle.field.proofs.arrival.is_near.Goals as goal

pub returns-then-days-ge0 : goal.returns-then-days-ge0
unfolding is_near
returns-then-days-ge0 c = search rules

pub returns : goal.returns
unfolding is_near
returns c = search rules
