-- What arrival::is_timely ensures, by the laws of Arrivals.
use Rattle.std.proofs.Common.{rules}
use Rattle.field.proofs.Arrivals.{timely_yes, timely_no}
use Rattle.field.proofs.arrival.is_timely.Goals as goal

pub returns-then-is_date : goal.returns-then-is_date
returns-then-is_date c = search (timely_yes, rules) depth 3

pub returns : goal.returns
returns c = search timely_no depth 2
