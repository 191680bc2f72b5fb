-- What arrival::days_before ensures and its loop keeps, by the laws of Arrivals.
use Rattle.std.proofs.Common.{rules}
use Rattle.format.specs.Arrival.{days_of_months}
use Rattle.field.proofs.Arrivals.{months_fit, months_more}
use Rattle.field.proofs.arrival.days_before.Goals as goal

pub loop-earlier-init : goal.loop-earlier-init
unfolding days_of_months
loop-earlier-init c = search rules

pub overflow_add-sum : goal.overflow_add-sum
overflow_add-sum c = search months_fit depth 2

pub loop-earlier-preserved : goal.loop-earlier-preserved
loop-earlier-preserved c = search months_more depth 2
