-- What the loop of arrival::days_before keeps: the months before are counted.
use Rattle.std.proofs.Common.{◌≡◌, ◌-◌}
use Rattle.format.specs.Arrival.{days_of_months}
use Rattle.field.proofs.arrival.days_before.Given as goal

abbrev pub invariant-loop-earlier : goal.invariant-loop-earlier
invariant-loop-earlier l = l.sum ≡ days_of_months l.year (l.earlier - 1)
