-- What arrival::day_number asks and ensures, by the laws of Arrivals.
use Rattle.field.proofs.Arrivals.{month_from, month_to, day_from, sum_fits, all_fits, all_sfits, all_is}
use Rattle.field.proofs.arrival.day_number.Goals as goal

pub days_before-months-requires-clause-from : goal.days_before-months-requires-clause-from
days_before-months-requires-clause-from c = search month_from depth 2

pub days_before-months-requires-clause-to : goal.days_before-months-requires-clause-to
days_before-months-requires-clause-to c = search month_to depth 2

pub overflow_add-number : goal.overflow_add-number
overflow_add-number c = search sum_fits depth 2

pub overflow_sub-number : goal.overflow_sub-number
overflow_sub-number c = search day_from depth 2

pub overflow_add-number-2 : goal.overflow_add-number-2
overflow_add-number-2 c = search all_fits depth 2

pub overflow_cast-result : goal.overflow_cast-result
overflow_cast-result c = search all_sfits depth 2

pub returns : goal.returns
returns c = search all_is depth 2
