use Rattle.field.proofs.Results.{results}
use Rattle.field.proofs.dates.date.Goals as goal

pub returns-then-is_date : goal.returns-then-is_date
returns-then-is_date c = search (results, c.in_ok-date.was) depth 4 fits 10000

pub returns : goal.returns
returns c = search (results, c.in_ok-date.was) depth 4 fits 10000
