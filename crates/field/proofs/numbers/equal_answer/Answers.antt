use Rattle.field.proofs.Results.{results}
use Rattle.field.proofs.numbers.equal_answer.Goals as goal

pub returns-then-total-right : goal.returns-then-total-right
returns-then-total-right c = search (results, c.in_ok-total.was) depth 4 fits 10000

pub returns : goal.returns
returns c = search (results, c.in_ok-total.was) depth 4 fits 10000
