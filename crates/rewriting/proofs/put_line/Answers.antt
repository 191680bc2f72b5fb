-- What put_line ensures, by the laws of Copying.
use borrow.Author.Rules.{rules}
use Rattle.rewriting.proofs.Copying.{line_puts, some_long}
use Rattle.rewriting.proofs.put_line.Goals as goal

pub returns-then-is_city-clause-next : goal.returns-then-is_city-clause-next
returns-then-is_city-clause-next c = search (line_puts, rules) depth 5

pub returns-then-is_city-clause-bytes : goal.returns-then-is_city-clause-bytes
returns-then-is_city-clause-bytes c = search (line_puts, rules) depth 5

pub overflow_add-result : goal.overflow_add-result
overflow_add-result c =
    let long = some_long _ c.is_city.ensures c.if-is_city.false c.part-text.ensures in
    search rules

pub returns-clause-next : goal.returns-clause-next
returns-clause-next c = search (line_puts, rules) depth 5

pub returns-clause-bytes : goal.returns-clause-bytes
returns-clause-bytes c = search (line_puts, rules) depth 5
