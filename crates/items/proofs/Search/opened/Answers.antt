-- What Search::opened ensures, by the laws of Searching.
use Rattle.std.proofs.Common.{rules}
use Rattle.items.proofs.Searching.{opened_here, opened_on, opened_not}
use Rattle.items.proofs.Search.opened.Goals as goal

pub returns-then-not-self : goal.returns-then-not-self
returns-then-not-self c = search (opened_not, rules) depth 3

pub returns-then-self-eq1 : goal.returns-then-self-eq1
returns-then-self-eq1 c = search (opened_here, rules) depth 3

pub returns : goal.returns
returns c = search (opened_on, rules) depth 3
