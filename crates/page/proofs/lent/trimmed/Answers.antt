-- What lent::trimmed ensures, by the laws of Spelling.
use borrow.Author.Rules.{rules}
use Rattle.page.proofs.Spelling.{zeros_trimmed}
use Rattle.page.proofs.lent.trimmed.Goals as goal

pub returns : goal.returns
returns c = search (zeros_trimmed, rules) depth 2
