-- What lent::put_euros ensures, by the laws of Spelling.
use Rattle.page.proofs.Spelling.{euros_put}
use Rattle.page.proofs.lent.put_euros.Goals as goal

pub returns : goal.returns
returns c = search euros_put depth 1
