-- What lent::put_digits ensures, by the laws of Spelling.
use Rattle.page.proofs.Spelling.{number_put}
use Rattle.page.proofs.lent.put_digits.Goals as goal

pub returns : goal.returns
returns c = search number_put depth 1
