-- What lent::put_number ensures, by the laws of Spelling.
use Rattle.page.proofs.Spelling.{number_line}
use Rattle.page.proofs.lent.put_number.Goals as goal

pub returns : goal.returns
returns c = search number_line depth 1
