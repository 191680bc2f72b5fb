-- What lent::put_answer ensures, by the laws of Spelling.
use Rattle.page.proofs.Spelling.{answer_put}
use Rattle.page.proofs.lent.put_answer.Goals as goal

pub returns : goal.returns
returns c = search answer_put depth 1
