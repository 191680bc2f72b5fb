-- What item ensures, by the laws of Answering and Promising.
use Rattle.items.proofs.Answering.{item_via, room_via}
use Rattle.items.proofs.Promising.{promised_via}
use Rattle.items.proofs.answer.item.Goals as goal

pub returns-clause-answer : goal.returns-clause-answer
returns-clause-answer c = search item_via depth 2

pub returns-clause-bytes : goal.returns-clause-bytes
returns-clause-bytes c = search room_via depth 2

pub returns-clause-meaning : goal.returns-clause-meaning
returns-clause-meaning c = search promised_via depth 2
