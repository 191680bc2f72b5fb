-- What Search::answered ensures, by the laws of Answering.
use Rattle.items.proofs.Answering.{at_within, at_beyond, room_within, room_beyond}
use Rattle.items.proofs.Search.answered.Goals as goal

pub returns-then-is_within-clause-answer : goal.returns-then-is_within-clause-answer
returns-then-is_within-clause-answer c = search at_within depth 2

pub returns-then-is_within-clause-bytes : goal.returns-then-is_within-clause-bytes
returns-then-is_within-clause-bytes c = search room_within depth 2

pub returns-clause-answer : goal.returns-clause-answer
returns-clause-answer c = search at_beyond depth 2

pub returns-clause-bytes : goal.returns-clause-bytes
returns-clause-bytes c = search room_beyond depth 2
