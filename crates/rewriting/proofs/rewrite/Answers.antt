-- What rewrite ensures, by the laws of Copying and Again.
use Rattle.rewriting.proofs.Copying.{by_refusal, by_room, by_acceptance, room_refused, room_small, room_filled, copy_asked}
use Rattle.rewriting.proofs.Again.{promise_none, promise_small, promise_met}
use Rattle.rewriting.proofs.rewrite.Goals as goal

-- a file that is refused
pub returns-then-answer-ne0-clause-answer : goal.returns-then-answer-ne0-clause-answer
returns-then-answer-ne0-clause-answer c = search by_refusal depth 2

pub returns-then-answer-ne0-clause-bytes : goal.returns-then-answer-ne0-clause-bytes
returns-then-answer-ne0-clause-bytes c = search room_refused depth 2

pub returns-then-answer-ne0-clause-again : goal.returns-then-answer-ne0-clause-again
returns-then-answer-ne0-clause-again c = search promise_none depth 2

-- a room that is too small
pub returns-then-out-n-clause-answer : goal.returns-then-out-n-clause-answer
returns-then-out-n-clause-answer c = search by_room depth 2

pub returns-then-out-n-clause-bytes : goal.returns-then-out-n-clause-bytes
returns-then-out-n-clause-bytes c = search room_small depth 2

pub returns-then-out-n-clause-again : goal.returns-then-out-n-clause-again
returns-then-out-n-clause-again c = search promise_small depth 2

-- a file that is written
pub copy-requires : goal.copy-requires
copy-requires c = search copy_asked depth 2

pub returns-clause-answer : goal.returns-clause-answer
returns-clause-answer c = search by_acceptance depth 2

pub returns-clause-bytes : goal.returns-clause-bytes
returns-clause-bytes c = search room_filled depth 2

pub returns-clause-again : goal.returns-clause-again
returns-clause-again c = search promise_met depth 2
