-- What Search::hand_out ensures, by the laws of Answering.
use Rattle.items.proofs.Answering.{by_refusal, by_none, by_room, by_item, room_refused, room_none, room_small, room_filled}
use Rattle.items.proofs.Search.hand_out.Goals as goal

-- a file that is refused
pub returns-then-file-ne0-clause-answer : goal.returns-then-file-ne0-clause-answer
returns-then-file-ne0-clause-answer c = search by_refusal depth 2

pub returns-then-file-ne0-clause-bytes : goal.returns-then-file-ne0-clause-bytes
returns-then-file-ne0-clause-bytes c = search room_refused depth 2

-- no such item
pub returns-then-is_none-clause-answer : goal.returns-then-is_none-clause-answer
returns-then-is_none-clause-answer c = search by_none depth 2

pub returns-then-is_none-clause-bytes : goal.returns-then-is_none-clause-bytes
returns-then-is_none-clause-bytes c = search room_none depth 2

-- a room that is too small
pub returns-then-out-lt128-clause-answer : goal.returns-then-out-lt128-clause-answer
returns-then-out-lt128-clause-answer c = search by_room depth 2

pub returns-then-out-lt128-clause-bytes : goal.returns-then-out-lt128-clause-bytes
returns-then-out-lt128-clause-bytes c = search room_small depth 2

-- the item
pub returns-clause-answer : goal.returns-clause-answer
returns-clause-answer c = search by_item depth 2

pub returns-clause-bytes : goal.returns-clause-bytes
returns-clause-bytes c = search room_filled depth 2
