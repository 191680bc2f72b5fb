-- What write_line ensures, by the laws of Pasting.
use Rattle.writer.proofs.Pasting.{by_refusal, by_room, by_acceptance, room_refused, room_small, room_filled}
use Rattle.writer.proofs.write_line.Goals as goal

pub returns-then-r-ne0-clause-answer : goal.returns-then-r-ne0-clause-answer
returns-then-r-ne0-clause-answer c = search by_refusal depth 2

pub returns-then-r-ne0-clause-bytes : goal.returns-then-r-ne0-clause-bytes
returns-then-r-ne0-clause-bytes c = search room_refused depth 2

pub returns-then-out-lt-LINE-clause-answer : goal.returns-then-out-lt-LINE-clause-answer
returns-then-out-lt-LINE-clause-answer c = search by_room depth 2

pub returns-then-out-lt-LINE-clause-bytes : goal.returns-then-out-lt-LINE-clause-bytes
returns-then-out-lt-LINE-clause-bytes c = search room_small depth 2

pub returns-clause-answer : goal.returns-clause-answer
returns-clause-answer c = search by_acceptance depth 2

pub returns-clause-bytes : goal.returns-clause-bytes
returns-clause-bytes c = search room_filled depth 2
