-- What a record to write is answered, and the lent room after it.
use Rattle.std.specs.Prelude.{ℕ, List, ◌++◌, length, drop, leb, eqb, Result, Ok, Err}
use Rattle.machine.specs.Lists.{pick}
use Rattle.format.specs.Answers.{accepted, no_room, refusal, acceptance}
use Rattle.format.specs.declared.Answer.{Answer}
use Rattle.reading.specs.Step.{step_at}
use Rattle.reading.specs.declared.State.{State}
use Rattle.reading.specs.declared.LineRead.{LineRead}
use Rattle.writer.specs.Entries.{line_for}
use Rattle.writer.specs.declared.Entry.{Entry}

-- the answer that the reader gives: an accepted record's line
abbrev pub answer_of : Result State Answer → Answer
answer_of (Ok next) = acceptance next.line
answer_of (Err a) = a

-- by what the reader says of the line, the next state or a refusal: 'It refuses with the number, line and column the reader would give on that line'; '12 comes last and only where nothing else applies'; 'A refusal leaves state and buffer untouched', so it hands out no state
abbrev pub written_by : ℕ → LineRead → Result State Answer
written_by room r = pick (eqb r.answer.number accepted) (pick (leb 52 room) (Ok r.next) (Err (refusal no_room r.answer.line 0))) (Err r.answer)

-- the line at the front, and the bytes after it as they were
abbrev pub room_by : LineRead → List ℕ → List ℕ → List ℕ
room_by r line out = pick (eqb r.answer.number accepted) (pick (leb 52 (length out)) (line ++ drop 52 out) out) out

-- THE ANSWER to a record to write, with so much room
unfoldable pub written_of : State → Entry → List ℕ → ℕ → Result State Answer
written_of s e t room = written_by room (step_at s (line_for s e t))

-- THE ROOM after it
unfoldable pub room_of : State → Entry → List ℕ → List ℕ → List ℕ
room_of s e t out = room_by (step_at s (line_for s e t)) (line_for s e t) out
