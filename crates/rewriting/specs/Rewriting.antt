-- What a file to write again is answered, and the lent room after it.
use Rattle.std.specs.Prelude.{ℕ, List, length, leb, eqb}
use Rattle.machine.specs.Lists.{pick, put_in}
use Rattle.format.specs.Answers.{accepted, no_room, refusal}
use Rattle.format.specs.declared.Answer.{Answer}
use Rattle.reading.specs.Check.{check_of}
use Rattle.rewriting.specs.Cities.{without_cities}
use Rattle.rewriting.specs.declared.Rewritten.{Rewritten}

abbrev pub answered : Answer → ℕ → Rewritten
answered a written = record { answer = a; written = written }

-- by the file's own answer, the bytes to write and the room: '12 comes last and only where nothing else applies'
abbrev pub rewritten_by : Answer → ℕ → ℕ → Rewritten
rewritten_by a n room =
    pick (eqb a.number accepted)
    (pick (leb n room) (answered a n)
    (answered (refusal no_room a.line 0) 0))
    (answered a 0)

-- the bytes at the front, where they fit, and those after them as they were
abbrev pub room_by : Answer → List ℕ → List ℕ → List ℕ
room_by a bytes out = pick (eqb a.number accepted) (put_in out 0 bytes) out

-- THE ANSWER to a file to write again, with so much room
unfoldable pub rewritten_of : List ℕ → ℕ → Rewritten
rewritten_of file room = rewritten_by (check_of file) (length (without_cities file)) room

-- THE ROOM after it
unfoldable pub room_after : List ℕ → List ℕ → List ℕ
room_after file out = room_by (check_of file) (without_cities file) out
