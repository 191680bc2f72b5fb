-- What a whole file is answered.
use Rattle.std.specs.Prelude.{ℕ, List, [], ◌∷◌, eqb}
use Rattle.machine.specs.Lists.{pick}
use Rattle.format.specs.Answers.{accepted, beyond_limits}
use Rattle.format.specs.Cutting.{lines_in}
use Rattle.format.specs.declared.Answer.{Answer}
use Rattle.record.specs.declared.Record.{Record}
use Rattle.record.specs.declared.Totals.{Totals}
use Rattle.reading.specs.State.{start_state, within}
use Rattle.reading.specs.Step.{refused, judged_first, refusal_by, ended_at, step_at}
use Rattle.reading.specs.declared.State.{State}
use Rattle.reading.specs.Step.{Judged}
use Rattle.reading.specs.declared.FileRead.{FileRead}

-- lines one after the other up to the first that is refused, after j
unfoldable pub judged_after : Judged → List (List ℕ) → Judged
judged_after j [] = j
judged_after j (line ∷ lines) =
    let first = judged_first j.next line in
    pick (eqb first.number 0) (judged_after first lines) first

-- where nothing is refused, the last line's bytes and code and the state after it; of no bytes, the state as it was
unfoldable pub judged_lines : State → List ℕ → Judged
judged_lines s xs = pick (within s) (judged_after (refused s 0 accepted) (lines_in xs)) (refused s 0 beyond_limits)

abbrev pub answer_by : Judged → Answer
answer_by j = pick (eqb j.number 0) (ended_at j.next) (refusal_by j)

-- what the bytes that remain of a file are answered, its end included
unfoldable pub rest_of : State → List ℕ → Answer
rest_of s xs = answer_by (judged_lines s xs)

unfoldable pub check_of : List ℕ → Answer
check_of file = rest_of start_state file

-- the totals after the bytes that remain, or before the line that is refused
unfoldable pub totals_after : State → List ℕ → Totals
totals_after s xs = (judged_lines s xs).next.totals

unfoldable pub totals_of : List ℕ → Totals
totals_of file = totals_after start_state file

-- answer and totals
abbrev pub read_after : State → List ℕ → FileRead
read_after s xs = record { answer = rest_of s xs; totals = totals_after s xs }

abbrev pub read_of : List ℕ → FileRead
read_of file = record { answer = check_of file; totals = totals_of file }

-- the records of some lines from a state on, each with its text, up to the first line that is refused
unfoldable pub records_after : State → List (List ℕ) → List (Record × List ℕ)
records_after s [] = []
records_after s (line ∷ lines) =
    let r = step_at s line in
    pick (eqb r.answer.number accepted) ((r.read, r.text) ∷ records_after r.next lines) []

-- those of a whole file
unfoldable pub records_of : List ℕ → List (Record × List ℕ)
records_of file = records_after start_state (lines_in file)
