-- What is known of an input that was checked, although no contract can say which bytes C read.
use Rattle.std.specs.Prelude.{ℕ, ◌≡◌, List, ◌++◌, take}
use Rattle.format.specs.Cutting.{next_line}
use Rattle.reading.specs.Step.{step_at}
use Rattle.reading.specs.declared.State.{State}
use Rattle.file.specs.Reached.{Reached}
use Rattle.file.specs.Totals.{RunTotals}
use Rattle.streams.specs.Taking.{left_in}
use Rattle.checking.specs.declared.Checked.{Checked}
use Rattle.checking.specs.declared.run.Run.{Run}

-- after a run of the reader its answer is that of the next line of the buffer, which is empty at the input's end, and its state the one after it
pub record Answered (c : Checked) (buffer : List ℕ) : Type 0 where
  pub read : List ℕ
  pub before : State
  pub bytes : List ℕ
  pub run : Reached read before
  pub next : bytes ≡ next_line (left_in c.lines buffer)
  pub answer : c.answer ≡ (step_at before bytes).answer
  pub state : c.state ≡ (step_at before bytes).next
  -- its totals are the sums over the items of the batches that the lines read close
  pub totals : RunTotals (read ++ take (step_at before bytes).bytes bytes) c.state

-- a step of the reader, on those bytes
abbrev pub Steps : Run → List ℕ → Run → Type 0
Steps r bytes r' = (r'.answer ≡ (step_at r.state bytes).answer) × (r'.state ≡ (step_at r.state bytes).next)
