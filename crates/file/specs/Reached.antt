-- The states of a run: from before the first line, step by step, whatever the bytes, each with the lines read to it.
use Rattle.std.specs.Prelude.{ℕ, List, [], ◌++◌, take}
use Rattle.reading.specs.State.{start_state}
use Rattle.reading.specs.Step.{step_at}
use Rattle.reading.specs.declared.State.{State}

pub data Reached : List ℕ → State → Type 0 where
  at_start : Reached [] start_state
  -- a step reads the bytes that it takes: none, where the line is refused
  one_step : {lines : List ℕ} {s : State} (bytes : List ℕ) → Reached lines s → Reached (lines ++ take (step_at s bytes).bytes bytes) (step_at s bytes).next

-- whatever the lines
unfoldable pub InRun : State → Type 0
InRun s = (lines : List ℕ) × Reached lines s
