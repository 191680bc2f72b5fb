-- What was taken of a buffer, and what is left of it.
use Rattle.std.specs.Prelude.{ℕ, ◌+◌, ◌≡◌, List, ◌++◌, Bool, true, false, ◌||◌, length, take, drop, leb, ltb}
use Rattle.std.specs.List.{FoldsTo}
use Rattle.machine.specs.Lists.{pick}
use Rattle.format.specs.Cutting.{cut_of, next_line}
use Rattle.streams.specs.declared.lines.Lines.{Lines}
use Rattle.streams.specs.declared.input.Input.{Input}
use Rattle.streams.specs.declared.twice.Source.{Source}

abbrev pub unread_if : Bool → Lines
unread_if failed = record { at = 0; end = 0; over = failed; failed = failed }

-- before the first read
abbrev pub unread : Lines
unread = unread_if false

-- some of the buffer is not taken yet
abbrev pub has_left : Lines → Bool
has_left l = ltb l.at l.end

-- the bytes that are not
abbrev pub left_in : Lines → List ℕ → List ℕ
left_in l buffer = drop l.at (take l.end buffer)

-- all bytes of the line that stands next are among them, or no more will come
abbrev pub is_ready : Lines → List ℕ → Bool
is_ready l buffer = l.over || leb (cut_of (left_in l buffer)).bytes (length (left_in l buffer))

-- the buffer with them at its front; what stands behind them stays
abbrev pub carried_in : Lines → List ℕ → List ℕ
carried_in l buffer = left_in l buffer ++ drop (length (left_in l buffer)) buffer

-- one line more is taken
abbrev pub passed_one : Lines → List ℕ → Lines
passed_one l buffer = record { at = l.at + length (next_line (left_in l buffer)); end = l.end; over = l.over; failed = l.failed }

-- l with its buffer b became r with b': the buffer was filled again where that was due
pub record Pulled (l : Lines) (b : List ℕ) (r : Lines) (b' : List ℕ) : Type 0 where
  -- something is left, or the input is over
  pub left : (has_left r || r.over) ≡ true
  -- it was not due: nothing is changed
  pub kept : r ≡ pick (is_ready l b) l r
  pub bytes : b' ≡ pick (is_ready l b) b b'
  -- what was left comes first in what is left now
  pub carried : take (length (left_in l b)) (left_in r b') ≡ left_in l b

-- a temporary file, read from its start; an input, read from an offset on
abbrev pub from_start : Input → Source
from_start input = record { input = input; start = 0; temporary = true }

abbrev pub from_offset : Input → ℕ → Source
from_offset input start = record { input = input; start = start; temporary = false }

-- lines were taken one after the other, the last of them this one
pub record Took {A : Type 0} (takes : A → List ℕ → A → Type 0) (first : A) (line : List ℕ) (last : A) : Type 0 where
  pub lines : List (List ℕ)
  pub before : A
  pub through : FoldsTo takes first lines before
  pub at : takes before line last
