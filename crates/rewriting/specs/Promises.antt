-- WHAT WRITING AGAIN PROMISES of an accepted file.
use Rattle.std.specs.Prelude.{ℕ, ◌≡◌, List, [], ◌∷◌, ◌++◌, Bool, true, not, ◌&&◌, take, Ok}
use Rattle.std.proofs.Math.Option.{none, some}
use Rattle.machine.specs.Lists.{pick}
use Rattle.format.specs.Records.{code}
use Rattle.format.specs.declared.Kind.{Kind}
use Rattle.format.specs.Language.{File, Rec, file_recs, Valid, crlf, end_bytes, lines_of, Reads}
use Rattle.format.specs.Answers.{accepted}
use Rattle.format.specs.Cutting.{after_next, lines_in}
use Rattle.format.specs.Statements.{InLanguage}
use Rattle.reading.specs.State.{start_state}
use Rattle.reading.specs.Step.{step_at}
use Rattle.reading.specs.Check.{check_of}
use Rattle.reading.specs.declared.State.{State}
use Rattle.writer.specs.Entries.{line_for}
use Rattle.writer.specs.Writing.{written_of}
use Rattle.writer.specs.Promises.{entry_of}
use Rattle.writer.specs.declared.Entry.{Entry}
use Rattle.record.specs.Kinds.{is_city}
use Rattle.rewriting.specs.declared.Rewritten.{Rewritten}

-- none of some lines is a city's
unfoldable pub no_city : List (List ℕ) → Bool
no_city [] = true
no_city (line ∷ lines) = not (is_city line) && no_city lines

-- s reads a file line by line, and of each record that is no city's w writes what the writer does: the line of its record and text, which the writer accepts, and the writer's next state
pub data Rewrites : State → State → List ℕ → List ℕ → Type 0 where
  ended : (s w : State) → Rewrites s w [] []
  city : {s w : State} {x : ℕ} {xs out : List ℕ} → (step_at s (x ∷ xs)).answer.number ≡ accepted → entry_of (step_at s (x ∷ xs)).read ≡ none
      → Rewrites (step_at s (x ∷ xs)).next w (after_next (x ∷ xs)) out → Rewrites s w (x ∷ xs) out
  written : {s w u : State} {x : ℕ} {xs out : List ℕ} (e : Entry) → (step_at s (x ∷ xs)).answer.number ≡ accepted → entry_of (step_at s (x ∷ xs)).read ≡ some e
      → written_of w e (step_at s (x ∷ xs)).text 52 ≡ Ok u
      → Rewrites (step_at s (x ∷ xs)).next u (after_next (x ∷ xs)) out
      → Rewrites s w (x ∷ xs) (line_for w e (step_at s (x ∷ xs)).text ++ out)

abbrev pub is_city_kind : Kind → Bool
is_city_kind k = is_city (code k)

-- some records but those of cities
unfoldable pub kept_recs : List Rec → List Rec
kept_recs [] = []
kept_recs (r ∷ rs) = pick (is_city_kind r.0) (kept_recs rs) (r ∷ kept_recs rs)

-- of the bytes written
pub record Again (file bytes : List ℕ) : Type 0 where
  -- of a file with 13, 10 and without city records: the same file
  pub same_file : (f : File) → Valid f → file ≡ lines_of (end_bytes crlf) (file_recs f) → no_city (lines_in file) ≡ true → bytes ≡ file
  -- of every file, whichever end its lines have: the records of its reading but those of cities, in lines that end with 13, 10
  pub only_ends : (f : File) → Reads file f → bytes ≡ lines_of (end_bytes crlf) (kept_recs (file_recs f))
  -- of every file: the reader accepts them, so they are a file of the language, and none of it is a city record
  pub accepted_again : (check_of bytes).number ≡ accepted
  pub in_language : InLanguage bytes
  pub without_cities : no_city (lines_in bytes) ≡ true
  -- and they are what the writer writes of the file's records but cities, one after the other from its own start
  pub by_writer : Rewrites start_state start_state file bytes

-- an answer, and the room after it
unfoldable pub Promised : List ℕ → Rewritten → List ℕ → Type 0
Promised file r out = r.answer.number ≡ accepted → Again file (take r.written out)
