-- WHAT THE WRITER PROMISES: what is written is what the reader reads, what was read is written again as the same line but for its end, and what a field cannot carry is refused there.
use Rattle.format.specs.declared.LineEnd.TheVariants.{CrLf}
use Rattle.std.specs.Prelude.{ℕ, ◌+◌, ◌≤◌, ◌≡◌, ◌≢◌, List, [], ◌∷◌, ◌++◌, Bool, true, not, ◌&&◌, take, drop, leb, Some, Result, Ok, IsErrAnd}
use Rattle.std.proofs.Math.Option.{Option, none, some}
use Rattle.machine.specs.Lists.{pick, all, is_space}
use Rattle.machine.specs.Digits.{pow10}
use Rattle.format.specs.Fields.{Field, numeric, filled, optional, free, filler, width, printable}
use Rattle.format.specs.Records.{layout}
use Rattle.format.specs.Cutting.{is_open, cut_of, next_line, EndingSoFar}
use Rattle.format.specs.Answers.{accepted, wrong_form, acceptance}
use Rattle.format.specs.declared.Answer.{Answer}
use Rattle.record.specs.declared.Record.{Record}
use Rattle.record.specs.declared.Record.TheVariants as read
use Rattle.reading.specs.Step.{with_ending, step_at}
use Rattle.reading.specs.declared.State.{State}
use Rattle.reading.specs.declared.LineRead.{LineRead}
use Rattle.writer.specs.Encoding.{Given, Givens, line_end}
use Rattle.writer.specs.Entries.{kind_of, given_for}
use Rattle.writer.specs.Writing.{answer_of}
use Rattle.writer.specs.declared.Entry.{Entry}
use Rattle.writer.specs.declared.Entry.TheVariants.{FileHeader, BatchHeader, FixedDescription, OrderingParty, Transaction, NamePayer, PaymentReference, Description, NameBeneficiary, BatchTrailer, FileTrailer}

-- the record that is read of a record written: a batch trailer's numbers are the state's
abbrev pub record_of : State → Entry → Record
record_of s (FileHeader d i c) = read.FileHeader d i c
record_of s (BatchHeader g a q b) = read.BatchHeader g a q b
record_of s FixedDescription = read.FixedDescription
record_of s (OrderingParty n d b) = read.OrderingParty n d b
record_of s (Transaction x) = read.Transaction x
record_of s NamePayer = read.NamePayer
record_of s PaymentReference = read.PaymentReference
record_of s Description = read.Description
record_of s NameBeneficiary = read.NameBeneficiary
record_of s BatchTrailer = read.BatchTrailer s.batch.total s.batch.accounts s.batch.items
record_of s FileTrailer = read.FileTrailer

-- the record to write of a record that was read: none for a city
abbrev pub entry_of : Record → Option Entry
entry_of read.Nothing = none
entry_of (read.FileHeader d i c) = some (FileHeader d i c)
entry_of (read.BatchHeader g a q b) = some (BatchHeader g a q b)
entry_of read.FixedDescription = some FixedDescription
entry_of (read.OrderingParty n d b) = some (OrderingParty n d b)
entry_of (read.Transaction x) = some (Transaction x)
entry_of read.NamePayer = some NamePayer
entry_of read.CityPayer = none
entry_of read.PaymentReference = some PaymentReference
entry_of read.Description = some Description
entry_of read.NameBeneficiary = some NameBeneficiary
entry_of read.CityBeneficiary = none
entry_of (read.BatchTrailer t a n) = some BatchTrailer
entry_of read.FileTrailer = some FileTrailer

-- whatever follows it in the file, the reader accepts the line from the same state, hands out the record and the text that were given, and goes to the same next state
pub record ReadAsWritten (s : State) (e : Entry) (t : List ℕ) (next : State) (out : List ℕ) : Type 0 where
  pub next_line : next.line ≡ s.line + 1
  pub same_record : (rest : List ℕ) → step_at s (take 52 out ++ rest) ≡ record { answer = acceptance next.line; next = next; bytes = 52; read = record_of s e; text = t }

-- the same answer and next state, but for the ending that the writer fixes, and the same characters with the writer's end
pub record WrittenAsRead (r : LineRead) (xs : List ℕ) (w : Result State Answer) (out : List ℕ) : Type 0 where
  pub same_answer : answer_of w ≡ r.answer
  pub same_state : w ≡ Ok (with_ending (Some CrLf) r.next)
  pub same_characters : take 52 out ≡ take 50 xs ++ line_end
  -- of a line that ends with 13 and 10: the same bytes
  pub same_bytes : (cut_of xs).ending ≡ (Some CrLf) → take 52 out ≡ next_line xs

-- WHAT IS WRITTEN IS READ: what a record is answered, and the room after it
unfoldable pub ReadsBack : State → Entry → List ℕ → Result State Answer → List ℕ → Type 0
ReadsBack s e t w out = (next : State) → w ≡ Ok next → ReadAsWritten s e t next out

-- WHAT WAS READ IS WRITTEN: where there is room and 10 alone is not fixed, a record and text that the reader handed out of a line from the same state, whatever its ending is
unfoldable pub WritesAgain : State → Entry → List ℕ → ℕ → Result State Answer → List ℕ → Type 0
WritesAgain s e t room w out =
    52 ≤ room → is_open s.before.ending (Some CrLf) ≡ true → (y : EndingSoFar) (xs : List ℕ) →
    let r = step_at (with_ending y s) xs in
    r.answer.number ≡ accepted → entry_of r.read ≡ some e → r.text ≡ t → WrittenAsRead r xs w out

-- a text that a field of this width can carry: of 'bytes 32 to 126', with only spaces beyond the field
abbrev pub is_text_fit : ℕ → List ℕ → Bool
is_text_fit w t = all printable (take w t) && all is_space (drop w t)

-- what a field cannot carry: 'A number too large for its field', a text unfit for it, and a text where the record has none
abbrev pub is_unfit : (f : Field) → Given f → Bool
is_unfit (numeric w) n = leb (pow10 w) n
is_unfit (filled w) t = not (is_text_fit w t)
is_unfit (optional w) t = not (is_text_fit w t)
is_unfit (free w) t = not (is_text_fit w t)
is_unfit (filler w) t = not (all is_space t)

-- the column of the first field that cannot carry what is given for it, 0 where each can
abbrev pub unfit_from : ℕ → (fs : List Field) → Givens fs → ℕ
unfit_from c [] x = 0
unfit_from c (f ∷ fs) x = pick (is_unfit f x.0) c (unfit_from (c + width f) fs x.1)

abbrev pub unfit_column : State → Entry → List ℕ → ℕ
unfit_column s e t = unfit_from 6 (layout (kind_of e)) (given_for s t e)

pub record RefusedBy (column : ℕ) (a : Answer) : Type 0 where
  pub refused : a.number ≢ accepted
  pub no_further : a.column ≤ column
  pub form_there : a.column ≡ column → a.number ≡ wrong_form

-- WHAT A FIELD CANNOT CARRY IS REFUSED: 4 at its column, where nothing else is wrong before it
unfoldable pub RefusesUnfit : State → Entry → List ℕ → Result State Answer → Type 0
RefusesUnfit s e t w = unfit_column s e t ≢ 0 → IsErrAnd w (RefusedBy (unfit_column s e t))
