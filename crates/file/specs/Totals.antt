-- FILE TOTALS (02): what the batches of a file come to, and those that its first lines close.
use Rattle.std.specs.Prelude.{◌≡◌, ◌≢◌, List, [], ◌∷◌, ◌++◌, ℕ, suc, ◌+◌, ◌-◌, length, take}
use Rattle.machine.specs.Lists.{pick}
use Rattle.format.specs.Language.{Rec, Batch, File, total_of, file_recs, Reads}
use Rattle.format.specs.Answers.{accepted}
use Rattle.format.specs.Cutting.{first_lines, AreLines}
use Rattle.format.specs.Statements.{Completable}
use Rattle.format.specs.declared.Answer.{Answer}
use Rattle.record.specs.Kinds.{is_batch_trailer}
use Rattle.record.specs.declared.Totals.{Totals}
use Rattle.reading.specs.declared.State.{State}

-- ## Of batches

-- 'the number of items'
abbrev pub items_in : List Batch → ℕ
items_in [] = 0
items_in (b ∷ bs) = length b.items + items_in bs

-- 'the total amount'
abbrev pub amount_in : List Batch → ℕ
amount_in [] = 0
amount_in (b ∷ bs) = total_of b.items + amount_in bs

-- 'They equal the sums over the closed batches' items'
pub record Sums (t : Totals) (bs : List Batch) : Type 0 where
  pub items : t.items ≡ items_in bs
  pub amount : t.amount ≡ amount_in bs

-- ## Of lines

abbrev pub trailers_in : List Rec → ℕ
trailers_in [] = 0
trailers_in (r ∷ rs) = pick (is_batch_trailer r.0) (suc (trailers_in rs)) (trailers_in rs)

-- the batches of a file that its first n lines close: as many as these have trailers
abbrev pub closed_by : ℕ → File → List Batch
closed_by n f = take (trailers_in (take n (file_recs f))) f.batches

-- totals after n lines: of every file that these can be completed to, the sums over the batches that they close
abbrev pub SumsAfter : ℕ → List ℕ → Totals → Type 0
SumsAfter n lines t = (f : File) (rest : List ℕ) → Reads (lines ++ rest) f → Sums t (closed_by n f)

-- THE TOTALS OF A STATE OF A RUN, by the lines that led to it
pub record RunTotals (lines : List ℕ) (s : State) : Type 0 where
  -- they are as many as it has counted
  pub lines_read : AreLines s.line lines
  -- some file begins with them
  pub completable : Completable lines
  -- and of every one they are the sums over the batches closed so far
  pub sums : SumsAfter s.line lines s.totals

-- the totals that a whole file's answer comes with
pub record Totalled (b : List ℕ) (a : Answer) (t : Totals) : Type 0 where
  -- OF A FILE OF THE LANGUAGE the sums over its batches' items
  pub whole : (f : File) → Reads b f → Sums t f.batches
  -- OF A REFUSED ONE those over the batches that the lines before the named one close
  pub before_refusal : a.number ≢ accepted → SumsAfter (a.line - 1) (first_lines (a.line - 1) b) t
