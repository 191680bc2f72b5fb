-- WHAT REMAINS OF A FILE BY ITS FIRST LINE: its answer and its records are the first line's, and those of the bytes after it. Assumes nothing.
use Prim.Native.Nat.{ℕ, ◌<◌}
use mathlib.Core.Path.{◌≡◌, refl, sym, ap, ap₂, ◌∙◌}
use mathlib.Core.List.{List, [], ◌∷◌}
use mathlib.Core.Bool.{Bool, true, false}
use native.Mathlib.Omega.{arith}
use borrow.Author.Tests.{eq-eqb, ne_eqb}
use lib.ListN.{length, take}
use lib.Seq.{take_all}
use lib.Dec.{eqb}
use Rattle.machine.specs.Lists.{pick}
use Rattle.format.specs.declared.Answer.{Answer}
use Rattle.format.specs.Cutting.{cut_of, next_line, after_next, lines_from, lines_in}
use Rattle.format.proofs.Cutting.{next_fifty, line_inside, lines_first}
use Rattle.record.specs.declared.Record.{Record}
use Rattle.reading.specs.State.{within}
use Rattle.reading.specs.Step.{refused, read_by, ended_at, step_at}
use Rattle.reading.specs.Check.{judged_after, judged_lines, answer_by, rest_of, records_after}
use Rattle.reading.specs.declared.State.{State}
use Rattle.reading.specs.Step.{Judged}
use Rattle.reading.specs.declared.LineRead.{LineRead}
use Rattle.reading.proofs.Judgements.{first_beyond}
use Rattle.reading.proofs.Running.{first_own, going_on, lines_on}
use Rattle.reading.proofs.Verdicts.{taken_as, First, beyond, halted, moved, first}
use Rattle.reading.proofs.Answers.{step_first}

-- after a line that was taken only the state counts
after_taken : (j : Judged) (ys : List ℕ) → j.number ≡ 0 → answer_by (judged_after j (lines_in ys)) ≡ rest_of j.next ys
unfolding rest_of judged_lines judged_after lines_from ended_at pick
after_taken j ys z = by (within v) ys refl
  where
    v : State
    v = j.next

    by : (q : Bool) (ys : List ℕ) → within v ≡ q → answer_by (judged_after j (lines_in ys)) ≡ answer_by (pick q (judged_after (refused v 0 0) (lines_in ys)) (refused v 0 24))
    by true [] w = rw (eq-eqb j.number 0 z)
    by false [] w = rw (eq-eqb j.number 0 z, w)
    by true (y ∷ ys) w =
        let h : 0 < length (y ∷ ys) = omega arith in
        ap answer_by (lines_on j (y ∷ ys) h ∙ sym (lines_on (refused v 0 0) (y ∷ ys) h))
    by false (y ∷ ys) w =
        let h : 0 < length (y ∷ ys) = omega arith in
        ap answer_by (lines_on j (y ∷ ys) h ∙ ap (λ i. going_on i (lines_in (after_next (y ∷ ys)))) (sym (first_beyond v (y ∷ ys) w refl)))

abbrev pub rest_with : LineRead → List ℕ → Answer
rest_with r ys = pick (eqb r.answer.number 0) (rest_of r.next ys) r.answer

by_first : {s : State} {xs : List ℕ} {j : Judged} (ys : List ℕ) → First s xs j → answer_by (pick (within s) (going_on j (lines_in ys)) (refused s 0 24)) ≡ rest_with (read_by (take 50 xs) j.code j) ys
unfolding pick
by_first ys (beyond w) = rw w refl
by_first ys (halted w c n z) = rw (w, ne_eqb n 0 z) (rw (ne_eqb n 0 z) refl)
by_first {s} {xs} ys (moved w k c a f) = rw w (after_taken (taken_as s k xs) ys refl)

pub rest_first : (s : State) (xs : List ℕ) → 0 < length xs → rest_of s xs ≡ rest_with (step_at s xs) (after_next xs)
unfolding rest_of judged_lines
rest_first s xs h =
    ap (λ j. answer_by (pick (within s) j (refused s 0 24))) (lines_on (refused s 0 0) xs h)
    ∙ by_first (after_next xs) (first s xs)
    ∙ ap (λ r. rest_with r (after_next xs)) (sym (step_first s xs h))

-- a line is answered by its own bytes alone
pub step_own : (s : State) (xs : List ℕ) → step_at s (next_line xs) ≡ step_at s xs
step_own s [] = ap (step_at s) (take_all (cut_of []).bytes [] (omega arith))
step_own s (x ∷ xs) =
    step_first s (next_line (x ∷ xs)) (line_inside (x ∷ xs) 0 (omega arith) refl).0
    ∙ ap₂ (λ l j. read_by l j.code j) (next_fifty (x ∷ xs)) (first_own s (x ∷ xs))
    ∙ sym (step_first s (x ∷ xs) (omega arith))

-- ## Its records

abbrev pub records_with : LineRead → List ℕ → List (Record × List ℕ)
records_with r ys = pick (eqb r.answer.number 0) ((r.read, r.text) ∷ records_after r.next (lines_in ys)) []

pub records_first : (s : State) (xs : List ℕ) → 0 < length xs → records_after s (lines_in xs) ≡ records_with (step_at s xs) (after_next xs)
unfolding records_after
records_first s xs h = ap (records_after s) (lines_first xs h) ∙ ap (λ r. records_with r (after_next xs)) (step_own s xs)
