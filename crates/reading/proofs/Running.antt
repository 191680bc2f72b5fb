-- Lines one after the other, and the line reader over the first. Assumes nothing.
use Prim.Native.Nat.{ℕ, ◌+◌, ◌-◌, ◌≤◌, ◌<◌}
use mathlib.Core.Path.{◌≡◌, sym, ap, ◌∙◌, subst}
use mathlib.Core.List.{List}
use native.Mathlib.Omega.{arith}
use borrow.Author.Tests.{eq-eqb, ne_eqb}
use lib.ListN.{length, take, drop, length-drop}
use lib.Seq.{drop-drop}
use lib.Dec.{eqb}
use Rattle.machine.specs.Lists.{pick}
use Rattle.machine.proofs.Base.{drop_rest}
use Rattle.format.specs.Cutting.{cut_of, next_line, after_next, lines_in}
use Rattle.format.proofs.Cutting.{cut_bytes, next_fifty, cut_own, whole_long, lines_first, lines_none}
use Rattle.std.specs.Prelude.{Some, None, Ok, Err, is_some}
use Rattle.field.proofs.Results as Results
use Rattle.record.specs.declared.Fault as code
use Rattle.reading.specs.declared.Judged as judged
use Rattle.reading.specs.declared.Accepted.{Accepted}
use Rattle.reading.specs.Step.{refused, judged_first, judged_read, number_by, bytes_by, code_by}
use Rattle.reading.specs.Check.{judged_after}
use Rattle.reading.specs.declared.State.{State}
use Rattle.reading.specs.Step.{Judged}
use Rattle.machine.proofs.Base.{true≢false}
use Rattle.reading.proofs.Verdicts.{Taken, takes, First, beyond, halted, moved, first}

-- the first line is judged by its own bytes alone
pub first_own : (s : State) (xs : List ℕ) → judged_first s (next_line xs) ≡ judged_first s xs
unfolding judged_first
first_own s xs = rw (cut_own xs, next_fifty xs)

-- what the first line comes to, and the lines after it
abbrev pub going_on : Judged → List (List ℕ) → Judged
going_on first lines = pick (eqb first.number 0) (judged_after first lines) first

pub lines_on : (j : Judged) (xs : List ℕ) → 0 < length xs → judged_after j (lines_in xs) ≡ going_on (judged_first j.next xs) (lines_in (after_next xs))
unfolding judged_after
lines_on j xs h = ap (judged_after j) (lines_first xs h) ∙ ap (λ i. going_on i (lines_in (after_next xs))) (first_own j.next xs)

-- ## The loop

-- the lines from a place on, after the last one read, come to what all do
pub record Running (start : State) (bytes : List ℕ) (last : Judged) (at : ℕ) : Type 0 where
  pub rest : judged_after last (lines_in (drop at bytes)) ≡ judged_after (refused start 0 0) (lines_in bytes)

pub run_all : {start : State} {bytes : List ℕ} {last : Judged} {at : ℕ} → Running start bytes last at → length bytes ≤ at → last ≡ judged_after (refused start 0 0) (lines_in bytes)
unfolding judged_after
run_all {bytes = bytes} {last} {at} r l = sym (ap (judged_after last) (lines_none bytes at l)) ∙ r.rest

module _ {start : State} {bytes : List ℕ} {last : Judged} {at : ℕ} {j : Judged} (r : Running start bytes last at) (l : at < length bytes) (e : j ≡ judged_first last.next (take (length bytes - at) (drop at bytes))) where
  left : 0 < length (drop at bytes)
  left = rw length-drop (omega arith)

  is_first : j ≡ judged_first last.next (drop at bytes)
  is_first = e ∙ ap (judged_first last.next) (drop_rest bytes at)

  one : going_on j (lines_in (after_next (drop at bytes))) ≡ judged_after (refused start 0 0) (lines_in bytes)
  one = ap (λ i. going_on i (lines_in (after_next (drop at bytes)))) is_first ∙ sym (lines_on last (drop at bytes) left) ∙ r.rest

  pub run_stop : (j.number ≡ 0 → ⊥) → j ≡ judged_after (refused start 0 0) (lines_in bytes)
  unfolding pick
  run_stop z = rw (ne_eqb _ _ z) at one

  module _ (z : j.number ≡ 0) where
    first_taken : Taken last.next (drop at bytes)
    first_taken = takes last.next (drop at bytes) (sym (ap (λ (i : Judged). i.number) is_first) ∙ z)

    -- it took the first line's bytes
    took : j.bytes ≡ (cut_of (drop at bytes)).bytes
    took = ap (λ (i : Judged). i.bytes) (is_first ∙ first_taken.is)

    pub run_inside : at + j.bytes ≤ length bytes
    run_inside = omega (arith, took, whole_long last.next.before.ending (drop at bytes) first_taken.whole, length-drop at bytes)

    pub run_less : length bytes - (at + j.bytes) < length bytes - at
    run_less = omega (arith, took, cut_bytes (drop at bytes))

    pub run_more : Running start bytes j (at + j.bytes)
    unfolding pick
    run_more =
        let d : after_next (drop at bytes) ≡ drop (at + j.bytes) bytes = drop-drop (cut_of (drop at bytes)).bytes at bytes ∙ ap (λ n. drop (at + n) bytes) (sym took) in
        record { rest = ap (λ ys. judged_after j (lines_in ys)) (sym d) ∙ (rw (eq-eqb _ _ z) at one) }

-- ### By what the judging of a line hands out

-- where nothing is refused of a line, it has a code
pub coded : (s : State) (xs : List ℕ) (j : Judged) → j ≡ judged_first s xs → j.number ≡ 0 → j.code ≡ None → ⊥
coded s xs j e = by (subst (First s xs) (sym e) (first s xs))
  where
    by : {j : Judged} → First s xs j → j.number ≡ 0 → j.code ≡ None → ⊥
    by (beyond w) z e = let q : ◌≡◌ {A = ℕ} 24 0 = z in omega arith
    by (halted w c n y) z e = y z
    by (moved w k c a f) z e = true≢false (ap is_some e)

module _ {start : State} {bytes : List ℕ} {last : Judged} {at : ℕ} (r : Running start bytes last at) (l : at < length bytes) (j : judged.Judged) (e : judged_read j ≡ judged_first last.next (take (length bytes - at) (drop at bytes))) where
  pub loop_refused : {f : code.Fault} → j.last ≡ Err f → judged_read j ≡ judged_after (refused start 0 0) (lines_in bytes)
  loop_refused {f} w = run_stop r l e (λ z. Results.refused f.refusal (sym (ap number_by w) ∙ z))

  pub loop_none : j.last ≡ Ok None → judged_read j ≡ judged_after (refused start 0 0) (lines_in bytes)
  loop_none w = absurd (coded last.next (take (length bytes - at) (drop at bytes)) (judged_read j) e (ap number_by w) (ap code_by w))

  module _ {a : Accepted} (w : j.last ≡ Ok (Some a)) where
    pub loop_inside : at + a.bytes ≤ length bytes
    loop_inside = subst (λ n. at + n ≤ length bytes) (ap bytes_by w) (run_inside r l e (ap number_by w))

    pub loop_less : length bytes - (at + a.bytes) < length bytes - at
    loop_less = subst (λ n. length bytes - (at + n) < length bytes - at) (ap bytes_by w) (run_less r l e (ap number_by w))

    pub loop_more : Running start bytes (judged_read j) (at + a.bytes)
    loop_more = subst (λ n. Running start bytes (judged_read j) (at + n)) (ap bytes_by w) (run_more r l e (ap number_by w))
