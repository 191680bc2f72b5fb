-- THE TOTALS OF EVERY STATE OF A RUN: some file begins with the lines that led to it, for the check of these stands where the run does; and of every such file they are the sums over the batches closed. Assumes nothing.
use mathlib.Core.Path.{◌≡◌, refl, sym, ap, ◌∙◌, subst}
use mathlib.Core.List.{List, [], ◌++◌, append_assoc, append-nil}
use mathlib.Core.Bool.{Bool, true, false}
use Prim.Native.Nat.{ℕ, ◌+◌, ◌-◌, ◌<◌}
use native.Mathlib.Omega.{arith}
use borrow.Author.Tests.{eq-eqb}
use lib.ListN.{length, take, length-append}
use Rattle.machine.specs.Lists.{pick}
use Rattle.format.specs.Answers.{refusal, acceptance}
use Rattle.format.specs.Cutting.{next_line, after_next, lines_from, lines_in, first_lines, AreLines}
use Rattle.format.specs.Statements.{InLanguage, Completable}
use Rattle.format.specs.declared.Answer.{Answer}
use Rattle.format.proofs.Cutting.{whole_line, next_is, after_is}
use Rattle.reading.specs.State.{start_state}
use Rattle.reading.specs.Step.{refused, is_done, judged_first, refusal_by, ended_at}
use Rattle.reading.specs.Check.{judged_after, check_of}
use Rattle.reading.specs.declared.State.{State}
use Rattle.reading.specs.Step.{Judged}
use Rattle.reading.specs.declared.LineRead.{LineRead}
use Rattle.reading.proofs.Verdicts.{taken_as, Taken}
use Rattle.reading.proofs.Running.{first_own, going_on, lines_on}
use Rattle.reading.proofs.Runs.{judged}
use Rattle.file.specs.Reached.{Reached, at_start, one_step}
use Rattle.file.specs.Totals.{RunTotals}
use Rattle.file.proofs.Meaning.{means}
use Rattle.file.proofs.Reached.{reached_within}
use Rattle.file.proofs.Along.{Stepped, stayed, went, step_cases, reached_sums}
use Rattle.file.proofs.Totalled.{all_gone, totals_are}

-- after them the check stands where the run does
record Led (lines : List ℕ) (s : State) : Type 0 where
  last : Judged
  taken : last.number ≡ 0
  here : last.next ≡ s
  on : (rest : List ℕ) → judged_after (refused start_state 0 0) (lines_in (lines ++ rest)) ≡ judged_after last (lines_in rest)

one_led : (lines : List ℕ) {s : State} {b : List ℕ} (t : Taken s b) → Led lines s → Led (lines ++ next_line b) (taken_as s t.kind b).next
unfolding pick
one_led lines {s} {b} t l =
    let w = whole_line s.before.ending b t.whole in
    record {
      last = taken_as s t.kind b;
      taken = refl;
      here = refl;
      on = λ rest.
          let q = next_line b ++ rest in
          let some : 0 < length q = simp length-append (omega (arith, w.is.long)) in
          let first : judged_first l.last.next q ≡ taken_as s t.kind b
          = ap (λ u. judged_first u q) l.here ∙ sym (first_own s q) ∙ ap (judged_first s) (next_is w.z (next_line b) w.is rest) ∙ first_own s b ∙ t.is in
          ap (λ x. judged_after (refused start_state 0 0) (lines_in x)) (append_assoc lines (next_line b) rest)
          ∙ l.on q
          ∙ lines_on l.last q some
          ∙ ap (λ i. going_on i (lines_in (after_next q))) first
          ∙ ap (λ x. judged_after (taken_as s t.kind b) (lines_in x)) (after_is w.z (next_line b) w.is rest);
    }

led : {lines : List ℕ} {s : State} → Reached lines s → Led lines s
led at_start = record { last = refused start_state 0 0; taken = refl; here = refl; on = λ rest. refl }
led (one_step {lines} {s} bytes r) = by (step_cases s bytes) (led r)
  where
    by : {q : LineRead} → Stepped s bytes q → Led lines s → Led (lines ++ take q.bytes bytes) q.next
    by (stayed a) l = subst (λ x. Led x s) (sym (append-nil lines)) l
    by (went t a k x) l = one_led lines t l

-- the check of these lines comes to that state
all_led : {lines : List ℕ} {s : State} → Reached lines s → ((judged lines).number ≡ 0) × ((judged lines).next ≡ s)
unfolding judged_after lines_from
all_led {lines} r =
    let l = led r in
    let e : judged lines ≡ l.last = ap (λ x. judged_after (refused start_state 0 0) (lines_in x)) (sym (append-nil lines)) ∙ l.on [] in
    (ap (λ (j : Judged). j.number) e ∙ l.taken, ap (λ (j : Judged). j.next) e ∙ l.here)

-- which is the file's end, or lacks a line
answer_led : {lines : List ℕ} {s : State} → Reached lines s → (q : Bool) → is_done s ≡ q → check_of lines ≡ pick q (acceptance s.line) (refusal 10 (s.line + 1) 0)
unfolding ended_at pick
answer_led {lines} {s} r q e =
    let w = all_led r in
    (totals_are lines).1 ∙ ap (λ b. pick b (ended_at (judged lines).next) (refusal_by (judged lines))) (eq-eqb (judged lines).number 0 w.0) ∙ ap ended_at w.1 ∙ rw (reached_within r, e)

-- so they are whole lines, and a file's first
abbrev Begins : List ℕ → State → Type 0
Begins lines s = AreLines s.line lines × Completable lines

reached_begins : {lines : List ℕ} {s : State} → Reached lines s → Begins lines s
unfolding pick
reached_begins {lines} {s} r = by (is_done s) refl
  where
    by : (q : Bool) → is_done s ≡ q → Begins lines s
    by true e =
        let a = answer_led r true e in
        let z = ap (λ (x : Answer). x.number) a in (
          subst (λ n. AreLines n lines) (ap (λ (x : Answer). x.line) a) ((means lines).accepted_lines z).0,
          ([], subst InLanguage (sym (append-nil lines)) ((means lines).accepted_exactly.0 z)),
        )
    by false e =
        let a = answer_led r false e in
        let z : (check_of lines).number ≡ 10 = ap (λ (x : Answer). x.number) a in
        let n : (check_of lines).line ≡ s.line + 1 = ap (λ (x : Answer). x.line) a in
        let g = all_gone lines in
        let w = all_led r in
        let m : g.count ≡ (check_of lines).line - 1 = omega (arith, g.line, ap (λ (u : State). u.line) w.1) in
        let all : first_lines ((check_of lines).line - 1) lines ≡ lines = ap (λ k. first_lines k lines) (sym m) ∙ g.whole w.0 in
        let tells = (means lines).refusal (λ y. absurd (omega arith)) in
        let l : (check_of lines).line - 1 ≡ s.line = omega arith in
        (subst (λ k. AreLines k lines) l (subst (AreLines ((check_of lines).line - 1)) all tells.lines_before), subst Completable all tells.completable)

-- OF EVERY STATE OF A RUN
pub reached_totals : {lines : List ℕ} {s : State} → Reached lines s → RunTotals lines s
reached_totals r = let w = reached_begins r in record { lines_read = w.0; completable = w.1; sums = reached_sums r }
