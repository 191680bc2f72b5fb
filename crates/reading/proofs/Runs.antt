-- LINES THAT ARE ALL TAKEN, from one state to the last, and a file that ends after them. Assumes nothing.
use Prim.Native.Nat.{ℕ, ◌+◌}
use mathlib.Core.Path.{◌≡◌, refl, sym, ap, ◌∙◌, subst}
use mathlib.Core.List.{List, [], ◌∷◌}
use mathlib.Core.Bool.{Bool, true, false}
use native.Mathlib.Omega.{arith}
use borrow.Author.Tests.{eq-eqb, eqb-true}
use lib.Dec.{T, eqb}
use Rattle.machine.specs.Lists.{pick}
use Rattle.format.specs.Answers.{refusal, acceptance}
use Rattle.format.specs.Cutting.{next_line, after_next, lines_in}
use Rattle.format.specs.declared.Kind.{Kind}
use Rattle.format.proofs.Cutting.{Lined, no_line, one_line, lined}
use Rattle.reading.specs.State.{start_state, are_within, is_limited, within}
use Rattle.reading.specs.Step.{refused, is_done, judged_first, refusal_by, ended_at}
use Rattle.reading.specs.Check.{judged_after, judged_lines, answer_by, rest_of, check_of}
use Rattle.reading.specs.declared.State.{State}
use Rattle.reading.specs.Step.{Judged}
use Rattle.reading.proofs.Running.{first_own, going_on}
use Rattle.reading.proofs.Verdicts.{taken_as, Taken, takes}

-- the state after a line of a kind
abbrev pub next_by : State → Kind → List ℕ → State
next_by s k xs = (taken_as s k xs).next

-- bytes whose lines are each taken, from one state to the last
pub data Runs : State → List ℕ → List (List ℕ) → State → Type 0 where
  no_more : {s : State} → Runs s [] [] s
  line : {s u : State} {x : ℕ} {xs : List ℕ} {lines : List (List ℕ)} (t : Taken s (x ∷ xs)) → Runs (next_by s t.kind (x ∷ xs)) (after_next (x ∷ xs)) lines u → Runs s (x ∷ xs) (next_line (x ∷ xs) ∷ lines) u

first_zero : (f : Judged) (lines : List (List ℕ)) → (going_on f lines).number ≡ 0 → f.number ≡ 0
unfolding pick
first_zero f lines z = on (eqb f.number 0) refl z
  where
    on : (q : Bool) → eqb f.number 0 ≡ q → (pick q (judged_after f lines) f).number ≡ 0 → f.number ≡ 0
    on true e z = eqb-true f.number 0 e
    on false e z = z

pub all_taken : (j : Judged) {xs : List ℕ} {lines : List (List ℕ)} → Lined xs lines → (judged_after j lines).number ≡ 0 → Runs j.next xs lines (judged_after j lines).next
unfolding judged_after pick
all_taken j no_line z = no_more
all_taken j (one_line {x} {xs} {lines} r) z =
    let s = j.next in
    let d = first_own s (x ∷ xs) in
    let t = takes s (x ∷ xs) (sym (ap (λ (i : Judged). i.number) d) ∙ first_zero (judged_first s (next_line (x ∷ xs))) lines z) in
    let e = d ∙ t.is in
    subst (λ (i : Judged). Runs s (x ∷ xs) (next_line (x ∷ xs) ∷ lines) (going_on i lines).next) (sym e)
    (line t (all_taken (taken_as s t.kind (x ∷ xs)) r (subst (λ (i : Judged). (going_on i lines).number ≡ 0) e z)))

-- ## The end

pub record Ended (j : Judged) : Type 0 where
  pub number : j.number ≡ 0
  pub limits : within j.next ≡ true
  pub done : is_done j.next ≡ true

pub ends : (j : Judged) → (answer_by j).number ≡ 0 → Ended j
unfolding ended_at pick
ends j z = on (eqb j.number 0) (within j.next) (is_done j.next) refl refl refl z
  where
    on : (a b c : Bool) → eqb j.number 0 ≡ a → within j.next ≡ b → is_done j.next ≡ c
        → (pick a (pick b (pick c (acceptance j.next.line) (refusal 10 (j.next.line + 1) 0)) (refusal 24 0 0)) (refusal_by j)).number ≡ 0
        → Ended j
    on true true true a b c z = record { number = eqb-true j.number 0 a; limits = b; done = c }
    on true true false a b c z = absurd (omega arith)
    on true false q a b c z = absurd (omega arith)
    on false p q a b c z = absurd (subst T (sym (eq-eqb j.number 0 z) ∙ a) tt)

pub ended_zero : (i : Judged) → Ended i → (answer_by i).number ≡ 0
unfolding ended_at pick
ended_zero i e = rw (eq-eqb i.number 0 e.number, e.limits, e.done)

-- an accepted file's lines
abbrev pub judged : List ℕ → Judged
judged file = judged_after (refused start_state 0 0) (lines_in file)

pub ended_file : (file : List ℕ) → (check_of file).number ≡ 0 → Ended (judged file)
unfolding check_of rest_of judged_lines within is_limited are_within pick
ended_file file z = ends (judged file) z

pub runs_file : (file : List ℕ) → (check_of file).number ≡ 0 → Runs start_state file (lines_in file) (judged file).next
runs_file file z = all_taken (refused start_state 0 0) (lined 0 file) (ended_file file z).number
