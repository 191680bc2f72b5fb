-- An answer in one number, and how it is read; numbers that are lent. Assumes nothing.
use Prim.Native.Nat.{ℕ, ◌+◌, ◌*◌, ◌/◌, ◌%◌, ◌≤◌, ◌<◌}
use mathlib.Core.Path.{◌≡◌, refl, sym, ap, subst, ◌∙◌}
use mathlib.Core.List.{List}
use mathlib.Core.Bool.{Bool, true, false}
use native.Mathlib.Omega.{arith}
use borrow.Author.Tests.{eq-eqb, ne_eqb, eqb-false}
use lib.Dec.{eqb}
use Rattle.machine.specs.Lists.{pick}
use Rattle.format.specs.Answers.{refusal, acceptance}
use Rattle.format.specs.declared.Answer.{Answer}
use Rattle.reading.specs.State.{start_state, within}
use Rattle.reading.specs.Step.{is_done, refusal_by, ended_at}
use Rattle.reading.specs.Check.{judged_lines, check_of, read_of, rest_of}
use Rattle.reading.specs.declared.State.{State}
use Rattle.reading.specs.Step.{Judged}
use Rattle.reading.specs.declared.FileRead.{FileRead}
use Rattle.reading.proofs.Limits.{within_line}
use Rattle.reading.proofs.Answers.{rest_named}
use Rattle.file.specs.Meaning.{Means}
use Rattle.file.specs.Totals.{Totalled}
use Rattle.clieop_c.specs.Returned.{packed, unpacked, number_after, items_after, amount_after, TotalsFound}

-- WHAT IS PACKED IS READ BACK
module _ (a : Answer) where
  pub packs : a.number + 256 * a.column + 65536 * a.line ≡ packed a
  unfolding packed
  packs = refl

  pub packs_read : a.number < 256 → a.column < 256 → unpacked (a.number + 256 * a.column + 65536 * a.line) ≡ a
  unfolding unpacked
  packs_read n c =
      let x : (a.number + 256 * a.column + 65536 * a.line) % 256 ≡ a.number = omega arith in
      let y : (a.number + 256 * a.column + 65536 * a.line) / 65536 ≡ a.line = omega arith in
      let q : (a.number + 256 * a.column + 65536 * a.line) / 256 ≡ a.column + 256 * a.line = omega arith in
      let m : (a.column + 256 * a.line) % 256 ≡ a.column = omega arith in
      let z = ap (λ d. d % 256) q ∙ m in
      λ i. refusal (x i) (y i) (z i)

-- ## A number that is lent

module _ (a : Answer) (n before : ℕ) where
  pub number_handed : a.number ≡ 0 → n ≡ number_after a n before
  unfolding number_after pick
  number_handed z = rw (eq-eqb _ _ z) refl

  pub number_kept : (a.number ≡ 0 → ⊥) → before ≡ number_after a n before
  unfolding number_after pick
  number_kept z = rw (ne_eqb _ _ z) refl

-- ## No answer of a file names a line above 6,999,369,996

ended_line : (s : State) (w d : Bool) → within s ≡ w → (pick w (pick d (acceptance s.line) (refusal 10 (s.line + 1) 0)) (refusal 24 0 0)).line ≤ 6999369996
unfolding pick
ended_line s true true e = omega (arith, within_line s e)
ended_line s true false e = omega (arith, within_line s e)
ended_line s false d e = omega arith

judged_line_lem : (file : List ℕ) (j : Judged) (q : Bool) → j ≡ judged_lines start_state file → eqb j.number 0 ≡ q → (pick q (ended_at j.next) (refusal_by j)).line ≤ 6999369996
unfolding pick ended_at
judged_line_lem file j true e h = ended_line j.next (within j.next) (is_done j.next) refl
judged_line_lem file j false e h = rest_named start_state file e (eqb-false j.number 0 h)

pub check_line : (file : List ℕ) → (check_of file).line ≤ 6999369996
unfolding check_of rest_of
check_line file = judged_line_lem file (judged_lines start_state file) (eqb (judged_lines start_state file).number 0) refl refl

-- ## The answer of a file

module _ {x : FileRead} (file : List ℕ) (e : x ≡ read_of file) where
  pub line_packs : x.answer.line ≤ 6999369996
  line_packs = subst (λ (y : FileRead). y.answer.line ≤ 6999369996) (sym e) (check_line file)

  -- the totals of a file that is accepted
  module _ {items amount : ℕ} (i j : ℕ) where
    pub check_totals : Means file x.answer → Totalled file x.answer x.totals → items ≡ items_after x i → amount ≡ amount_after x j → TotalsFound file items amount
    unfolding TotalsFound number_after pick
    check_totals m t a b = λ f r.
        let z = eq-eqb x.answer.number 0 (m.accepted_exactly.1 (f, r)) in
        let w = t.whole f r in
        record { items = a ∙ rw z w.items; amount = b ∙ rw z w.amount }
