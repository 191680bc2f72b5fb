-- A file written again, for one who reads the number returned. Assumes nothing.
use Prim.Native.Nat.{ℕ, ◌≤◌}
use mathlib.Core.Path.{◌≡◌, refl, sym, ap, ap₂, subst, ◌∙◌}
use mathlib.Core.List.{List}
use mathlib.Core.Bool.{Bool, true, false}
use native.Mathlib.Omega.{arith}
use borrow.Author.Tests.{eq-eqb, ne_eqb, eqb-true, eqb-false}
use lib.ListN.{length}
use lib.Dec.{leb, eqb}
use Rattle.machine.specs.Lists.{pick}
use Rattle.format.specs.Answers.{refusal}
use Rattle.format.specs.declared.Answer.{Answer}
use Rattle.reading.specs.Check.{check_of}
use Rattle.rewriting.specs.Cities.{without_cities}
use Rattle.rewriting.specs.Rewriting.{answered, rewritten_of}
use Rattle.rewriting.specs.Promises.{Promised}
use Rattle.rewriting.specs.declared.Rewritten.{Rewritten}
use Rattle.clieop_c.specs.Returned.{unpacked, number_after, written_after, rewrite_by, rewrite_found}
use Rattle.clieop_c.proofs.Packing.{check_line}

-- an answer is a refusal that wrote nothing, or an acceptance
data Shape (line : ℕ) : Rewritten → Type 0 where
  refusing : (number column : ℕ) → (number ≡ 0 → ⊥) → Shape line (answered (refusal number line column) 0)
  writing : (number column n : ℕ) → number ≡ 0 → Shape line (answered (refusal number line column) n)

shape_by : (a : Answer) (p q : Bool) (n : ℕ) → eqb a.number 0 ≡ p → Shape a.line (pick p (pick q (answered a n) (answered (refusal 12 a.line 0) 0)) (answered a 0))
unfolding pick
shape_by a true true n e = writing a.number a.column n (eqb-true a.number 0 e)
shape_by a true false n e = refusing 12 0 (λ z. absurd (omega (arith, z)))
shape_by a false q n e = refusing a.number a.column (eqb-false a.number 0 e)

shape : (file : List ℕ) (room : ℕ) → Shape (check_of file).line (rewritten_of file room)
unfolding rewritten_of
shape file room = shape_by (check_of file) (eqb (check_of file).number 0) (leb (length (without_cities file)) room) (length (without_cities file)) refl

found_shape : {line : ℕ} {w : Rewritten} (before : ℕ) → Shape line w → rewrite_by w.answer (written_after w before) ≡ w
unfolding rewrite_by number_after pick
found_shape before (refusing number column z) = rw (ne_eqb number 0 z) refl
found_shape before (writing number column n z) = rw (eq-eqb number 0 z) refl

line_shape : {line : ℕ} {w : Rewritten} → Shape line w → w.answer.line ≡ line
line_shape (refusing number column z) = refl
line_shape (writing number column n z) = refl

module _ {w : Rewritten} (file : List ℕ) (room : ℕ) (e : w ≡ rewritten_of file room) where
  pub again_line : w.answer.line ≤ 6999369996
  again_line = subst (λ n. n ≤ 6999369996) (sym (ap (λ (y : Rewritten). y.answer.line) e ∙ line_shape (shape file room))) (check_line file)

  module _ {n m : ℕ} (before : ℕ) (k : m ≡ w.written) (h : n ≡ number_after w.answer m before) where
    again_written : n ≡ written_after (rewritten_of file room) before
    again_written = h ∙ ap (λ p. number_after w.answer p before) k ∙ ap (λ y. written_after y before) e

    module _ (r : ℕ) (u : unpacked r ≡ w.answer) where
      pub again_found : rewrite_found r n ≡ rewritten_of file room
      again_found = ap₂ rewrite_by (u ∙ ap (λ (y : Rewritten). y.answer) e) again_written ∙ found_shape before (shape file room)

      pub again_promised : (out : List ℕ) → Promised file w out → Promised file (rewrite_found r n) out
      again_promised out p = subst (λ y. Promised file y out) (e ∙ sym again_found) p
