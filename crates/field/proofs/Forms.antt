-- The form of a field, then its tests. Assumes nothing.
use Prim.Native.Nat.{ℕ}
use mathlib.Core.Path.{◌≡◌, refl, sym, ◌∙◌, subst}
use mathlib.Core.List.{List, [], ◌∷◌}
use mathlib.Core.Bool.{Bool, true, false, not, ◌&&◌, ◌||◌}
use borrow.Author.Tests.{eqb-true}
use lib.Dec.{T, eqb}
use Rattle.machine.specs.Lists.{pick, all, same, is_space}
use Rattle.format.specs.Fields.{Field, filled, optional, well_formed, printable}
use Rattle.format.specs.Tests.{Test}
use Rattle.field.specs.Rows.{first_answer, field_answer}

-- what calls answered of the part p tells of the field
module _ {p : List ℕ} {x : ℕ} (f : Field) (ts : List Test) (l : List ℕ) (d : p ≡ l) where
  pub form_yes : well_formed f p ≡ true → x ≡ first_answer ts → x ≡ field_answer f ts l
  unfolding field_answer pick
  form_yes h e = rw (← d, h) e

-- a field without tests, and with them
module _ {r : ℕ} (f : Field) (ts : List Test) (l : List ℕ) (e : r ≡ field_answer f [] l) where
  pub form_stop : (r ≡ 0 → ⊥) → r ≡ field_answer f ts l
  unfolding field_answer pick
  form_stop z = by (well_formed f l) e
    where
      by : (q : Bool) → r ≡ pick q 0 4 → r ≡ pick q (first_answer ts) 4
      by true e = absurd (z e)
      by false e = e

  pub form_on : {x : ℕ} → r ≡ 0 → x ≡ first_answer ts → x ≡ field_answer f ts l
  unfolding field_answer pick
  form_on {x} z h = by (well_formed f l) e
    where
      by : (q : Bool) → r ≡ pick q 0 4 → x ≡ pick q (first_answer ts) 4
      by true e = h
      by false e = absurd (subst (λ (n : ℕ). T (eqb n 4)) (sym e ∙ z) tt)

-- ## A text that may be blank

-- a blank text is printable
pub blank_prints : (l : List ℕ) → all is_space l ≡ true → all printable l ≡ true
blank_prints [] h = refl
blank_prints (c ∷ l) h = by (is_space c) refl h (blank_prints l)
  where
    by : (q : Bool) → is_space c ≡ q → (q && all is_space l) ≡ true → (all is_space l ≡ true → all printable l ≡ true) → (printable c && all printable l) ≡ true
    by true e h k = rw (eqb-true c 32 e) (k h)
    by false e h k = absurd (subst (λ (t : Bool). T (not t)) h tt)

pub optional_filled : {p : List ℕ} {r : ℕ} (w : ℕ) (l : List ℕ) → p ≡ l → all is_space p ≡ false → r ≡ field_answer (filled w) [] l → r ≡ field_answer (optional w) [] l
unfolding field_answer
optional_filled w l d h e = e ∙ rw (← d, h)

-- ## A text that has to be a certain one

pub same_part : {p : List ℕ} {b v : Bool} (l t : List ℕ) → p ≡ l → b ≡ same p t → b ≡ v → same l t ≡ v
same_part l t d e h = rw (← d) (sym e ∙ h)

pub either_same : {p : List ℕ} {a b v : Bool} (l t u : List ℕ) → p ≡ l → a ≡ same p t → b ≡ same p u → (a || b) ≡ v → (same l t || same l u) ≡ v
either_same l t u d e f h = rw (← d, ← e, ← f) h
