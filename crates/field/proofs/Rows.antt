-- For users of the crate: a chain of tests against the rows of a line, and what a leaf answered as a row. Assumes nothing.
use Prim.Native.Nat.{ℕ}
use mathlib.Core.Path.{◌≡◌, sym, ap, ◌∙◌}
use mathlib.Core.List.{List, [], ◌∷◌}
use mathlib.Core.Bool.{true}
use native.Mathlib.Omega.{arith}
use borrow.Author.Tests.{eq-eqb, ne_eqb, leb-true, le-leb}
use lib.ListN.{length, take, length-take}
use lib.Dec.{leb}
use Rattle.machine.specs.Lists.{pick}
use Rattle.machine.specs.Digits.{value_of}
use Rattle.format.specs.Fields.{numeric}
use Rattle.format.specs.Tests.{Test}
use Rattle.field.specs.Leaf.{Numeric}
use Rattle.field.specs.Rows.{Row, row, field_answer, first_or}
use Rattle.field.specs.Leaf.{numeric_answer, numeric_of}

-- ## A chain of tests

module _ {A : Type 0} (f : ℕ → ℕ → A) (c : ℕ) (rs : List Row) (a : A) where
  pub row_this : {x : A} {r : ℕ} (n : ℕ) → r ≡ n → (r ≡ 0 → ⊥) → x ≡ f c r → x ≡ first_or f (row c n ∷ rs) a
  unfolding first_or pick
  row_this n e z p = rw (← e, ne_eqb _ 0 z) p

  pub row_next : {x : A} {r : ℕ} (n : ℕ) → r ≡ n → r ≡ 0 → x ≡ first_or f rs a → x ≡ first_or f (row c n ∷ rs) a
  unfolding first_or pick
  row_next n e z p = rw (← e, eq-eqb _ 0 z) p

pub row_none : {A : Type 0} {x : A} (f : ℕ → ℕ → A) (a : A) → x ≡ a → x ≡ first_or f [] a
unfolding first_or
row_none f a p = p

-- ## Numeric fields

short : (w : ℕ) (m : List ℕ) → leb w 18 ≡ true → leb (length (take w m)) 18 ≡ true
short w m h = le-leb (length (take w m)) 18 (rw length-take (omega (arith, leb-true w 18 h)))

-- what a leaf answered, as the row of its field
module _ {ts : List Test} (tests : ℕ → List Test) (w : ℕ) (m : List ℕ) where
  pub no_row : {r : ℕ} → r ≡ numeric_answer tests (take w m) → leb w 18 ≡ true → tests (value_of (take w m)) ≡ ts → r ≡ field_answer (numeric w) ts (take w m)
  unfolding numeric_answer field_answer pick
  no_row e h k = e ∙ rw (short w m h, k)

  pub of_row : {r : Numeric} → r ≡ numeric_of tests (take w m) → leb w 18 ≡ true → tests (value_of (take w m)) ≡ ts → r.number ≡ field_answer (numeric w) ts (take w m)
  unfolding numeric_of
  of_row e h k = no_row (ap (λ (n : Numeric). n.number) e) h k

-- the value where nothing is wrong
pub of_value : {r : Numeric} (tests : ℕ → List Test) (l : List ℕ) → r ≡ numeric_of tests l → r.number ≡ 0 → r.value ≡ value_of l
unfolding numeric_of pick
of_value tests l e z = let q : numeric_answer tests l ≡ 0 = sym (ap (λ (n : Numeric). n.number) e) ∙ z in ap (λ (n : Numeric). n.value) e ∙ rw q

pub ruleset leaves = (no_row, of_row, of_value)

pub ruleset rows = (row_this, row_next, row_none, leaves)
