-- The first fault of a file's header, from what calls answered of its fields. Assumes nothing.
use Prim.Native.Nat.{ℕ, zero, suc, ◌/◌}
use mathlib.Core.Path.{◌≡◌, refl, sym, ap, ◌∙◌}
use mathlib.Core.List.{List, [], ◌∷◌}
use mathlib.Core.Bool.{Bool, true, false, not}
use native.Mathlib.Omega.{arith}
use borrow.Author.Tests.{le-leb}
use lib.ListN.{length, take, drop, length-take}
use lib.Seq.{take-take, drop-drop}
use lib.Dec.{eqb, leb}
use Rattle.machine.specs.Lists.{pick, all, same, is_digit}
use Rattle.machine.specs.Digits.{value_of}
use Rattle.machine.proofs.Base.{and_first, and_second}
use Rattle.format.specs.Fields.{filled}
use Rattle.format.specs.Rules.{is_identification, is_of_day}
use Rattle.format.specs.Tests.{identification_tests}
use Rattle.field.specs.Rows.{field_answer}
use Rattle.field.specs.Leaf.{digits_of}

-- ## The identification

inner : (l : List ℕ) → take 2 (drop 2 l) ≡ drop 2 (take 4 l)
inner [] = refl
inner (a ∷ []) = refl
inner (a ∷ b ∷ l) = refl

inside : (l : List ℕ) → take 2 (drop 26 l) ≡ drop 2 (take 4 (drop 24 l))
inside l = ap (take 2) (sym (drop-drop 2 24 l)) ∙ inner (drop 24 l)

digits_front : (n : ℕ) (l : List ℕ) → all is_digit l ≡ true → all is_digit (take n l) ≡ true
digits_front zero l h = refl
digits_front (suc n) [] h = refl
digits_front (suc n) (c ∷ l) h = rw (and_first (is_digit c) (all is_digit l) h) (digits_front n l (and_second (is_digit c) (all is_digit l) h))

module _ {p : List ℕ} {d : Bool} (l : List ℕ) (i : p ≡ take 4 (drop 24 l)) (e : d ≡ all is_digit p) where
  pub no_digits_lem : d ≡ false → is_identification (take 4 (drop 24 l)) ≡ false
  unfolding is_identification
  no_digits_lem h = let k : all is_digit (take 4 (drop 24 l)) ≡ false = ap (all is_digit) (sym i) ∙ sym e ∙ h in rw k

  module _ (h : d ≡ true) where
    are_digits : all is_digit (take 4 (drop 24 l)) ≡ true
    are_digits = ap (all is_digit) (sym i) ∙ sym e ∙ h

    counter : {q : List ℕ} {z v : Bool} → q ≡ take 2 (drop 26 l) → z ≡ same q (48 ∷ 48 ∷ []) → z ≡ v → is_identification (take 4 (drop 24 l)) ≡ not v
    unfolding is_identification
    counter j f k = rw are_digits (ap not (ap (λ t. same t (48 ∷ 48 ∷ [])) (sym (inside l) ∙ sym j) ∙ sym f ∙ k))

    pub no_counter : {q : List ℕ} {z : Bool} → q ≡ take 2 (drop 26 l) → z ≡ same q (48 ∷ 48 ∷ []) → z ≡ true → is_identification (take 4 (drop 24 l)) ≡ false
    no_counter j f k = counter j f k

    pub counted : {q : List ℕ} {z : Bool} → q ≡ take 2 (drop 26 l) → z ≡ same q (48 ∷ 48 ∷ []) → z ≡ false → is_identification (take 4 (drop 24 l)) ≡ true
    counted j f k = counter j f k

    pub of_day : {t : ℕ} {v : Bool} (created : ℕ) → t ≡ (digits_of (take 2 (drop 24 l))).value → eqb t (created / 10000) ≡ v → is_of_day created (take 4 (drop 24 l)) ≡ v
    unfolding is_of_day digits_of pick
    of_day created j k =
        let f : take 2 (take 4 (drop 24 l)) ≡ take 2 (drop 24 l) = take-take 2 4 (drop 24 l) (omega arith) in
        let n : leb (length (take 2 (drop 24 l))) 18 ≡ true = le-leb (length (take 2 (drop 24 l))) 18 (rw length-take (omega arith)) in
        let a : all is_digit (take 2 (drop 24 l)) ≡ true = ap (all is_digit) (sym f) ∙ digits_front 2 (take 4 (drop 24 l)) are_digits in
        ap (λ m. eqb m (created / 10000)) (ap value_of f ∙ sym (j ∙ rw (n, a))) ∙ k

-- the row, with the creation date as it stands
pub identification_row : {created n : ℕ} (l t : List ℕ) → created ≡ value_of l
    → n ≡ field_answer (filled 4) (identification_tests created t) t → n ≡ field_answer (filled 4) (identification_tests (value_of l) t) t
identification_row l t e h = h ∙ ap (λ v. field_answer (filled 4) (identification_tests v t) t) e
