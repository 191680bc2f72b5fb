-- A number spelt in digits. Assumes nothing.
use Prim.Native.Nat.{ℕ, zero, suc, ◌+◌, ◌-◌, ◌/◌, ◌%◌, ◌≤◌, ◌<◌}
use mathlib.Core.Path.{◌≡◌, ap, ◌∙◌, subst}
use mathlib.Core.List.{List, ◌∷◌}
use native.Mathlib.Omega.{arith}
use native.Mathlib.Numerals.{add-one}
use lib.ListN.{length, set, drop, length-set, drop_of_length-le}
use Rattle.std.proofs.lemmas.List.{drop-set}
use Rattle.machine.specs.Digits.{digits_onto, decimal}

-- the digits from place i on stand, the rest of the number is to be written before them
pub record Digiting (n : ℕ) (l : List ℕ) (rest i : ℕ) : Type 0 where
  pub within : i ≤ 20
  pub long : length l ≡ 20
  pub value : digits_onto i rest (drop i l) ≡ decimal 20 n

pub digit_none : (n : ℕ) (l : List ℕ) → length l ≡ 20 → Digiting n l n 20
unfolding decimal
digit_none n l h = let k : length l ≤ 20 = omega arith in record { within = omega arith; long = h; value = ap (digits_onto 20 n) (drop_of_length-le l k) }

pub digit_more : (n : ℕ) (l : List ℕ) (rest i : ℕ) {x : ℕ} → Digiting n l rest i → 0 < i → x ≡ 48 + rest % 10 → Digiting n (set l (i - 1) x) (rest / 10) (i - 1)
unfolding digits_onto
digit_more n l rest i {x} p k e =
    let i_is : i ≡ suc (i - 1) = omega arith in
    let before : i - 1 < length l = omega (arith, p.within, p.long) in
    let written : drop (i - 1) (set l (i - 1) x) ≡ (48 + rest % 10) ∷ drop (suc (i - 1)) l = drop-set l (i - 1) x before ∙ rw (add-one, e) in
    record {
      within = omega (arith, p.within);
      long = length-set l (i - 1) x ∙ p.long;
      value = ap (digits_onto (i - 1) (rest / 10)) written ∙ subst (λ m. digits_onto m rest (drop m l) ≡ decimal 20 n) i_is p.value;
    }

pub digit_all : (n : ℕ) (l : List ℕ) (rest i : ℕ) → Digiting n l rest i → i ≤ 0 → l ≡ decimal 20 n
unfolding digits_onto
digit_all n l rest zero p k = p.value
digit_all n l rest (suc i) p k = absurd (omega arith)
