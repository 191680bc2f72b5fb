-- The eleven check as it is taught: its second sum is 01's weighted sum. Assumes nothing.
use Prim.Native.Nat.{ℕ, zero, suc, ◌+◌, ◌-◌, ◌*◌, ◌/◌, ◌%◌, ◌<◌, ◌≤◌}
use mathlib.Core.Path.{◌≡◌, refl, sym, ap, ◌∙◌, subst}
use mathlib.Core.List.{List, [], ◌∷◌}
use mathlib.Core.Bool.{true}
use native.Mathlib.Omega.{arith}
use lib.ListN.{length}
use lib.Dec.{T, eqb}
use Rattle.machine.specs.Lists.{all, is_digit}
use Rattle.machine.specs.Digits.{pow10, digits_onto, decimal, value_of}
use Rattle.machine.proofs.Digits.{decimal_value}
use Rattle.format.specs.Rules.{weighted, is_eleven}
use Rattle.field.specs.Taught.{running_totals, added, second_sum, is_eleven_taught, SameSum, SameAnswer}
use Rattle.field.proofs.Numerics.{value_below}

-- a total from before is in each running total
total_before : (t : ℕ) (l : List ℕ) → added (running_totals t l) ≡ length l * t + second_sum l
unfolding running_totals added second_sum
total_before t [] = omega arith
total_before t (c ∷ l) =
    let e = total_before (t + (c - 48)) l in
    let z = total_before (0 + (c - 48)) l in
    omega (arith, e, z)

-- a digit is in its own running total and in each after it
first_digit : (c : ℕ) (l : List ℕ) → second_sum (c ∷ l) ≡ suc (length l) * (c - 48) + second_sum l
unfolding running_totals added second_sum
first_digit c l = omega (arith, total_before (0 + (c - 48)) l)

second_digits : (k n : ℕ) (l : List ℕ) → second_sum (digits_onto k n l) ≡ weighted k (suc (length l)) n + second_sum l
unfolding digits_onto weighted
second_digits zero n l = omega arith
second_digits (suc k) n l =
    let d : 48 + n % 10 - 48 ≡ n % 10 = omega arith in
    let e = first_digit (48 + n % 10) l ∙ ap (λ x. suc (length l) * x + second_sum l) d in
    second_digits k (n / 10) ((48 + n % 10) ∷ l) ∙ omega (arith, e)

same_as_weighted : (k n : ℕ) → second_sum (decimal k n) ≡ weighted k 1 n
unfolding decimal running_totals added second_sum
same_as_weighted k n = second_digits k n [] ∙ omega arith

pub same_sum : SameSum
same_sum l h = ap second_sum (decimal_value (length l) l refl (subst T (sym h) tt)) ∙ same_as_weighted (length l) (value_of l)

pub same_answer : SameAnswer
unfolding is_eleven_taught is_eleven
same_answer n = ap (λ x. eqb (x % 11) 0) (same_as_weighted 10 n)

-- ## At most ten digits: the weights before them are of zeros

weighted_zero : (k w : ℕ) → weighted k w 0 ≡ 0
unfolding weighted
weighted_zero zero w = refl
weighted_zero (suc k) w = omega (arith, weighted_zero k (suc w))

weighted_more : (j m w n : ℕ) → n < pow10 j → weighted (j + m) w n ≡ weighted j w n
unfolding weighted
weighted_more zero m w n h = let e : n ≡ 0 = omega arith in ap (weighted (0 + m) w) e ∙ weighted_zero (0 + m) w
weighted_more (suc j) m w n h =
    let e : suc j + m ≡ suc (j + m) = omega arith in
    ap (λ k. weighted k w n) e ∙ ap (λ x. w * (n % 10) + x) (weighted_more j m (suc w) (n / 10) (omega arith))

pub same_of_ten : (l : List ℕ) → length l ≤ 10 → all is_digit l ≡ true → is_eleven_taught l ≡ is_eleven (value_of l)
unfolding is_eleven_taught is_eleven
same_of_ten l h d =
    let n : length l + (10 - length l) ≡ 10 = omega arith in
    let m = weighted_more (length l) (10 - length l) 1 (value_of l) (value_below (length l) l (omega arith) d) in
    ap (λ x. eqb (x % 11) 0) (same_sum l d ∙ sym m ∙ ap (λ j. weighted j 1 (value_of l)) n)
