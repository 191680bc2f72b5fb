-- Laws of digits and spaces: what stands in a field, and back.
use mathlib.Core.Path.{◌≡◌, refl, sym, ap, ap₂, ◌∙◌}
use mathlib.Core.List.{List, [], ◌∷◌, ◌++◌, append-nil}
use Prim.Native.Nat.{ℕ, zero, suc, ◌+◌, ◌*◌, ◌-◌, ◌/◌, ◌%◌, ◌<◌}
use native.Mathlib.Omega.{arith}
use lib.ListN.{length, drop}
use lib.Seq.{drop_at}
use lib.Dec.{T, leb, leb→le, le→leb, eqb→eq}
use Rattle.machine.specs.Lists.{all, is_digit, is_space, spaces}
use Rattle.machine.specs.Digits.{pow10, digits_onto, decimal, value_after, value_of}
use Rattle.machine.proofs.Base.{and_l, and_r, and_i}

digits_read : (l : List ℕ) (a m w : ℕ) (k : List ℕ) → T (all is_digit l) → w ≡ length l + m → digits_onto w (value_after a l) k ≡ digits_onto m a (l ++ k)
unfolding digits_onto value_after
digits_read [] a m w k t h = let q : w ≡ m = omega arith in ap (λ v. digits_onto v a k) q
digits_read (c ∷ l) a m w k t h =
    let d = and_l (is_digit c) (all is_digit l) t in
    let lo = leb→le 48 c (and_l (leb 48 c) (leb c 57) d) in
    let hi = leb→le c 57 (and_r (leb 48 c) (leb c 57) d) in
    let q : (a * 10 + (c - 48)) / 10 ≡ a = omega arith in
    let r : 48 + (a * 10 + (c - 48)) % 10 ≡ c = omega arith in
    digits_read l (a * 10 + (c - 48)) (suc m) w k (and_r (is_digit c) (all is_digit l) t) (omega arith) ∙ ap₂ (λ x y. digits_onto m x (y ∷ (l ++ k))) q r

value_digits : (w n : ℕ) (k : List ℕ) → n < pow10 w → value_after 0 (digits_onto w n k) ≡ value_after n k
unfolding digits_onto value_after
value_digits zero n k h = ap (λ v. value_after v k) (omega arith)
value_digits (suc w) n k h = value_digits w (n / 10) ((48 + n % 10) ∷ k) (omega arith) ∙ ap (λ v. value_after v k) (omega arith)

digits_append : (w n : ℕ) (j k : List ℕ) → digits_onto w n (j ++ k) ≡ digits_onto w n j ++ k
unfolding digits_onto
digits_append zero n j k = refl
digits_append (suc w) n j k = digits_append w (n / 10) ((48 + n % 10) ∷ j) k

digits_length : (w n : ℕ) (k : List ℕ) → length (digits_onto w n k) ≡ w + length k
unfolding digits_onto
digits_length zero n k = omega arith
digits_length (suc w) n k = digits_length w (n / 10) ((48 + n % 10) ∷ k) ∙ omega arith

digits_digit : (w n : ℕ) (k : List ℕ) → T (all is_digit k) → T (all is_digit (digits_onto w n k))
unfolding digits_onto
digits_digit zero n k t = t
digits_digit (suc w) n k t =
    digits_digit w (n / 10) ((48 + n % 10) ∷ k)
    (and_i (is_digit (48 + n % 10)) (all is_digit k) (and_i (leb 48 (48 + n % 10)) (leb (48 + n % 10) 57) (le→leb 48 (48 + n % 10) (omega arith)) (le→leb (48 + n % 10) 57 (omega arith))) t)

pub length_decimal : (w n : ℕ) → length (decimal w n) ≡ w
unfolding decimal
length_decimal w n = digits_length w n [] ∙ omega arith

pub decimal_digits : (w n : ℕ) → T (all is_digit (decimal w n))
unfolding decimal
decimal_digits w n = digits_digit w n [] tt

pub value_decimal : (w n : ℕ) → n < pow10 w → value_of (decimal w n) ≡ n
unfolding decimal value_after
value_decimal w n h = value_digits w n [] h

pub decimal_value : (w : ℕ) (l : List ℕ) → length l ≡ w → T (all is_digit l) → l ≡ decimal w (value_of l)
unfolding decimal digits_onto
decimal_value w l h t = sym (digits_read l 0 0 w [] t (omega arith) ∙ append-nil l)

digits_last : (a w m n : ℕ) (k : List ℕ) → m ≡ w + a → drop a (digits_onto m n k) ≡ digits_onto w n k
unfolding digits_onto
digits_last a zero m n k h =
    let q : m ≡ a = omega arith in
    ap (λ x. drop a (digits_onto x n k)) q ∙ ap (drop a) (digits_append a n [] k) ∙ drop_at (digits_onto a n []) k a (digits_length a n [] ∙ omega arith)
digits_last a (suc w) zero n k h = absurd (omega arith)
digits_last a (suc w) (suc m) n k h = digits_last a w m (n / 10) ((48 + n % 10) ∷ k) (omega arith)

-- the last digits of a number are those of fewer
pub decimal_last : (a w m n : ℕ) → m ≡ w + a → drop a (decimal m n) ≡ decimal w n
unfolding decimal
decimal_last a w m n h = digits_last a w m n [] h

pub blank : (n : ℕ) (l : List ℕ) → length l ≡ n → T (all is_space l) → l ≡ spaces n
blank zero [] h t = refl
blank zero (c ∷ l) h t = absurd (omega arith)
blank (suc n) [] h t = absurd (omega arith)
blank (suc n) (c ∷ l) h t = ap₂ (λ x y. x ∷ y) (eqb→eq c 32 (and_l (is_space c) (all is_space l) t)) (blank n l (omega arith) (and_r (is_space c) (all is_space l) t))

pub spaces_blank : (n : ℕ) → T (all is_space (spaces n))
spaces_blank zero = tt
spaces_blank (suc n) = spaces_blank n
