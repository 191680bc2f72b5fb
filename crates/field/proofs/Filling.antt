-- The first characters of a text, filled with spaces. Assumes nothing.
use Prim.Native.Nat.{ℕ, zero, suc, ◌≤◌}
use mathlib.Core.Path.{◌≡◌, refl, sym, ◌∙◌, ap}
use mathlib.Core.List.{List, [], ◌∷◌, ◌++◌}
use native.Mathlib.Omega.{arith}
use lib.ListN.{length, take, drop, length-take, length-replicate, length-append}
use lib.Seq.{length-take-le, take_all}
use Rattle.machine.specs.Lists.{spaces, put_in}
use Rattle.field.specs.Filled.{filled_to}
use Rattle.field.proofs.Putting.{put_front}

take_spaces : (n m : ℕ) → n ≤ m → take n (spaces m) ≡ spaces n
take_spaces zero m h = refl
take_spaces (suc n) zero h = absurd (omega arith)
take_spaces (suc n) (suc m) h = ap (λ t. 32 ∷ t) (take_spaces n m (omega arith))

-- a text filled with spaces is its bytes and then the spaces that are left
filled_is : (n m : ℕ) (t : List ℕ) → n ≤ m → take n (t ++ spaces m) ≡ take n t ++ drop (length (take n t)) (spaces n)
filled_is zero m t h = refl
filled_is (suc n) m [] h = take_spaces (suc n) m h
filled_is (suc n) m (x ∷ t) h = ap (λ l. x ∷ l) (filled_is n m t (omega arith))

pub first_filled : {p r : List ℕ} (n : ℕ) (t : List ℕ) → p ≡ take n t → r ≡ put_in (spaces n) 0 p → r ≡ filled_to n t
first_filled {p} n t e h =
    let k : length (take n t) ≤ n = rw length-take (omega arith) in
    let f : length p ≤ length (spaces n) = rw (length-replicate, e) k in
    put_front (spaces n) p f h ∙ ap (λ y. y ++ drop (length y) (spaces n)) e ∙ sym (filled_is n n t (omega arith))

-- all of a text that fits
pub filled_short : (n : ℕ) (t : List ℕ) → length t ≤ n → filled_to n t ≡ put_in (spaces n) 0 t
filled_short n t h = sym (first_filled n t (sym (take_all n t h)) refl)

pub filled_long : (n : ℕ) (t : List ℕ) → length (filled_to n t) ≡ n
filled_long n t = length-take-le n (t ++ spaces n) (omega (arith, length-append t (spaces n), length-replicate {A = ℕ} n 32))
