-- Texts merged in places. Assumes nothing.
use Prim.Native.Nat.{ℕ, zero, suc, ◌+◌, ◌-◌, ◌*◌, ◌≤◌, min}
use mathlib.Core.Path.{◌≡◌, refl, sym, ◌∙◌, ap, ap₂}
use mathlib.Core.List.{List, [], ◌∷◌, ◌++◌, append_assoc}
use native.Mathlib.Omega.{arith}
use lib.ListN.{length, take, drop, length-append}
use lib.Seq.{take-add, length-take-le}
use Rattle.machine.specs.Lists.{spaces, put_in}
use Rattle.field.proofs.Putting.{pasted_front, put_both}
use Rattle.descriptions.specs.Texts.{texts_in, texts_of, joined, merge_of, in_places, merged}
use Rattle.descriptions.specs.declared.Descriptions.{Descriptions}

-- ## Lists of texts

pub join_texts : (n : ℕ) (l : List ℕ) → joined (texts_in n l) ≡ take (32 * n) l
join_texts zero l = let z : 0 ≡ 32 * 0 = omega arith in ap (λ k. take k l) z
join_texts (suc n) l = let z : 32 + 32 * n ≡ 32 * suc n = omega arith in ap (λ t. take 32 l ++ t) (join_texts n (drop 32 l)) ∙ sym (take-add 32 (32 * n) l) ∙ ap (λ k. take k l) z

pub join_append : (xs ys : List (List ℕ)) → joined (xs ++ ys) ≡ joined xs ++ joined ys
join_append [] ys = refl
join_append (x ∷ xs) ys = ap (λ t. x ++ t) (join_append xs ys) ∙ sym (append_assoc x (joined xs) (joined ys))

pub texts_long : (n : ℕ) (l : List ℕ) → length (texts_in n l) ≡ n
texts_long zero l = refl
texts_long (suc n) l = ap suc (texts_long n (drop 32 l))

take_texts : (m n : ℕ) (l : List ℕ) → take m (texts_in n l) ≡ texts_in (min n m) l
take_texts zero n l = let z : 0 ≡ min n 0 = omega arith in ap (λ k. texts_in k l) z
take_texts (suc m) zero l = let z : 0 ≡ min 0 (suc m) = omega arith in ap (λ k. texts_in k l) z
take_texts (suc m) (suc n) l = let z : suc (min n m) ≡ min (suc n) (suc m) = omega arith in ap (λ t. take 32 l ∷ t) (take_texts m n (drop 32 l)) ∙ ap (λ k. texts_in k l) z

take_both : (n : ℕ) (xs ys : List (List ℕ)) → take n (xs ++ ys) ≡ take n xs ++ take (n - length xs) ys
take_both zero xs ys = let z : 0 ≡ 0 - length xs = omega arith in ap (λ k. take k ys) z
take_both (suc n) [] ys = let z : suc n ≡ suc n - 0 = omega arith in ap (λ k. take k ys) z
take_both (suc n) (x ∷ xs) ys = let z : n - length xs ≡ suc n - length (x ∷ xs) = omega arith in ap (λ t. x ∷ t) (take_both n xs ys ∙ ap (λ k. take n xs ++ take k ys) z)

-- ## In places

-- two parts put one after the other
pub both_put : (f o : List ℕ) {x r : List ℕ} → length f + length o ≤ 128 → x ≡ put_in (spaces 128) 0 f → r ≡ put_in x (length f) o
    → r ≡ (f ++ o) ++ drop (length f + length o) (spaces 128)
both_put f o {x} h u v =
    let room : length (spaces 128) ≡ 128 = refl in
    let e : 0 + length f ≡ length f = omega arith in
    put_both (spaces 128) 0 f o (omega arith) u (v ∙ ap (λ n. put_in x n o) (sym e)) ∙ pasted_front (spaces 128) (f ++ o) ∙ ap (λ n. (f ++ o) ++ drop n (spaces 128)) (length-append f o)

module _ (f o : Descriptions) (limit : ℕ) {most n m : ℕ} (w : most ≡ min limit 4) (p : n ≡ min f.count most) (q : m ≡ min o.count (most - n)) where
  -- the texts that are kept of both
  abbrev kept : List (List ℕ)
  kept = texts_in n f.text ++ texts_in m o.text

  kept_is : merge_of (min limit 4) (texts_of f) (texts_of o) ≡ kept
  kept_is =
      let a : ℕ = min f.count 4 in
      let b : ℕ = min o.count 4 in
      let c : ℕ = min limit 4 in
      take_both c (texts_in a f.text) (texts_in b o.text)
      ∙ ap₂ (λ x y. x ++ y) (take_texts c a f.text) (take_texts (c - length (texts_in a f.text)) b o.text)
      ∙ ap₂ (λ x y. texts_in x f.text ++ texts_in y o.text) (omega (arith, w, p)) (omega (arith, w, p, q, texts_long a f.text))

  pub merge_is : {s t r : List ℕ} → length f.text ≡ 128 → length o.text ≡ 128 → s ≡ take (32 * n) f.text → t ≡ take (32 * m) o.text → r ≡ (s ++ t) ++ drop (length s + length t) (spaces 128)
      → ◌≡◌ {A = Descriptions} (record { text = r; count = n + m }) (merged f o limit)
  unfolding merged
  merge_is {s} {t} {r} h k d e u =
      let j : joined kept ≡ s ++ t = join_append (texts_in n f.text) (texts_in m o.text) ∙ ap₂ ◌++◌ (join_texts n f.text ∙ sym d) (join_texts m o.text ∙ sym e) in
      let l : length kept ≡ n + m = length-append (texts_in n f.text) (texts_in m o.text) ∙ ap₂ ◌+◌ (texts_long n f.text) (texts_long m o.text) in
      let c : length s ≡ 32 * n = ap length d ∙ length-take-le (32 * n) f.text (omega (arith, w, p)) in
      let b : length t ≡ 32 * m = ap length e ∙ length-take-le (32 * m) o.text (omega (arith, w, p, q)) in
      let z : length s + length t ≡ 32 * length kept = omega (arith, l, c, b) in
      ap₂ (λ x y. record { text = x; count = y }) (u ∙ ap₂ (λ x y. x ++ drop y (spaces 128)) (sym j) z) (sym l)
      ∙ ap (in_places (spaces 128)) (sym kept_is)
