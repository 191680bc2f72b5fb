-- Numbers spelt in digits. Assumes nothing.
use Prim.Native.Nat.{ℕ, zero, suc, ◌+◌, ◌-◌, ◌/◌, ◌%◌, ◌≤◌}
use mathlib.Core.Path.{◌≡◌, refl, ap, ◌∙◌}
use mathlib.Core.List.{List, [], ◌∷◌}
use mathlib.Core.Bool.{Bool, true, false}
use native.Mathlib.Omega.{arith}
use lib.ListN.{length, take, drop, length-drop}
use lib.Seq.{take_all}
use lib.Dec.{eqb}
use Rattle.std.specs.List.{prefix_len}
use Rattle.machine.specs.Lists.{pick}
use Rattle.machine.specs.Digits.{decimal}
use Rattle.format.specs.declared.Answer.{Answer}
use Rattle.page.specs.Lines.{line_of, with_text, without_zeros, number_text, with_euros, answer_key, line_key, column_key, with_answer}

-- ## Zeros in front

zeros_dropped : (most : ℕ) (l : List ℕ) → drop (prefix_len (λ d. eqb d 48) (take most l)) l ≡ without_zeros most l
unfolding without_zeros pick
zeros_dropped zero l = refl
zeros_dropped (suc k) [] = refl
zeros_dropped (suc k) (c ∷ l) = by (eqb c 48) refl (zeros_dropped k l)
  where
    by : (q : Bool) → eqb c 48 ≡ q → drop (prefix_len (λ d. eqb d 48) (take k l)) l ≡ without_zeros k l → drop (prefix_len (λ d. eqb d 48) (take (suc k) (c ∷ l))) (c ∷ l) ≡ pick q (without_zeros k l) (c ∷ l)
    by true e p =
        let n = prefix_len (λ d. eqb d 48) (take k l) in
        let s : 1 + n ≡ suc n = omega arith in
        rw e (ap (λ i. drop i (c ∷ l)) s ∙ p)
    by false e p = rw e refl

pub zeros_trimmed : {t : List ℕ} {k m z : ℕ} (d : List ℕ) (least : ℕ) → length d ≡ 20 → k ≡ least - 1 → m ≡ 19 - k → z ≡ prefix_len (λ x. eqb x 48) (take m d) → t ≡ take (20 - z) (drop z d) → t ≡ without_zeros (19 - (least - 1)) d
zeros_trimmed {m = m} {z = z} d least n e f g h =
    let i : m ≡ 19 - (least - 1) = omega arith in
    let j : length (drop z d) ≤ 20 - z = rw length-drop (omega arith) in
    h ∙ take_all (20 - z) (drop z d) j ∙ ap (λ u. drop u d) g ∙ zeros_dropped m d ∙ ap (λ u. without_zeros u d) i

-- ## On a page

module _ {d t : List ℕ} (q : List ℕ × ℕ) (n least : ℕ) (e : d ≡ decimal 20 n) (f : t ≡ without_zeros (19 - (least - 1)) d) where
  spelling : t ≡ number_text least n
  unfolding number_text
  spelling = f ∙ ap (without_zeros (19 - (least - 1))) e

  pub number_put : {o : List ℕ × ℕ} → o ≡ with_text q t → o ≡ with_text q (number_text least n)
  number_put p = p ∙ ap (with_text q) spelling

  pub number_line : {o : List ℕ × ℕ} (key : List ℕ) → o ≡ with_text q (line_of key t) → o ≡ with_text q (line_of key (number_text least n))
  number_line key p = p ∙ ap (λ x. with_text q (line_of key x)) spelling

pub euros_put : {a b o : List ℕ × ℕ} (q : List ℕ × ℕ) (cents : ℕ) → a ≡ with_text q (number_text 1 (cents / 100)) → b ≡ with_text a (46 ∷ []) → o ≡ with_text b (number_text 2 (cents % 100)) → o ≡ with_euros q cents
unfolding with_euros
euros_put q cents k l m = m ∙ ap (λ u. with_text u (number_text 2 (cents % 100))) (l ∙ ap (λ u. with_text u (46 ∷ [])) k)

pub answer_put : {a b o : List ℕ × ℕ} (q : List ℕ × ℕ) (x : Answer) → a ≡ with_text q (line_of answer_key (number_text 1 x.number))
    → b ≡ with_text a (line_of line_key (number_text 1 x.line)) → o ≡ with_text b (line_of column_key (number_text 1 x.column)) → o ≡ with_answer q x
unfolding with_answer
answer_put q x k l m = m ∙ ap (λ u. with_text u (line_of column_key (number_text 1 x.column))) (l ∙ ap (λ u. with_text u (line_of line_key (number_text 1 x.line))) k)
