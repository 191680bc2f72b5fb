-- Texts put on a page. Assumes nothing.
use Prim.Native.Nat.{ℕ, ◌+◌, ◌≤◌}
use mathlib.Core.Path.{◌≡◌, refl, sym, ap, ap₂, ◌∙◌}
use mathlib.Core.List.{List, [], ◌∷◌, ◌++◌, append_assoc}
use mathlib.Core.Bool.{Bool, true, false}
use native.Mathlib.Omega.{arith}
use borrow.Author.Tests.{le-leb, leb-true}
use lib.ListN.{length, length-append}
use lib.Dec.{leb}
use Rattle.machine.specs.Lists.{pick, pasted, put_in}
use Rattle.field.proofs.Putting.{put_fits, length_pasted, pasted_both}
use Rattle.page.specs.Lines.{line_of, with_text}

-- ## A text

module _ (page : List ℕ) (at : ℕ) (text : List ℕ) where
  pub text_fits : at + length text ≤ length page → with_text (page, at) text ≡ (pasted page at text, at + length text)
  unfolding with_text pick
  text_fits h = rw (le-leb (at + length text) (length page) h) refl

module _ {r : Bool} (page : List ℕ) (at : ℕ) (text : List ℕ) (e : r ≡ leb (at + length text) (length page)) where
  pub text_put : {p : List ℕ} → r ≡ true → p ≡ put_in page at text → (p, at + length text) ≡ with_text (page, at) text
  text_put h d =
      let k : at + length text ≤ length page = leb-true (at + length text) (length page) (sym e ∙ h) in
      ap (λ u. (u, at + length text)) (put_fits page at text k d) ∙ sym (text_fits page at text k)

  pub text_left : r ≡ false → (page, at) ≡ with_text (page, at) text
  unfolding with_text pick
  text_left h = rw (← e, h) refl

-- ## A line

-- one text after the other is both at once
with_both : (q : List ℕ × ℕ) (s t : List ℕ) → q.1 + (length s + length t) ≤ length q.0 → with_text (with_text q s) t ≡ with_text q (s ++ t)
with_both q s t h =
    let page = q.0 in
    let at = q.1 in
    let k : at + length s ≤ length page = omega arith in
    let n : length (pasted page at s) ≡ length page = length_pasted page at s k in
    let j : at + length s + length t ≤ length (pasted page at s) = omega arith in
    let l : length (s ++ t) ≡ length s + length t = length-append s t in
    let m : at + length (s ++ t) ≤ length page = omega arith in
    let f : at + length s + length t ≡ at + length (s ++ t) = omega arith in
    ap (λ u. with_text u t) (text_fits page at s k) ∙ text_fits (pasted page at s) (at + length s) t j ∙ ap₂ (λ u v. (u, v)) (pasted_both page at s t k) f ∙ sym (text_fits page at (s ++ t) m)

module _ {r : Bool} (q : List ℕ × ℕ) (key text : List ℕ) (e : r ≡ leb (q.1 + (length key + length text + 1)) (length q.0)) where
  pub line_put : {a b o : List ℕ × ℕ} → r ≡ true → a ≡ with_text q key → b ≡ with_text a text → o ≡ with_text b (10 ∷ []) → o ≡ with_text q (line_of key text)
  line_put h x y z =
      let k : q.1 + (length key + length text + 1) ≤ length q.0 = leb-true (q.1 + (length key + length text + 1)) (length q.0) (sym e ∙ h) in
      let l : length (key ++ text) ≡ length key + length text = length-append key text in
      let i : q.1 + (length key + length text) ≤ length q.0 = omega arith in
      let j : q.1 + (length (key ++ text) + length {A = ℕ} (10 ∷ [])) ≤ length q.0 = omega arith in
      z ∙ ap (λ u. with_text u (10 ∷ [])) (y ∙ ap (λ u. with_text u text) x ∙ with_both q key text i)
      ∙ with_both q (key ++ text) (10 ∷ []) j ∙ ap (with_text q) (append_assoc key text (10 ∷ []))

  pub line_left : r ≡ false → q ≡ with_text q (line_of key text)
  line_left h =
      let l : length key + length text + 1 ≡ length (line_of key text) = rw (length-append, length-append) (omega arith) in
      text_left q.0 q.1 (line_of key text) (e ∙ ap (λ n. leb (q.1 + n) (length q.0)) l) h
