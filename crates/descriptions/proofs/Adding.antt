-- One more text at the next place. Assumes nothing.
use Prim.Native.Nat.{ℕ, ◌+◌, ◌*◌, ◌≤◌, ◌<◌, min}
use mathlib.Core.Path.{◌≡◌, sym, ◌∙◌, ap, ap₂}
use mathlib.Core.List.{List, [], ◌∷◌, ◌++◌, append-nil}
use native.Mathlib.Omega.{arith}
use borrow.Author.Rules.{rules}
use borrow.Author.Tests.{lt-ltb, le-ltb}
use lib.ListN.{length, take, drop, length-append}
use Rattle.machine.specs.Lists.{pick, pasted, put_in}
use Rattle.field.proofs.Putting.{put_fits}
use Rattle.field.proofs.Filling.{filled_long}
use Rattle.descriptions.specs.Texts.{texts_in, texts_of, joined, in_places, text_from, with_text}
use Rattle.descriptions.specs.declared.Descriptions.{Descriptions}
use Rattle.descriptions.proofs.Merging.{join_texts, join_append, texts_long}

pub text_long : (t : List ℕ) → length (text_from t) ≡ 32
text_long t = filled_long 32 t

-- a text at its place, as a list of texts in places
text_put : (l t : List ℕ) (c : ℕ) {r : List ℕ} → r ≡ pasted l (32 * c) (text_from t)
    → ◌≡◌ {A = Descriptions} (record { text = r; count = c + 1 }) (in_places l (texts_in c l ++ (text_from t ∷ [])))
unfolding pasted
text_put l t c {r} u =
    let ts : List (List ℕ) = texts_in c l ++ (text_from t ∷ []) in
    let j : joined ts ≡ take (32 * c) l ++ text_from t = join_append (texts_in c l) (text_from t ∷ []) ∙ ap₂ ◌++◌ (join_texts c l) (append-nil (text_from t)) in
    let n : length ts ≡ c + 1 = length-append (texts_in c l) (text_from t ∷ []) ∙ ap (λ k. k + 1) (texts_long c l) in
    let z : 32 * c + length (text_from t) ≡ 32 * length ts = omega (arith, n, text_long t) in
    ap₂ (λ y k. record { text = y; count = k }) (u ∙ ap₂ (λ y k. y ++ drop k l) (sym j) z) (sym n)

module _ (d : Descriptions) (t : List ℕ) where
  with_is : {r : Descriptions} → d.count < 4 → r ≡ in_places d.text (texts_in d.count d.text ++ (text_from t ∷ [])) → r ≡ with_text d t
  unfolding with_text pick
  with_is h e =
      let z : d.count ≡ min d.count 4 = omega arith in
      e ∙ ap (λ n. in_places d.text (texts_in n d.text ++ (text_from t ∷ []))) z
      ∙ ap (λ b. pick b (in_places d.text (texts_of d ++ (text_from t ∷ []))) d) (sym (lt-ltb d.count 4 h))

  pub with_more : {x r : List ℕ} → d.count < 4 → length d.text ≡ 128 → x ≡ text_from t → r ≡ put_in d.text (32 * d.count) x
      → ◌≡◌ {A = Descriptions} (record { text = r; count = d.count + 1 }) (with_text d t)
  with_more {x} {r} h k u v =
      let l = text_long t in
      with_is h (text_put d.text t d.count (put_fits d.text (32 * d.count) (text_from t) (omega arith) (v ∙ ap (put_in d.text (32 * d.count)) u)))

  pub with_four : 4 ≤ d.count → d ≡ with_text d t
  unfolding with_text pick
  with_four h = ap (λ b. pick b (in_places d.text (texts_of d ++ (text_from t ∷ []))) d) (sym (le-ltb d.count 4 h))

pub ruleset adds = (with_more, with_four, rules)
