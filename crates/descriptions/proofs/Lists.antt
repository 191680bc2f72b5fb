-- Descriptions that hold a list of texts: what is added or merged is the list's. For those who call this crate. Assumes nothing.
use Prim.Native.Nat.{ℕ, ◌+◌, ◌*◌, ◌≤◌, ◌<◌}
use mathlib.Core.Path.{◌≡◌, refl, ◌∙◌, ap, ap₂}
use mathlib.Core.List.{List, [], ◌∷◌, ◌++◌, append_assoc}
use native.Mathlib.Omega.{arith}
use Rattle.std.proofs.Math.Nat.{min-eq_left}
use borrow.Author.Tests.{lt-ltb}
use lib.ListN.{length, take, drop, length-append}
use lib.Seq.{take_at, drop_at, drop-append-add, drop-drop}
use Rattle.machine.specs.Lists.{pick, spaces}
use Rattle.descriptions.specs.Texts.{texts_in, texts_of, joined, merge_of, in_places, merged, text_from, with_text}
use Rattle.descriptions.proofs.Adding.{text_long}

-- texts of 32 characters
abbrev pub Full : List (List ℕ) → Type 0
Full [] = Unit {0}
Full (t ∷ ts) = (length t ≡ 32) × Full ts

pub full_more : (ts : List (List ℕ)) (t : List ℕ) → Full ts → Full (ts ++ (text_from t ∷ []))
full_more [] t h = (text_long t, tt)
full_more (x ∷ ts) t h = (h.0, full_more ts t h.1)

joined_long : (ts : List (List ℕ)) → Full ts → length (joined ts) ≡ 32 * length ts
joined_long [] h = refl
joined_long (t ∷ ts) h = let e = length-append t (joined ts) in let k = joined_long ts h.1 in omega (arith, h.0)

texts_back : (ts : List (List ℕ)) (l : List ℕ) → Full ts → texts_in (length ts) (joined ts ++ l) ≡ ts
texts_back [] l h = refl
texts_back (t ∷ ts) l h =
    let e : (t ++ joined ts) ++ l ≡ t ++ (joined ts ++ l) = append_assoc t (joined ts) l in
    ap₂ (λ x y. x ∷ texts_in (length ts) y) (ap (take 32) e ∙ take_at t (joined ts ++ l) 32 h.0) (ap (drop 32) e ∙ drop_at t (joined ts ++ l) 32 h.0)
    ∙ ap (λ y. t ∷ y) (texts_back ts l h.1)

-- what is read of the places is what was put there
pub texts_of_places : (room : List ℕ) (ts : List (List ℕ)) → Full ts → length ts ≤ 4 → texts_of (in_places room ts) ≡ ts
texts_of_places room ts h k = ap (λ n. texts_in n (joined ts ++ drop (32 * length ts) room)) (min-eq_left k) ∙ texts_back ts (drop (32 * length ts) room) h

pub with_places : (room : List ℕ) (ts : List (List ℕ)) (t : List ℕ) → Full ts → length ts < 4 → with_text (in_places room ts) t ≡ in_places room (ts ++ (text_from t ∷ []))
unfolding with_text pick
with_places room ts t h k =
    let more : List (List ℕ) = ts ++ (text_from t ∷ []) in
    let l : List ℕ = joined ts ++ drop (32 * length ts) room in
    let z : 32 * length more ≡ length (joined ts) + 32 = omega (arith, length-append ts (text_from t ∷ []), joined_long ts h) in
    let y : 32 * length ts + 32 ≡ 32 * length more = omega (arith, length-append ts (text_from t ∷ [])) in
    let e : drop (32 * length more) l ≡ drop (32 * length more) room
    = ap (λ n. drop n l) z ∙ drop-append-add (joined ts) (drop (32 * length ts) room) 32 ∙ drop-drop 32 (32 * length ts) room ∙ ap (λ n. drop n room) y in
    ap (λ b. pick b (in_places l (texts_of (in_places room ts) ++ (text_from t ∷ []))) (in_places room ts)) (lt-ltb (length ts) 4 k)
    ∙ ap (λ x. in_places l (x ++ (text_from t ∷ []))) (texts_of_places room ts h (omega arith))
    ∙ ap (λ x. record { text = joined more ++ x; count = length more }) e

pub merged_places : (room space : List ℕ) (fixed own : List (List ℕ)) (limit : ℕ) → Full fixed → length fixed ≤ 4 → Full own → length own ≤ 4 → limit ≤ 4
    → merged (in_places room fixed) (in_places space own) limit ≡ in_places (spaces 128) (merge_of limit fixed own)
unfolding merged
merged_places room space fixed own limit h k g l m =
    ap (λ n. in_places (spaces 128) (merge_of n (texts_of (in_places room fixed)) (texts_of (in_places space own)))) (min-eq_left m)
    ∙ ap₂ (λ x y. in_places (spaces 128) (merge_of limit x y)) (texts_of_places room fixed h k) (texts_of_places space own g l)
