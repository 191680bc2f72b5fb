-- Lines taken one after the other. Assumes nothing.
use Prim.Native.Nat.{ℕ, ◌≤◌}
use mathlib.Core.Path.{◌≡◌, refl, subst}
use mathlib.Core.List.{List, [], ◌∷◌, ◌++◌}
use native.Mathlib.Omega.{arith}
use Rattle.std.specs.Prelude.{◌⊎◌}
use Rattle.std.proofs.Common.{inl, inr}
use Rattle.std.proofs.lemmas.Fn.{FoldsTo-push}
use Rattle.streams.specs.Taking.{Took}

module _ {A : Type 0} (takes : A → List ℕ → A → Type 0) (first : A) where
  -- n lines were taken, if any the last of them this one
  abbrev pub TookSo : ℕ → List ℕ → A → Type 0
  TookSo n line last = ((n ≡ 0) × (last ≡ first)) ⊎ Took takes first line last

module _ {A : Type 0} {takes : A → List ℕ → A → Type 0} {first : A} where
  pub took_none : {n : ℕ} {line : List ℕ} {last : A} → n ≡ 0 → last ≡ first → TookSo takes first n line last
  took_none z e = inl (z, e)

  -- one line more
  pub took_more : (n : ℕ) {x y line : List ℕ} {b c : A} → TookSo takes first n x b → takes b y c → y ≡ line → Took takes first line c
  took_more n {x} {y} {line} {b} {c} t h e =
      let k : takes b line c = subst (λ z. takes b z c) e h in
      elim t [
        | inl f ↦ record { lines = []; before = first; through = refl; at = subst (λ p. takes p line c) f.1 k }
        | inr w ↦ record {
          lines = w.lines ++ (x ∷ []);
          before = b;
          through = FoldsTo-push takes first w.lines w.before x b w.through w.at;
          at = k;
        }
      ]

  pub took_again : (m n : ℕ) {x y line : List ℕ} {b c : A} → TookSo takes first n x b → takes b y c → y ≡ line → TookSo takes first m line c
  took_again m n t h e = inr (took_more n t h e)

  -- after as many as are counted
  pub took_some : (n : ℕ) {line : List ℕ} {last : A} → TookSo takes first n line last → 18446744073709551615 ≤ n → Took takes first line last
  took_some n t k = elim t [ inl e ↦ absurd (omega (arith, k, e.0)) | inr w ↦ w ]
