-- The status of several files. Assumes nothing.
use Prim.Native.Nat.{ℕ, max}
use mathlib.Core.Path.{◌≡◌, sym, subst, ◌∙◌}
use mathlib.Core.Bool.{false}
use native.Mathlib.Omega.{arith}
use Rattle.std.specs.Prelude.{◌⊎◌}
use Rattle.std.proofs.Common.{inl, inr}
use Rattle.machine.specs.Lists.{pick}
use Rattle.streams.specs.Status.{status_of, EndsAs}

either_of : (a b : ℕ) → (max a b ≡ a) ⊎ (max a b ≡ b)
either_of a b = grind arith

module _ (ends : ℕ → Type 0) where
  pub ends_so : {s : ℕ} → ends s → EndsAs ends s
  ends_so h = inl h

  pub ends_unopened : {s : ℕ} → s ≡ status_of 0 false → EndsAs ends s
  unfolding status_of pick
  ends_unopened e = inr e

  pub ends_worse : (a b : ℕ) {s : ℕ} → EndsAs ends a → EndsAs ends b → s ≡ max a b → EndsAs ends s
  ends_worse a b h k e =
      elim (either_of a b) [
        | inl f ↦ subst (λ x. EndsAs ends x) (sym (e ∙ f)) h
        | inr f ↦ subst (λ x. EndsAs ends x) (sym (e ∙ f)) k
      ]
