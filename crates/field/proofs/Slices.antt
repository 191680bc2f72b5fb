-- The same bytes. Assumes nothing.
use Prim.Native.Nat.{ℕ}
use mathlib.Core.Path.{◌≡◌, sym, ◌∙◌}
use mathlib.Core.List.{List, [], ◌∷◌}
use mathlib.Core.Bool.{Bool, ◌&&◌, and-true, and_assoc}
use native.Mathlib.Omega.{arith}
use borrow.Author.Tests.{ne_eqb}
use lib.ListN.{length}
use lib.Dec.{eqb}
use Rattle.std.specs.List.{fold, zip}
use Rattle.machine.specs.Lists.{same}
use Rattle.machine.proofs.Base.{unlike}

pub unlike_length : (a b : List ℕ) → (length a ≡ length b → ⊥) → eqb (length a) (length b) ≡ same a b
unlike_length a b h = ne_eqb (length a) (length b) h ∙ unlike a b h

pub fold_same : (ok : Bool) (a b : List ℕ) → length a ≡ length b → fold (λ r p. r && eqb p.0 p.1) ok (zip a b) ≡ (ok && same a b)
unfolding same
fold_same ok [] [] h = sym (and-true ok)
fold_same ok [] (y ∷ b) h = absurd (omega arith)
fold_same ok (x ∷ a) [] h = absurd (omega arith)
fold_same ok (x ∷ a) (y ∷ b) h = fold_same (ok && eqb x y) a b (omega arith) ∙ and_assoc ok (eqb x y) (same a b)
