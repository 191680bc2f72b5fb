-- Tests that calls answered, put together. Assumes nothing.
use Prim.Native.Nat.{ℕ}
use mathlib.Core.Path.{◌≡◌, ap, ap₂}
use mathlib.Core.Bool.{Bool, not, ◌&&◌, ◌||◌}
use lib.Dec.{eqb, ltb}

pub both : {x y a b : Bool} → x ≡ a → y ≡ b → (x && y) ≡ (a && b)
both p q = ap₂ ◌&&◌ p q

pub either : {x y a b : Bool} → x ≡ a → y ≡ b → (x || y) ≡ (a || b)
either p q = ap₂ ◌||◌ p q

pub negated : {x a : Bool} → x ≡ a → not x ≡ not a
negated p = ap not p

pub equal : {x y a b : ℕ} → x ≡ a → y ≡ b → eqb x y ≡ eqb a b
equal p q = ap₂ eqb p q

pub less : {y b : ℕ} (x : ℕ) → y ≡ b → ltb x y ≡ ltb x b
less x q = ap (ltb x) q

pub ruleset tests = (both, either, negated, equal, less)
