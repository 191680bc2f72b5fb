-- A desired date, from what its tests found. Assumes nothing.
use Prim.Native.Nat.{ℕ}
use mathlib.Core.Path.{◌≡◌}
use mathlib.Core.Bool.{Bool, ◌||◌}
use lib.Dec.{eqb}
use Rattle.format.specs.Rules.{is_date, is_desired_date}

pub desired : {r q : Bool} (d : ℕ) → r ≡ is_date d → (eqb d 0 || r) ≡ q → is_desired_date d ≡ q
unfolding is_desired_date
desired d e h = rw (← e) h
