-- A test of a byte.
use Rattle.std.specs.Prelude.{◌≡◌, ℕ, Bool}

-- what it may answer is what p does
abbrev pub Answers : (ℕ → Bool → Type 0) → (ℕ → Bool) → Type 0
Answers may p = (b : ℕ) (r : Bool) → may b r → r ≡ p b
