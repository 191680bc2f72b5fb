-- The lines of some bytes, whatever a line is: `cut e` takes the first line off, where e is what the lines so far say of those to come, and `turn e c` what they say after the line c.
use Rattle.std.specs.Prelude.{◌≡◌, List, [], ◌++◌, ℕ, zero, suc}
use Rattle.std.proofs.Math.Option.{Option, none, some}

-- a line and the bytes after it, or none
abbrev pub Split : Type 0
Split = Option (List ℕ × List ℕ)

abbrev pub first_of : Split → List ℕ → (List ℕ → List ℕ → List ℕ) → List ℕ
first_of none b k = b
first_of (some (c, r)) b k = c ++ k c r

module _ {E : Type 0} (cut : E → List ℕ → Split) (turn : E → List ℕ → E) where
  -- the first n lines; all that is left, where there is no whole line
  unfoldable pub front : E → ℕ → List ℕ → List ℕ
  front e zero b = []
  front e (suc n) b = first_of (cut e b) b (λ c r. front (turn e c) n r)

  -- the bytes are n lines and no more
  pub data Exactly : E → ℕ → List ℕ → Type 0 where
    no_lines : {e : E} → Exactly e 0 []
    one_more : {e : E} {n : ℕ} {b : List ℕ} (c r : List ℕ) → cut e b ≡ some (c, r) → Exactly (turn e c) n r → Exactly e (suc n) b
