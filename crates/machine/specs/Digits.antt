-- Numbers in digits.
use Rattle.std.specs.Prelude.{List, [], ◌∷◌, ℕ, zero, suc, ◌+◌, ◌*◌, ◌-◌, ◌/◌, ◌%◌}

abbrev pub pow10 : ℕ → ℕ
pow10 zero = 1
pow10 (suc w) = 10 * pow10 w

-- the last w digits of n, before k
unfoldable pub digits_onto : ℕ → ℕ → List ℕ → List ℕ
digits_onto zero n k = k
digits_onto (suc w) n k = digits_onto w (n / 10) ((48 + n % 10) ∷ k)

-- n in w digits
unfoldable pub decimal : ℕ → ℕ → List ℕ
decimal w n = digits_onto w n []

-- what digits stand for, after those of a
unfoldable pub value_after : ℕ → List ℕ → ℕ
value_after a [] = a
value_after a (c ∷ l) = value_after (a * 10 + (c - 48)) l

abbrev pub value_of : List ℕ → ℕ
value_of l = value_after 0 l
