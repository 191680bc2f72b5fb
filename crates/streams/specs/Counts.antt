-- How many bytes of a buffer are meant.
use Rattle.std.specs.Prelude.{◌≡◌, ℕ, ◌≤◌, List, length, take, Result, Ok, Err}

-- there are so many, and the part that they are has as many
abbrev pub IsPrefixLen : ℕ → List ℕ → Type 0
IsPrefixLen n xs = (n ≤ length xs) × (n ≡ length (take n xs))

-- so many were read, whether a read failed behind them or not
abbrev pub count_of : Result ℕ ℕ → ℕ
count_of (Ok n) = n
count_of (Err n) = n
