-- The eleven check as it is taught (02, [3]): 'add the digits one after the other, and add each running total into a second one'; and that it answers as 01's weights do. A digit is its character here, 48 to 57.
use Rattle.std.specs.Prelude.{ℕ, ◌+◌, ◌-◌, ◌%◌, ◌≡◌, List, [], ◌∷◌, Bool, true, length, eqb}
use Rattle.machine.specs.Lists.{all, is_digit}
use Rattle.machine.specs.Digits.{decimal, value_of}
use Rattle.format.specs.Rules.{weighted, is_eleven}

-- the total after each of the digits, from the total before them
unfoldable pub running_totals : ℕ → List ℕ → List ℕ
running_totals total [] = []
running_totals total (c ∷ l) = (total + (c - 48)) ∷ running_totals (total + (c - 48)) l

unfoldable pub added : List ℕ → ℕ
added [] = 0
added (n ∷ l) = n + added l

unfoldable pub second_sum : List ℕ → ℕ
second_sum l = added (running_totals 0 l)

unfoldable pub is_eleven_taught : List ℕ → Bool
is_eleven_taught l = eqb (second_sum l % 11) 0

-- ## 'What it answers stays the same, for each number'

-- the second sum of digits is the weighted sum of what they stand for, with as many weights, down to 1
abbrev pub SameSum : Type 0
SameSum = (l : List ℕ) → all is_digit l ≡ true → second_sum l ≡ weighted (length l) 1 (value_of l)

-- a number in ten digits
abbrev pub SameAnswer : Type 0
SameAnswer = (n : ℕ) → is_eleven_taught (decimal 10 n) ≡ is_eleven n
