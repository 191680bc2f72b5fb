-- A text in a field that is longer or shorter.
use Rattle.std.specs.Prelude.{ℕ, List, ◌++◌, take}
use Rattle.machine.specs.Lists.{spaces}

-- the first n characters, filled with spaces
abbrev pub filled_to : ℕ → List ℕ → List ℕ
filled_to n t = take n (t ++ spaces n)
