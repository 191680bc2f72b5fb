-- The first line of some bytes, and the lines after it. Assumes nothing.
use Prim.Native.Nat.{ℕ, ◌-◌, ◌<◌}
use mathlib.Core.Path.{◌≡◌}
use mathlib.Core.List.{List, ◌∷◌}
use lib.ListN.{length, take, drop}
use Rattle.std.proofs.Common.{zero-add}
use Rattle.std.proofs.lemmas.List.{take_rest}
use Rattle.format.specs.Cutting.{next_line, lines_in}
use Rattle.format.proofs.Cutting.{lines_at}

pub first_line : {line : List ℕ} (bytes : List ℕ) → 0 < length bytes → line ≡ next_line bytes
    → lines_in bytes ≡ line ∷ lines_in (take (length bytes - length line) (drop (length line) bytes))
first_line bytes some e = rw take_rest (rw zero-add at (lines_at bytes 0 some e))
