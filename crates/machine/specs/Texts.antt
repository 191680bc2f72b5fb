-- Quoted texts as bytes.
use Rattle.std.specs.Prelude.{ℕ, List, [] as none, ◌∷◌ as ◌then◌}
use Prim.Native.Char.{code}
use Prim.Native.String.{String, [], ◌∷◌}

abbrev pub characters : String → List ℕ
characters [] = none
characters (c ∷ cs) = code c then characters cs
