-- Bytes in lists.
use Rattle.std.specs.Prelude.{Bool, true, false, ◌&&◌, List, [], ◌∷◌, ◌++◌, ℕ, ◌+◌, length, take, drop, replicate, leb, eqb}

-- one of two, by a test
unfoldable pub pick {ℓ} : {A : Type ℓ} → Bool → A → A → A
pick true a b = a
pick false a b = b

-- every byte passes
abbrev pub all : (ℕ → Bool) → List ℕ → Bool
all p [] = true
all p (c ∷ l) = p c && all p l

-- the same bytes
unfoldable pub same : List ℕ → List ℕ → Bool
same [] [] = true
same [] (y ∷ ys) = false
same (x ∷ xs) [] = false
same (x ∷ xs) (y ∷ ys) = eqb x y && same xs ys

abbrev pub is_digit : ℕ → Bool
is_digit c = leb 48 c && leb c 57

abbrev pub is_space : ℕ → Bool
is_space c = eqb c 32

abbrev pub spaces : ℕ → List ℕ
spaces n = replicate n 32

abbrev pub in_range : ℕ → ℕ → ℕ → Bool
in_range low high n = leb low n && leb n high

-- a text in a room from an offset on, and the other bytes as they were
unfoldable pub pasted : List ℕ → ℕ → List ℕ → List ℕ
pasted room at text = (take at room ++ text) ++ drop (at + length text) room

-- where it fits
unfoldable pub put_in : List ℕ → ℕ → List ℕ → List ℕ
put_in room at text = pick (leb (at + length text) (length room)) (pasted room at text) room
