-- The lines of a file: 50 characters and then the end, which the first line fixes for all.
use Rattle.std.specs.Prelude.{Bool, true, false, cond, List, [], ◌∷◌, ℕ, zero, suc, ◌-◌, take, drop, Some, None, Option}
use Rattle.std.proofs.Math.Option.{none, some}
use Rattle.machine.specs.Lists.{pick, same}
use Rattle.machine.specs.Lines.{Split, front, Exactly}
use Rattle.format.specs.Language.{Ending, crlf, lf, end_bytes}
use Rattle.format.specs.declared.LineEnd.{LineEnd}
use Rattle.format.specs.declared.LineEnd.TheVariants.{CrLf, Lf}
use Rattle.format.specs.declared.Cut.{Cut}

-- how lines end: unknown before the first line, which fixes it, and of a line that has neither end
abbrev pub EndingSoFar : Type 0
EndingSoFar = Option LineEnd

-- after lines that end so, a line that ends so may follow: 'The first line fixes which, and the other ending later is a broken line'
abbrev pub is_open : EndingSoFar → EndingSoFar → Bool
is_open e None = false
is_open None (Some CrLf) = true
is_open None (Some Lf) = true
is_open (Some CrLf) (Some CrLf) = true
is_open (Some CrLf) (Some Lf) = false
is_open (Some Lf) (Some CrLf) = false
is_open (Some Lf) (Some Lf) = true

-- after 50 characters there is this end, and no more
abbrev pub ends_in : Ending → List ℕ → Bool
ends_in z c = same (drop 50 c) (end_bytes z)

-- a line that neither end fits: as many bytes as a line can have
abbrev pub broken_cut : Cut
broken_cut = record { bytes = 52; ending = None }

-- THE CUT of the first line of some bytes: how many it takes, and how it ends
unfoldable pub cut_of : List ℕ → Cut
cut_of b =
    pick (ends_in lf (take 51 b)) (record { bytes = 51; ending = Some Lf })
    (pick (ends_in crlf (take 52 b)) (record { bytes = 52; ending = Some CrLf })
    broken_cut)

-- the bytes of the first line, or as many as there are, and the bytes after it
abbrev pub next_line : List ℕ → List ℕ
next_line b = take (cut_of b).bytes b

abbrev pub after_next : List ℕ → List ℕ
after_next b = drop (cut_of b).bytes b

-- the lines of some bytes, whole or not; k bytes are still to be passed
unfoldable pub lines_from : ℕ → List ℕ → List (List ℕ)
lines_from k [] = []
lines_from (suc k) (x ∷ xs) = lines_from k xs
lines_from zero (x ∷ xs) = next_line (x ∷ xs) ∷ lines_from ((cut_of (x ∷ xs)).bytes - 1) xs

abbrev pub lines_in : List ℕ → List (List ℕ)
lines_in b = lines_from 0 b

-- ## Whole lines, for the reader of lines

abbrev pub no_ending : EndingSoFar
no_ending = None

-- a line fixes the ending
abbrev pub turn : EndingSoFar → List ℕ → EndingSoFar
turn e c = (cut_of c).ending

-- a first line that may follow, and the bytes after it
abbrev pub cut : EndingSoFar → List ℕ → Split
cut e b = cond (is_open e (cut_of b).ending) (some (next_line b, after_next b)) none

-- the first n lines of a file; bytes that are n lines and no more
abbrev pub first_lines : ℕ → List ℕ → List ℕ
first_lines n b = front cut turn no_ending n b

abbrev pub AreLines : ℕ → List ℕ → Type 0
AreLines n b = Exactly cut turn no_ending n b
