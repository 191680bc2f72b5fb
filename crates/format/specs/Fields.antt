-- Fields: their forms, what stands in them, and a record's fields by a table (01, 'Form').
use Rattle.std.specs.Prelude.{◌≡◌, Bool, not, ◌&&◌, ◌||◌, List, [], ◌∷◌, ◌++◌, ℕ, ◌+◌, ◌<◌, length, get_or, take, drop, T, leb}
use Rattle.machine.specs.Lists.{all, is_digit, is_space, spaces}
use Rattle.machine.specs.Digits.{value_of, decimal, pow10}

-- a field and its width: digits; text that is filled; text that may be blank; text that may be anything; spaces
pub data Field : Type 0 where
  numeric filled optional free filler : ℕ → Field

abbrev pub width : Field → ℕ
width (numeric w) = w
width (filled w) = w
width (optional w) = w
width (free w) = w
width (filler w) = w

-- what a field holds: a number, or its characters
abbrev pub Value : Field → Type 0
Value (numeric w) = ℕ
Value (filled w) = List ℕ
Value (optional w) = List ℕ
Value (free w) = List ℕ
Value (filler w) = Unit {0}

-- 'bytes 32 to 126'
abbrev pub printable : ℕ → Bool
printable c = leb 32 c && leb c 126

-- 'a field that isn't blank doesn't begin with a space'
abbrev pub left_justified : List ℕ → Bool
left_justified l = not (is_space (get_or l 0 32))

-- a field's form
abbrev pub well_formed : Field → List ℕ → Bool
well_formed (numeric w) l = all is_digit l
well_formed (filled w) l = all printable l && left_justified l
well_formed (optional w) l = all printable l && (all is_space l || left_justified l)
well_formed (free w) l = all printable l
well_formed (filler w) l = all is_space l

abbrev pub read_field : (f : Field) → List ℕ → Value f
read_field (numeric w) l = value_of l
read_field (filled w) l = l
read_field (optional w) l = l
read_field (free w) l = l
read_field (filler w) l = tt

abbrev pub write_field : (f : Field) → Value f → List ℕ
write_field (numeric w) n = decimal w n
write_field (filled w) t = t
write_field (optional w) t = t
write_field (free w) t = t
write_field (filler w) t = spaces w

-- a value that the field can carry
abbrev pub Fit : (f : Field) → Value f → Type 0
Fit (numeric w) n = n < pow10 w
Fit (filled w) t = (length t ≡ w) × T (well_formed (filled w) t)
Fit (optional w) t = (length t ≡ w) × T (well_formed (optional w) t)
Fit (free w) t = (length t ≡ w) × T (well_formed (free w) t)
Fit (filler w) t = Unit {0}

-- a record's fields
abbrev pub Values : List Field → Type 0
Values [] = Unit {0}
Values (f ∷ fs) = Value f × Values fs

abbrev pub widths : List Field → ℕ
widths [] = 0
widths (f ∷ fs) = width f + widths fs

abbrev pub write_fields : (fs : List Field) → Values fs → List ℕ
write_fields [] x = []
write_fields (f ∷ fs) x = write_field f x.0 ++ write_fields fs x.1

abbrev pub read_fields : (fs : List Field) → List ℕ → Values fs
read_fields [] l = tt
read_fields (f ∷ fs) l = (read_field f (take (width f) l), read_fields fs (drop (width f) l))

abbrev pub Fits : (fs : List Field) → Values fs → Type 0
Fits [] x = Unit {0}
Fits (f ∷ fs) x = Fit f x.0 × Fits fs x.1
