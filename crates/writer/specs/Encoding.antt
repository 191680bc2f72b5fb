-- What is given for the fields of a record, as the 52 bytes of its line: by the format's table, with what a field cannot carry written so that no reader takes it.
use Rattle.std.specs.Prelude.{ℕ, List, [], ◌∷◌, ◌++◌, take, drop, ltb}
use Rattle.machine.specs.Lists.{pick, all, is_space, spaces}
use Rattle.machine.specs.Digits.{pow10, decimal}
use Rattle.format.specs.Fields.{Field, numeric, filled, optional, free, filler}
use Rattle.format.specs.Language.{crlf, end_bytes}

-- a byte that no field takes, and spaces
abbrev pub unfit : ℕ → List ℕ
unfit w = take w (0 ∷ spaces 44)

-- 'A number too large for its field is answer 4'
unfoldable pub number_in : ℕ → ℕ → List ℕ
number_in w n = pick (ltb n (pow10 w)) (decimal w n) (unfit w)

-- and so is a text of which more than spaces is beyond its field
unfoldable pub text_in : ℕ → List ℕ → List ℕ
text_in w t = pick (all is_space (drop w t)) (take w t) (unfit w)

-- and a text where the record has none
unfoldable pub blank_in : ℕ → List ℕ → List ℕ
blank_in w t = pick (all is_space t) (spaces w) (unfit w)

-- what is given for a field: a number, or a text
abbrev pub Given : Field → Type 0
Given (numeric w) = ℕ
Given (filled w) = List ℕ
Given (optional w) = List ℕ
Given (free w) = List ℕ
Given (filler w) = List ℕ

abbrev pub Givens : List Field → Type 0
Givens [] = Unit {0}
Givens (f ∷ fs) = Given f × Givens fs

abbrev pub encode_field : (f : Field) → Given f → List ℕ
encode_field (numeric w) n = number_in w n
encode_field (filled w) t = text_in w t
encode_field (optional w) t = text_in w t
encode_field (free w) t = text_in w t
encode_field (filler w) t = blank_in w t

abbrev pub encode_fields : (fs : List Field) → Givens fs → List ℕ
encode_fields [] x = []
encode_fields (f ∷ fs) x = encode_field f x.0 ++ encode_fields fs x.1

-- the end of a line: 'The writer keeps writing 13, 10'
abbrev pub line_end : List ℕ
line_end = end_bytes crlf

-- a line of 50 characters with its end
unfoldable pub encoded_line : List ℕ → (fs : List Field) → Givens fs → List ℕ
encoded_line code fs x = code ++ (encode_fields fs x ++ line_end)
