-- What is wrong in a line: a row for each field from the left, with the number of what is wrong first in it (0: nothing). 'The field furthest left, and in one field the lowest number' (01, 'Order').
use Rattle.std.specs.Prelude.{List, [], ◌∷◌, ℕ, ◌+◌, ◌-◌, take, drop, eqb}
use Rattle.machine.specs.Lists.{pick}
use Rattle.format.specs.Fields.{Field, width, Value, Values, well_formed, read_field}
use Rattle.format.specs.Tests.{Test, test, Check, check, Tests}
use Rattle.format.specs.Answers.{wrong_form}

-- a column, and the number of what is wrong there
pub data Row : Type 0 where
  row : ℕ → ℕ → Row

-- the part of a line from a column, of a width
abbrev pub part_at : ℕ → ℕ → List ℕ → List ℕ
part_at c w xs = take w (drop (c - 1) xs)

-- the number of the first test that fails
abbrev pub first_answer : List Test → ℕ
first_answer [] = 0
first_answer (test b n ∷ ts) = pick b (first_answer ts) n

-- a field: its form, then its tests
unfoldable pub field_answer : Field → List Test → List ℕ → ℕ
field_answer f ts l = pick (well_formed f l) (first_answer ts) wrong_form

-- the field at a column of a line, by tests of its value
abbrev pub answer_at : ℕ → (f : Field) → (Value f → List Test) → List ℕ → ℕ
answer_at c f tests xs = field_answer f (tests (read_field f (part_at c (width f) xs))) (part_at c (width f) xs)

abbrev pub rows_at : ℕ → (fs : List Field) → Tests fs → List ℕ → List Row → List Row
rows_at c [] t xs k = k
rows_at c (f ∷ fs) t xs k = row c (field_answer f t.0 (part_at c (width f) xs)) ∷ rows_at (c + width f) fs t.1 xs k

abbrev pub check_rows : List Check → List Row
check_rows [] = []
check_rows (check b n c ∷ cs) = row c (pick b 0 n) ∷ check_rows cs

-- the fields of a line from a column on
abbrev pub fields_at : ℕ → (fs : List Field) → List ℕ → Values fs
fields_at c [] xs = tt
fields_at c (f ∷ fs) xs = (read_field f (part_at c (width f) xs), fields_at (c + width f) fs xs)

-- the first row with a number, or what comes where none has one
unfoldable pub first_or : {A : Type 0} → (ℕ → ℕ → A) → List Row → A → A
first_or f [] a = a
first_or f (row c n ∷ rs) a = pick (eqb n 0) (first_or f rs a) (f c n)
