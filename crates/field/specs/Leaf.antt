-- Numeric fields of at most 18 digits: what is wrong, and the value where nothing is.
use Rattle.std.specs.Prelude.{ℕ, ◌≤◌, ◌≡◌, List, [], Bool, true, false, ◌&&◌, length, leb, eqb, Result, Ok, Err, ⊤}
use Rattle.machine.specs.Lists.{pick, all, is_digit}
use Rattle.machine.specs.Digits.{value_of}
use Rattle.format.specs.Fields.{numeric}
use Rattle.format.specs.Answers.{wrong_form, number_of}
use Rattle.format.specs.declared.Refusal.{Refusal}
use Rattle.format.specs.declared.Refusal.TheVariants.{WrongForm}
use Rattle.format.specs.Tests.{Test}
use Rattle.field.specs.Rows.{first_answer, field_answer}

-- digits and what they stand for, 0 where they are none
pub record Digits : Type 0 where
  pub ok : Bool
  pub value : ℕ

-- what is wrong with a numeric field, and its value where nothing is
pub record Numeric : Type 0 where
  pub number : ℕ
  pub value : ℕ

abbrev pub no_digits : Digits
no_digits = record { ok = false; value = 0 }

-- a number that digits stand for
abbrev pub digits_for : ℕ → Digits
digits_for v = record { ok = true; value = v }

unfoldable pub digits_of : List ℕ → Digits
digits_of l = pick (leb (length l) 18 && all is_digit l) (record { ok = true; value = value_of l }) no_digits

abbrev pub wrong_as : ℕ → Numeric
wrong_as n = record { number = n; value = 0 }

abbrev pub right_of : ℕ → Numeric
right_of v = record { number = 0; value = v }

-- a number with its value where nothing is wrong
abbrev pub numeric_by : ℕ → ℕ → Numeric
numeric_by n v = record { number = n; value = pick (eqb n 0) v 0 }

-- digits that stand for a number, by tests of it
unfoldable pub tested_by : (ℕ → List Test) → Digits → Numeric
tested_by tests d = pick d.ok (numeric_by (first_answer (tests d.value)) d.value) (wrong_as wrong_form)

-- the field's form, then tests of its value
unfoldable pub numeric_answer : (ℕ → List Test) → List ℕ → ℕ
numeric_answer tests l = pick (leb (length l) 18) (field_answer (numeric (length l)) (tests (value_of l)) l) wrong_form

unfoldable pub numeric_of : (ℕ → List Test) → List ℕ → Numeric
numeric_of tests l = numeric_by (numeric_answer tests l) (value_of l)

-- digits alone
abbrev pub no_tests : ℕ → List Test
no_tests v = []

-- ## What functions hand out, in these words

abbrev pub numeric_read : Result ℕ Refusal → Numeric
numeric_read (Ok v) = right_of v
numeric_read (Err r) = wrong_as (number_of r)

-- by the form alone
abbrev pub formed : Bool → Result ⊤ Refusal
formed true = Ok tt
formed false = Err WrongForm

-- ## Accounts by their digits: what functions ask that are not public

pub record TenDigits (l : List ℕ) (v : ℕ) : Type 0 where
  pub short : length l ≤ 10
  pub digits : all is_digit l ≡ true
  pub value : v ≡ value_of l
