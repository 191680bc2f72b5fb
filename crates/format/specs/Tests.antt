-- What is tested of each field's value, field by field in the order of the record table: each test with the answer where it fails (01, 'Field rules' and 'Answers').
use Rattle.std.specs.Prelude.{Bool, not, ◌&&◌, ◌||◌, List, [], ◌∷◌, ℕ, suc, ◌+◌, leb, ltb, eqb}
use Rattle.std.proofs.Math.Option.{Option, none, some}
use Rattle.machine.specs.Lists.{same, in_range}
use Rattle.format.specs.Fields.{Field}
use Rattle.format.specs.Records.{layout, Fields, creation_date, file_name, identification, duplicate_code, group, ordering_account, sequence, currency, name_code, desired_date, test_code, type, amount, payer, beneficiary, total_amount, total_accounts, items}
use Rattle.format.specs.Rules.{max_amount, max_total, max_items, max_account, max_sequence, CLIEOP03, EUR, is_test_code, is_date, is_desired_date, is_identification, is_of_day, is_ordering_account, is_account, is_own_if, is_seven_if, same_group, group_text, is_group, is_name_code_in, type_of, is_type, is_type_in, is_unchecked_type, TypeRead}
use Rattle.format.specs.Answers.{wrong_value, wrong_account, differs, above_maximum, wrong_trailer, ordinary_account}
use Rattle.format.specs.declared.Kind.TheVariants.{FileHeader, BatchHeaderB, OrderingParty, Transaction, BatchTrailer}
use Rattle.format.specs.declared.Group.{Group}
use Rattle.format.specs.declared.Group.TheVariants.{Payments, Debits}

-- a test of a value, and the answer where it fails
pub data Test : Type 0 where
  test : Bool → ℕ → Test

-- a test of a whole line, with the column of its answer
pub data Check : Type 0 where
  check : Bool → ℕ → ℕ → Check

-- ## The tests of each field by what they need and its value

abbrev pub range_test : ℕ → ℕ → ℕ → Test
range_test low high v = test (in_range low high v) wrong_value

abbrev pub range_tests : ℕ → ℕ → ℕ → List Test
range_tests low high v = range_test low high v ∷ []

-- a text that has to be this one
abbrev pub text_tests : List ℕ → List ℕ → List Test
text_tests text t = test (same t text) wrong_value ∷ []

abbrev pub date_tests : ℕ → List Test
date_tests v = test (is_date v) wrong_value ∷ []

abbrev pub desired_tests : ℕ → List Test
desired_tests v = test (is_desired_date v) wrong_value ∷ []

-- by the creation date
abbrev pub identification_tests : ℕ → List ℕ → List Test
identification_tests created t = test (is_identification t) wrong_value ∷ test (is_of_day created t) differs ∷ []

abbrev pub duplicate_tests : ℕ → List Test
duplicate_tests = range_tests 1 2

-- 'the same throughout the file': the group so far, if any
abbrev pub same_group_tests : Option Group → List ℕ → List Test
same_group_tests none t = []
same_group_tests (some g) t = test (same t (group_text g)) differs ∷ []

-- 'Group is 00 or 10'
abbrev pub group_tests : Option Group → List ℕ → List Test
group_tests g t = test (is_group t) wrong_value ∷ same_group_tests g t

abbrev pub ordering_tests : ℕ → List Test
ordering_tests v = range_test 1 max_account v ∷ test (is_ordering_account v) wrong_account ∷ []

-- the number before, 0 for none
abbrev pub is_next : ℕ → ℕ → Bool
is_next before n = eqb before 0 || eqb n (suc before)

abbrev pub sequence_tests : ℕ → ℕ → List Test
sequence_tests before v = range_test 1 max_sequence v ∷ test (is_next before v) differs ∷ []

abbrev pub name_code_tests : Group → ℕ → List Test
name_code_tests g v = range_test 1 2 v ∷ test (is_name_code_in g v) differs ∷ []

abbrev pub test_code_tests : List ℕ → List Test
test_code_tests t = test (is_test_code t) wrong_value ∷ []

-- 'A type that isn't one of the six is 5, a type of the other group 7'
abbrev pub type_tests : Group → TypeRead → List Test
type_tests g t = test (is_type t) wrong_value ∷ test (is_type_in g t) differs ∷ []

abbrev pub amount_tests : ℕ → List Test
amount_tests = range_tests 1 max_amount

-- of the own account 7; of the other party's, where the type is unchecked, 14: 'after 7 on the same field' (02)
abbrev pub role_tests : Bool → ℕ → Bool → ℕ → List Test
role_tests mine own unchecked v = test (is_own_if mine own v) differs ∷ test (is_seven_if (not mine && unchecked) v) ordinary_account ∷ []

-- by whether it has to be the own account, and whether the type is unchecked
abbrev pub party_tests : Bool → ℕ → Bool → ℕ → List Test
party_tests mine own unchecked v = range_test 1 max_account v ∷ test (is_account v) wrong_account ∷ role_tests mine own unchecked v

-- the payer is the own account in payments, the beneficiary in debits
abbrev pub payer_tests : Group → ℕ → TypeRead → ℕ → List Test
payer_tests g own t = party_tests (same_group Payments g) own (is_unchecked_type t)

abbrev pub beneficiary_tests : Group → ℕ → TypeRead → ℕ → List Test
beneficiary_tests g own t = party_tests (same_group Debits g) own (is_unchecked_type t)

-- a trailer's number, which may be zero or not
abbrev pub equal_tests : ℕ → ℕ → List Test
equal_tests right v = test (eqb v right) wrong_trailer ∷ []

abbrev pub total_tests : ℕ → ℕ → ℕ → ℕ → List Test
total_tests low high right v = range_test low high v ∷ equal_tests right v

-- ## The tests of each record

-- the tests of each field of a record
abbrev pub Tests : List Field → Type 0
Tests [] = Unit {0}
Tests (f ∷ fs) = List Test × Tests fs

abbrev pub untested : (fs : List Field) → Tests fs
untested [] = tt
untested (f ∷ fs) = ([], untested fs)

abbrev pub file_header_tests : Fields FileHeader → Tests (layout FileHeader)
file_header_tests x = (date_tests (creation_date x), (text_tests CLIEOP03 (file_name x), ([], (identification_tests (creation_date x) (identification x), (duplicate_tests (duplicate_code x), ([], tt))))))

abbrev pub batch_header_tests : Option Group → ℕ → Fields BatchHeaderB → Tests (layout BatchHeaderB)
batch_header_tests g before x = (group_tests g (group x), (ordering_tests (ordering_account x), (sequence_tests before (sequence x), (text_tests EUR (currency x), ([], ([], tt))))))

abbrev pub ordering_party_tests : Group → Fields OrderingParty → Tests (layout OrderingParty)
ordering_party_tests g x = (name_code_tests g (name_code x), (desired_tests (desired_date x), ([], (test_code_tests (test_code x), ([], tt)))))

abbrev pub transaction_tests : Group → ℕ → Fields Transaction → Tests (layout Transaction)
transaction_tests g own x =
    (type_tests g (type_of (type x)), (amount_tests (amount x), (payer_tests g own (type_of (type x)) (payer x), (beneficiary_tests g own (type_of (type x)) (beneficiary x), ([], tt)))))

abbrev pub batch_trailer_tests : ℕ → ℕ → ℕ → Fields BatchTrailer → Tests (layout BatchTrailer)
batch_trailer_tests total accounts count x = (total_tests 1 max_total total (total_amount x), (equal_tests accounts (total_accounts x), (total_tests 1 max_items count (items x), ([], tt))))

-- the maxima of a batch, after the fields of a transaction: 'item 100,001, column 1; batch total above its maximum, column 10'
abbrev pub batch_maxima : ℕ → ℕ → ℕ → List Check
batch_maxima count total next = check (ltb count max_items) above_maximum 1 ∷ check (leb (total + next) max_total) above_maximum 10 ∷ []
