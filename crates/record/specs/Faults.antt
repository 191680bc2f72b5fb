-- A record's first fault: the field furthest left, in one field the lowest number, then the batch's maxima (01, 'Order').
use Rattle.std.specs.Prelude.{ℕ, take, drop, List, [], ◌∷◌, Bool, true, false, Result, Ok, Err}
use Rattle.std.proofs.Math.Option.{Option, none, some}
use Rattle.machine.specs.Lists.{pick}
use Rattle.format.specs.Records.{layout, Fields, unidentified, amount}
use Rattle.format.specs.Answers.{number_of}
use Rattle.format.specs.Cutting.{no_ending}
use Rattle.format.specs.declared.Refusal.{Refusal}
use Rattle.format.specs.Tests.{Tests, untested, Check, file_header_tests, batch_header_tests, ordering_party_tests, transaction_tests, batch_trailer_tests, batch_maxima}
use Rattle.format.specs.declared.Kind.{Kind}
use Rattle.format.specs.declared.Kind.TheVariants.{FileHeader, BatchHeaderB, BatchHeaderC, FixedDescription, OrderingParty, Transaction, NamePayer, CityPayer, PaymentReference, Description, NameBeneficiary, CityBeneficiary, BatchTrailer, FileTrailer}
use Rattle.format.specs.declared.Group.{Group}
use Rattle.format.specs.declared.Group.TheVariants.{Payments}
use Rattle.field.specs.Rows.{Row, row, part_at, field_answer, rows_at, check_rows, fields_at, first_or}
use Rattle.format.specs.Fields.{filled, filler}
use Rattle.record.specs.Kinds.{is_transaction}
use Rattle.record.specs.declared.Fault as code
use Rattle.record.specs.declared.Before.{Before}
use Rattle.record.specs.declared.Batch.{Batch}
use Rattle.record.specs.declared.Totals.{Totals}

-- what is wrong in a line: the answer's number and its column, 0 and 0 where nothing is
pub record Fault : Type 0 where
  pub number : ℕ
  pub column : ℕ

abbrev pub fault_at : ℕ → ℕ → Fault
fault_at column number = record { number = number; column = column }

abbrev pub no_fault : Fault
no_fault = fault_at 0 0

-- what functions hand out, in these words
abbrev pub fault_read : {A : Type 0} → Result A code.Fault → Fault
fault_read (Ok x) = no_fault
fault_read (Err f) = fault_at f.column (number_of f.refusal)

abbrev pub at_column : {A : Type 0} → ℕ → Result A Refusal → Result A code.Fault
at_column column (Ok x) = Ok x
at_column column (Err r) = Err (record { refusal = r; column = column })

unfoldable pub first_fault : List Row → Fault
first_fault rows = first_or fault_at rows no_fault

abbrev pub nothing_before : Before
nothing_before = record { sequence = 0; group = Payments; known = false; ending = no_ending }

-- after a batch header of a group and a number
abbrev pub after_header : Before → Group → ℕ → Before
after_header p g n = record { sequence = n; group = g; known = true; ending = p.ending }

abbrev pub empty_batch : Batch
empty_batch = record { account = 0; items = 0; total = 0; accounts = 0; fixed = 0 }

abbrev pub no_totals : Totals
no_totals = record { items = 0; amount = 0 }

-- the fields of a line
abbrev pub fields_of : (k : Kind) → List ℕ → Fields k
fields_of k line = fields_at 6 (layout k) line

-- the first fault of a line's fields, by tests of them
unfoldable pub fields_fault : (k : Kind) → (Fields k → Tests (layout k)) → List ℕ → Fault
fields_fault k tests line = first_fault (rows_at 6 (layout k) (tests (fields_of k line)) line [])

-- the group before, where it is known
abbrev pub known_group : Before → Option Group
known_group p = pick p.known (some p.group) none

abbrev pub tests_for : Before → Batch → (k : Kind) → Fields k → Tests (layout k)
tests_for p b FileHeader x = file_header_tests x
tests_for p b BatchHeaderB x = batch_header_tests (known_group p) p.sequence x
tests_for p b BatchHeaderC x = batch_header_tests (known_group p) p.sequence (unidentified x)
tests_for p b FixedDescription x = untested (layout FixedDescription)
tests_for p b OrderingParty x = ordering_party_tests p.group x
tests_for p b Transaction x = transaction_tests p.group b.account x
tests_for p b NamePayer x = untested (layout NamePayer)
tests_for p b CityPayer x = untested (layout CityPayer)
tests_for p b PaymentReference x = untested (layout PaymentReference)
tests_for p b Description x = untested (layout Description)
tests_for p b NameBeneficiary x = untested (layout NameBeneficiary)
tests_for p b CityBeneficiary x = untested (layout CityBeneficiary)
tests_for p b BatchTrailer x = batch_trailer_tests b.total b.accounts b.items x
tests_for p b FileTrailer x = untested (layout FileTrailer)

abbrev pub maxima_for : Batch → (k : Kind) → Fields k → List Check
maxima_for b FileHeader x = []
maxima_for b BatchHeaderB x = []
maxima_for b BatchHeaderC x = []
maxima_for b FixedDescription x = []
maxima_for b OrderingParty x = []
maxima_for b Transaction x = batch_maxima b.items b.total (amount x)
maxima_for b NamePayer x = []
maxima_for b CityPayer x = []
maxima_for b PaymentReference x = []
maxima_for b Description x = []
maxima_for b NameBeneficiary x = []
maxima_for b CityBeneficiary x = []
maxima_for b BatchTrailer x = []
maxima_for b FileTrailer x = []

-- the first fault of a line of a kind, in a batch so far
unfoldable pub fault_of : Before → Batch → (k : Kind) → List ℕ → Fault
fault_of p b k line =
    first_fault (rows_at 6 (layout k) (tests_for p b k (fields_of k line)) line (check_rows (maxima_for b k (fields_of k line))))

-- the same of all but a transaction, whose fields are read with their faults (`transactionOf`)
unfoldable pub other_fault : Before → Batch → Kind → List ℕ → Fault
other_fault p b k line = pick (is_transaction k) no_fault (fault_of p b k line)

-- the same for both variants of a batch header: C is identified
abbrev pub header_fault : Bool → Before → List ℕ → Fault
header_fault true p line = fields_fault BatchHeaderC (λ x. batch_header_tests (known_group p) p.sequence (unidentified x)) line
header_fault false p line = fields_fault BatchHeaderB (batch_header_tests (known_group p) p.sequence) line

-- the batch identification: filled for variant C, blank for B
abbrev pub batch_identification_answer : Bool → List ℕ → ℕ
batch_identification_answer identified line = pick identified (field_answer (filled 16) [] (part_at 25 16 line)) (field_answer (filler 16) [] (part_at 25 16 line))

-- a text of a width at column 6, and spaces: so many, after the first `at` characters of the line
unfoldable pub text_fault : ℕ → ℕ → ℕ → ℕ → List ℕ → Fault
text_fault w at rest column line = first_fault (row 6 (field_answer (filled w) [] (part_at 6 w line)) ∷ row column (field_answer (filler rest) [] (take rest (drop at line))) ∷ [])

unfoldable pub maxima_fault : Batch → ℕ → Fault
maxima_fault b next = first_fault (check_rows (batch_maxima b.items b.total next))
