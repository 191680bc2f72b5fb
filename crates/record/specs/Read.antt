-- The record that is handed out, and its text.
use Rattle.std.specs.Prelude.{Result, Ok, Err, ℕ, ◌+◌, List, [], ◌∷◌, Bool, true, false, Some, None}
use Rattle.machine.specs.Lists.{same, spaces, put_in}
use Rattle.format.specs.Fields.{Field, numeric, filled, optional, free, filler, width, Value, Values}
use Rattle.format.specs.Records.{layout, Fields, creation_date, sender, identification, duplicate_code, group, ordering_account, sequence, batch_identification, unidentified, name_code, desired_date, party_name, test_code, type, amount, payer, beneficiary, total_amount, total_accounts, items}
use Rattle.format.specs.Rules.{test_text, group_of, type_of, TypeRead}
use Rattle.format.specs.Answers.{number_of}
use Rattle.format.specs.Tests.{transaction_tests}
use Rattle.format.specs.declared.Kind.{Kind}
use Rattle.format.specs.declared.Kind.TheVariants.{FileHeader, BatchHeaderB, BatchHeaderC, FixedDescription, OrderingParty, Transaction, NamePayer, CityPayer, PaymentReference, Description, NameBeneficiary, CityBeneficiary, BatchTrailer, FileTrailer}
use Rattle.format.specs.declared.Group.{Group}
use Rattle.field.specs.Rows.{part_at, rows_at, first_or}
use Rattle.field.specs.Leaf.{digits_of}
use Rattle.record.specs.Faults.{fields_of}
use Rattle.record.specs.declared.read.Part.{Part}
use Rattle.record.specs.declared.TransactionFields.{TransactionFields}
use Rattle.record.specs.declared.Fault as code
use Rattle.record.specs.declared.Record.{Record}
use Rattle.record.specs.declared.Record.TheVariants as the

-- ## A transaction

abbrev pub transaction_for : Fields Transaction → TransactionFields
transaction_for x = record { kind = type_of (type x); amount = amount x; payer = payer x; beneficiary = beneficiary x }

-- the fields of a transaction, or what is wrong in them first, with no type and zeros
pub record TransactionRead : Type 0 where
  pub number : ℕ
  pub column : ℕ
  pub read : TransactionFields

-- 'With a refusal no fields are handed out: numbers are zero'
abbrev pub no_transaction : TransactionFields
no_transaction = record { kind = None; amount = 0; payer = 0; beneficiary = 0 }

abbrev pub refused_transaction : ℕ → ℕ → TransactionRead
refused_transaction column number = record { number = number; column = column; read = no_transaction }

-- what a function hands out, in these words
abbrev pub fields_read : Result TransactionFields code.Fault → TransactionRead
fields_read (Ok x) = record { number = 0; column = 0; read = x }
fields_read (Err f) = refused_transaction f.column (number_of f.refusal)

-- the fields of a transaction, and what is wrong in them first
unfoldable pub transaction_of : Group → ℕ → List ℕ → TransactionRead
transaction_of g own line =
    first_or refused_transaction (rows_at 6 (layout Transaction) (transaction_tests g own (fields_of Transaction line)) line [])
    (record { number = 0; column = 0; read = transaction_for (fields_of Transaction line) })

-- ## Every kind

-- a type that is none of the six is in no record
abbrev pub transaction_record : TypeRead → ℕ → ℕ → ℕ → Record
transaction_record (Some y) n p b = the.Transaction (record { kind = y; amount = n; payer = p; beneficiary = b })
transaction_record None n p b = the.Nothing

abbrev pub record_for : (k : Kind) → Fields k → Record
record_for FileHeader x = the.FileHeader (creation_date x) (digits_of (identification x)).value (duplicate_code x)
record_for BatchHeaderB x = the.BatchHeader (group_of (group x)) (ordering_account x) (sequence x) false
record_for BatchHeaderC x = the.BatchHeader (group_of (group (unidentified x))) (ordering_account (unidentified x)) (sequence (unidentified x)) true
record_for FixedDescription x = the.FixedDescription
record_for OrderingParty x = the.OrderingParty (name_code x) (desired_date x) (same (test_code x) (test_text true))
record_for Transaction x = transaction_record (type_of (type x)) (amount x) (payer x) (beneficiary x)
record_for NamePayer x = the.NamePayer
record_for CityPayer x = the.CityPayer
record_for PaymentReference x = the.PaymentReference
record_for Description x = the.Description
record_for NameBeneficiary x = the.NameBeneficiary
record_for CityBeneficiary x = the.CityBeneficiary
record_for BatchTrailer x = the.BatchTrailer (total_amount x) (total_accounts x) (items x)
record_for FileTrailer x = the.FileTrailer

-- 35 spaces, and a text at their front
abbrev pub no_text : List ℕ
no_text = spaces 35

unfoldable pub padded : List ℕ → List ℕ
padded t = put_in no_text 0 t

-- where the text of a record stands: after how many characters of its line, and its width
abbrev pub part_of : ℕ → ℕ → Part
part_of at width = record { at = at; width = width }

-- (that these are the texts of `layout` is proved: `text-stands`)
abbrev pub text_part : Kind → Part
text_part FileHeader = part_of 19 5
text_part BatchHeaderB = part_of 0 0
text_part BatchHeaderC = part_of 24 16
text_part FixedDescription = part_of 5 32
text_part OrderingParty = part_of 12 35
text_part Transaction = part_of 0 0
text_part NamePayer = part_of 5 35
text_part CityPayer = part_of 0 0
text_part PaymentReference = part_of 5 16
text_part Description = part_of 5 32
text_part NameBeneficiary = part_of 5 35
text_part CityBeneficiary = part_of 0 0
text_part BatchTrailer = part_of 0 0
text_part FileTrailer = part_of 0 0

abbrev pub text_for : (k : Kind) → Fields k → List ℕ
text_for FileHeader x = padded (sender x)
text_for BatchHeaderB x = no_text
text_for BatchHeaderC x = padded (batch_identification x)
text_for FixedDescription x = padded x.0
text_for OrderingParty x = padded (party_name x)
text_for Transaction x = no_text
text_for NamePayer x = padded x.0
text_for CityPayer x = no_text
text_for PaymentReference x = padded x.0
text_for Description x = padded x.0
text_for NameBeneficiary x = padded x.0
text_for CityBeneficiary x = no_text
text_for BatchTrailer x = no_text
text_for FileTrailer x = no_text

-- ## The fields of any line, where a numeric field that is not digits counts as 0. (Of an accepted line they are its fields.)

abbrev pub value_in : (f : Field) → List ℕ → Value f
value_in (numeric w) l = (digits_of l).value
value_in (filled w) l = l
value_in (optional w) l = l
value_in (free w) l = l
value_in (filler w) l = tt

abbrev pub values_at : ℕ → (fs : List Field) → List ℕ → Values fs
values_at c [] line = tt
values_at c (f ∷ fs) line = (value_in f (part_at c (width f) line), values_at (c + width f) fs line)

abbrev pub values_of : (k : Kind) → List ℕ → Fields k
values_of k line = values_at 6 (layout k) line

-- both variants of a batch header: C is identified
abbrev pub header_for : Bool → List ℕ → Record
header_for true line = record_for BatchHeaderC (values_of BatchHeaderC line)
header_for false line = record_for BatchHeaderB (values_of BatchHeaderB line)
