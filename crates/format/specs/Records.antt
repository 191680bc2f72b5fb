-- The record table (01, 'Record table'): each kind's code and variant, and its fields after column 5 in their order.
use Rattle.std.specs.Prelude.{List, [], ◌∷◌, ℕ, Option}
use Rattle.format.specs.Fields.{Field, numeric, filled, optional, free, filler, Values}
use Rattle.format.specs.declared.Kind.{Kind}
use Rattle.format.specs.declared.Kind.TheVariants.{FileHeader, BatchHeaderB, BatchHeaderC, FixedDescription, OrderingParty, Transaction, NamePayer, CityPayer, PaymentReference, Description, NameBeneficiary, CityBeneficiary, BatchTrailer, FileTrailer}

abbrev pub layout : Kind → List Field
-- creation date, file name, sender, identification, duplicate code
layout FileHeader = numeric 6 ∷ filled 8 ∷ filled 5 ∷ filled 4 ∷ numeric 1 ∷ filler 21 ∷ []
-- group, ordering account, sequence, currency, batch identification (blank for B, filled for C)
layout BatchHeaderB = filled 2 ∷ numeric 10 ∷ numeric 4 ∷ filled 3 ∷ filler 16 ∷ filler 10 ∷ []
layout BatchHeaderC = filled 2 ∷ numeric 10 ∷ numeric 4 ∷ filled 3 ∷ filled 16 ∷ filler 10 ∷ []
layout FixedDescription = filled 32 ∷ filler 13 ∷ []
-- name code, desired date, name, test code
layout OrderingParty = numeric 1 ∷ numeric 6 ∷ optional 35 ∷ filled 1 ∷ filler 2 ∷ []
-- type, amount, payer, beneficiary
layout Transaction = filled 4 ∷ numeric 12 ∷ numeric 10 ∷ numeric 10 ∷ filler 9 ∷ []
layout NamePayer = filled 35 ∷ filler 10 ∷ []
layout CityPayer = free 45 ∷ []
layout PaymentReference = filled 16 ∷ filler 29 ∷ []
layout Description = filled 32 ∷ filler 13 ∷ []
layout NameBeneficiary = filled 35 ∷ filler 10 ∷ []
layout CityBeneficiary = free 45 ∷ []
-- total amount, total accounts, items
layout BatchTrailer = numeric 18 ∷ numeric 10 ∷ numeric 7 ∷ filler 10 ∷ []
layout FileTrailer = filler 45 ∷ []

abbrev pub code : Kind → List ℕ
code FileHeader = 48 ∷ 48 ∷ 48 ∷ 49 ∷ 65 ∷ []
code BatchHeaderB = 48 ∷ 48 ∷ 49 ∷ 48 ∷ 66 ∷ []
code BatchHeaderC = 48 ∷ 48 ∷ 49 ∷ 48 ∷ 67 ∷ []
code FixedDescription = 48 ∷ 48 ∷ 50 ∷ 48 ∷ 65 ∷ []
code OrderingParty = 48 ∷ 48 ∷ 51 ∷ 48 ∷ 66 ∷ []
code Transaction = 48 ∷ 49 ∷ 48 ∷ 48 ∷ 65 ∷ []
code NamePayer = 48 ∷ 49 ∷ 49 ∷ 48 ∷ 66 ∷ []
code CityPayer = 48 ∷ 49 ∷ 49 ∷ 51 ∷ 66 ∷ []
code PaymentReference = 48 ∷ 49 ∷ 53 ∷ 48 ∷ 65 ∷ []
code Description = 48 ∷ 49 ∷ 54 ∷ 48 ∷ 65 ∷ []
code NameBeneficiary = 48 ∷ 49 ∷ 55 ∷ 48 ∷ 66 ∷ []
code CityBeneficiary = 48 ∷ 49 ∷ 55 ∷ 51 ∷ 66 ∷ []
code BatchTrailer = 57 ∷ 57 ∷ 57 ∷ 48 ∷ 65 ∷ []
code FileTrailer = 57 ∷ 57 ∷ 57 ∷ 57 ∷ 65 ∷ []

abbrev pub Fields : Kind → Type 0
Fields k = Values (layout k)

-- ## The fields by name

abbrev pub creation_date : Fields FileHeader → ℕ
creation_date x = x.0

abbrev pub file_name : Fields FileHeader → List ℕ
file_name x = x.1.0

abbrev pub sender : Fields FileHeader → List ℕ
sender x = x.1.1.0

abbrev pub identification : Fields FileHeader → List ℕ
identification x = x.1.1.1.0

abbrev pub duplicate_code : Fields FileHeader → ℕ
duplicate_code x = x.1.1.1.1.0

-- (of both variants: their first four fields are the same)
abbrev pub group : Fields BatchHeaderB → List ℕ
group x = x.0

abbrev pub ordering_account : Fields BatchHeaderB → ℕ
ordering_account x = x.1.0

abbrev pub sequence : Fields BatchHeaderB → ℕ
sequence x = x.1.1.0

abbrev pub currency : Fields BatchHeaderB → List ℕ
currency x = x.1.1.1.0

abbrev pub batch_identification : Fields BatchHeaderC → List ℕ
batch_identification x = x.1.1.1.1.0

-- a header of variant C as one of variant B
abbrev pub unidentified : Fields BatchHeaderC → Fields BatchHeaderB
unidentified x = (x.0, (x.1.0, (x.1.1.0, (x.1.1.1.0, (tt, (tt, tt))))))

abbrev pub name_code : Fields OrderingParty → ℕ
name_code x = x.0

abbrev pub desired_date : Fields OrderingParty → ℕ
desired_date x = x.1.0

abbrev pub party_name : Fields OrderingParty → List ℕ
party_name x = x.1.1.0

abbrev pub test_code : Fields OrderingParty → List ℕ
test_code x = x.1.1.1.0

abbrev pub type : Fields Transaction → List ℕ
type x = x.0

abbrev pub amount : Fields Transaction → ℕ
amount x = x.1.0

abbrev pub payer : Fields Transaction → ℕ
payer x = x.1.1.0

abbrev pub beneficiary : Fields Transaction → ℕ
beneficiary x = x.1.1.1.0

abbrev pub total_amount : Fields BatchTrailer → ℕ
total_amount x = x.0

abbrev pub total_accounts : Fields BatchTrailer → ℕ
total_accounts x = x.1.0

abbrev pub items : Fields BatchTrailer → ℕ
items x = x.1.1.0

-- what the first five characters of a line stand for: a kind, or none
abbrev pub Code : Type 0
Code = Option Kind
