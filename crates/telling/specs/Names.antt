-- The names of fields (01, 'Record table'), and which of them stands at a column; the name of an input.
use Rattle.std.specs.Prelude.{ℕ, ◌+◌, List, [], ◌∷◌, length, eqb, Some, None}
use Prim.Native.String.{String}
use Rattle.machine.specs.Lists.{pick}
use Rattle.format.specs.Fields.{Field, width}
use Rattle.format.specs.Records.{layout, Code}
use Rattle.format.specs.declared.Kind.{Kind}
use Rattle.format.specs.declared.Kind.TheVariants.{FileHeader, BatchHeaderB, BatchHeaderC, FixedDescription, OrderingParty, Transaction, NamePayer, CityPayer, PaymentReference, Description, NameBeneficiary, CityBeneficiary, BatchTrailer, FileTrailer}
use Rattle.machine.specs.Texts.{characters}

abbrev pub batch_header_names : List String
batch_header_names = "group" ∷ "ordering account" ∷ "sequence" ∷ "currency" ∷ "batch identification" ∷ "filler" ∷ []

-- of each record's fields, in the order of the table
abbrev pub names : Kind → List String
names FileHeader = "creation date" ∷ "file name" ∷ "sender" ∷ "identification" ∷ "duplicate code" ∷ "filler" ∷ []
names BatchHeaderB = batch_header_names
names BatchHeaderC = batch_header_names
names FixedDescription = "text" ∷ "filler" ∷ []
names OrderingParty = "name code" ∷ "desired date" ∷ "name" ∷ "test code" ∷ "filler" ∷ []
names Transaction = "type" ∷ "amount" ∷ "payer" ∷ "beneficiary" ∷ "filler" ∷ []
names NamePayer = "name" ∷ "filler" ∷ []
names CityPayer = "city" ∷ []
names PaymentReference = "text" ∷ "filler" ∷ []
names Description = "text" ∷ "filler" ∷ []
names NameBeneficiary = "name" ∷ "filler" ∷ []
names CityBeneficiary = "city" ∷ []
names BatchTrailer = "total amount" ∷ "total accounts" ∷ "items" ∷ "filler" ∷ []
names FileTrailer = "filler" ∷ []

-- the name of the field that begins at a column, of fields of which the first begins at c; nothing where none begins
abbrev pub name_from : ℕ → List Field → List String → ℕ → List ℕ
name_from c [] ns column = []
name_from c (f ∷ fs) [] column = []
name_from c (f ∷ fs) (n ∷ ns) column = pick (eqb column c) (characters n) (name_from (c + width f) fs ns column)

abbrev pub name_in : Kind → ℕ → List ℕ
name_in k column = name_from 6 (layout k) (names k) column

-- of a record that is not in the table nothing but its code is known
abbrev pub name_after : Code → ℕ → List ℕ
name_after (Some k) column = name_in k column
name_after None column = []

-- THE NAME of the field that a refusal's column names
unfoldable pub field_name : Code → ℕ → List ℕ
field_name c column = pick (eqb column 1) (characters "code and variant") (name_after c column)

-- THE NAME of an input, which is empty for standard input
unfoldable pub input_name : List ℕ → List ℕ
input_name name = pick (eqb (length name) 0) (characters "standard input") name
