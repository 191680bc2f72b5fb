-- A line by the code and variant that it begins with, and the look-up of these in the record table. (No two codes are the same, so the order is of no matter: the records of a payment first, then those of debits, of a batch's frame and of a file's.)
use Rattle.std.specs.Prelude.{ℕ, List, Bool, true, false, ◌||◌, take, Some, None}
use Rattle.machine.specs.Lists.{pick, same}
use Rattle.format.specs.Records.{code, Code}
use Rattle.format.specs.declared.Kind.{Kind}
use Rattle.format.specs.declared.Kind.TheVariants.{FileHeader, BatchHeaderB, BatchHeaderC, FixedDescription, OrderingParty, Transaction, NamePayer, CityPayer, PaymentReference, Description, NameBeneficiary, CityBeneficiary, BatchTrailer, FileTrailer}

abbrev pub begins : Kind → List ℕ → Bool
begins k line = same (take 5 line) (code k)

unfoldable pub is_header : List ℕ → Bool
is_header line = begins BatchHeaderB line || begins BatchHeaderC line

unfoldable pub is_name : List ℕ → Bool
is_name line = begins NameBeneficiary line || begins NamePayer line

unfoldable pub is_city : List ℕ → Bool
is_city line = begins CityPayer line || begins CityBeneficiary line

abbrev pub is_transaction : Kind → Bool
is_transaction FileHeader = false
is_transaction BatchHeaderB = false
is_transaction BatchHeaderC = false
is_transaction FixedDescription = false
is_transaction OrderingParty = false
is_transaction Transaction = true
is_transaction NamePayer = false
is_transaction CityPayer = false
is_transaction PaymentReference = false
is_transaction Description = false
is_transaction NameBeneficiary = false
is_transaction CityBeneficiary = false
is_transaction BatchTrailer = false
is_transaction FileTrailer = false

abbrev pub is_batch_trailer : Kind → Bool
is_batch_trailer FileHeader = false
is_batch_trailer BatchHeaderB = false
is_batch_trailer BatchHeaderC = false
is_batch_trailer FixedDescription = false
is_batch_trailer OrderingParty = false
is_batch_trailer Transaction = false
is_batch_trailer NamePayer = false
is_batch_trailer CityPayer = false
is_batch_trailer PaymentReference = false
is_batch_trailer Description = false
is_batch_trailer NameBeneficiary = false
is_batch_trailer CityBeneficiary = false
is_batch_trailer BatchTrailer = true
is_batch_trailer FileTrailer = false

unfoldable pub file_code : List ℕ → Code
file_code c =
    pick (same c (code FileHeader)) (Some FileHeader)
    (pick (same c (code FileTrailer)) (Some FileTrailer)
    None)

unfoldable pub batch_code : List ℕ → Code
batch_code c =
    pick (same c (code BatchHeaderB)) (Some BatchHeaderB)
    (pick (same c (code BatchHeaderC)) (Some BatchHeaderC)
    (pick (same c (code FixedDescription)) (Some FixedDescription)
    (pick (same c (code OrderingParty)) (Some OrderingParty)
    (pick (same c (code BatchTrailer)) (Some BatchTrailer)
    (file_code c)))))

unfoldable pub debit_code : List ℕ → Code
debit_code c =
    pick (same c (code NamePayer)) (Some NamePayer)
    (pick (same c (code CityPayer)) (Some CityPayer)
    (batch_code c))

unfoldable pub code_of : List ℕ → Code
code_of c =
    pick (same c (code Transaction)) (Some Transaction)
    (pick (same c (code PaymentReference)) (Some PaymentReference)
    (pick (same c (code Description)) (Some Description)
    (pick (same c (code NameBeneficiary)) (Some NameBeneficiary)
    (pick (same c (code CityBeneficiary)) (Some CityBeneficiary)
    (debit_code c)))))
