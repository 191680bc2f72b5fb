-- What holds of each kind of record holds of every one: a table of fourteen facts in one line. Assumes nothing.
use mathlib.Core.Path.{◌≡◌}
use mathlib.Core.List.{List, [], ◌∷◌}
use mathlib.Core.Bool.{Bool, true, false, ◌||◌}
use Rattle.machine.specs.Lists.{same}
use Rattle.machine.proofs.Base.{never}
use Rattle.format.specs.Records.{code}
use Rattle.format.specs.declared.Kind.{Kind}
use Rattle.format.specs.declared.Kind.TheVariants.{FileHeader, BatchHeaderB, BatchHeaderC, FixedDescription, OrderingParty, Transaction, NamePayer, CityPayer, PaymentReference, Description, NameBeneficiary, CityBeneficiary, BatchTrailer, FileTrailer}

abbrev pub kinds : List Kind
kinds =
    FileHeader ∷ BatchHeaderB ∷ BatchHeaderC ∷ FixedDescription ∷ OrderingParty ∷ Transaction ∷ NamePayer ∷ CityPayer ∷ PaymentReference ∷ Description ∷ NameBeneficiary ∷ CityBeneficiary ∷ BatchTrailer ∷ FileTrailer ∷ []

pub every : (P : Kind → Type 0) → P FileHeader → P BatchHeaderB → P BatchHeaderC → P FixedDescription → P OrderingParty → P Transaction → P NamePayer → P CityPayer → P PaymentReference → P Description → P NameBeneficiary → P CityBeneficiary → P BatchTrailer → P FileTrailer → (k : Kind) → P k
every P a b c d e f g h i j l m n o FileHeader = a
every P a b c d e f g h i j l m n o BatchHeaderB = b
every P a b c d e f g h i j l m n o BatchHeaderC = c
every P a b c d e f g h i j l m n o FixedDescription = d
every P a b c d e f g h i j l m n o OrderingParty = e
every P a b c d e f g h i j l m n o Transaction = f
every P a b c d e f g h i j l m n o NamePayer = g
every P a b c d e f g h i j l m n o CityPayer = h
every P a b c d e f g h i j l m n o PaymentReference = i
every P a b c d e f g h i j l m n o Description = j
every P a b c d e f g h i j l m n o NameBeneficiary = l
every P a b c d e f g h i j l m n o CityBeneficiary = m
every P a b c d e f g h i j l m n o BatchTrailer = n
every P a b c d e f g h i j l m n o FileTrailer = o

-- one of some kinds, by their codes
abbrev pub one_of : List Kind → Kind → Bool
one_of [] k = false
one_of (m ∷ ms) k = same (code m) (code k) || one_of ms k

-- a batch header is one of two kinds
pub data Header : Kind → Type 0 where
  variant_b : Header BatchHeaderB
  variant_c : Header BatchHeaderC

abbrev pub headers : List Kind
headers = BatchHeaderB ∷ BatchHeaderC ∷ []

pub header_of_lem : (k : Kind) → one_of headers k ≡ true → Header k
unfolding same
header_of_lem = every (λ k. one_of headers k ≡ true → Header k) never (λ e. variant_b) (λ e. variant_c) never never never never never never never never never never never
