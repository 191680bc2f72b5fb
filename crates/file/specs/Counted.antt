-- EACH ITEM COUNTED IN ONE TRAILER, of a file's records in their order: a batch trailer counts the transactions since the trailer before it.
use Rattle.std.specs.Prelude.{◌≡◌, List, [], ◌∷◌, ℕ, ◌+◌, length}
use Rattle.format.specs.Records.{Fields, amount, payer, beneficiary, total_amount, total_accounts, items}
use Rattle.format.specs.Language.{Rec, ten_digits}
use Rattle.format.specs.declared.Kind.TheVariants.{FileHeader, BatchHeaderB, BatchHeaderC, FixedDescription, OrderingParty, Transaction, NamePayer, CityPayer, PaymentReference, Description, NameBeneficiary, CityBeneficiary, BatchTrailer, FileTrailer}

abbrev pub sum_of : (Fields Transaction → ℕ) → List (Fields Transaction) → ℕ
sum_of f [] = 0
sum_of f (x ∷ xs) = f x + sum_of f xs

-- 'total of the amounts; sum of all payers and beneficiaries, rightmost ten digits; number of 0100 records'
pub record Counts (t : Fields BatchTrailer) (xs : List (Fields Transaction)) : Type 0 where
  pub total : total_amount t ≡ sum_of amount xs
  pub accounts : total_accounts t ≡ ten_digits (sum_of (λ x. payer x + beneficiary x) xs)
  pub number : items t ≡ length xs

-- records after transactions that no trailer has counted yet: the next trailer counts these and no others, and at the end none is left
abbrev pub CountedAfter : List (Fields Transaction) → List Rec → Type 0
CountedAfter xs [] = xs ≡ []
CountedAfter xs ((Transaction, x) ∷ rs) = CountedAfter (x ∷ xs) rs
CountedAfter xs ((BatchTrailer, t) ∷ rs) = Counts t xs × CountedAfter [] rs
CountedAfter xs ((FileHeader, x) ∷ rs) = CountedAfter xs rs
CountedAfter xs ((BatchHeaderB, x) ∷ rs) = CountedAfter xs rs
CountedAfter xs ((BatchHeaderC, x) ∷ rs) = CountedAfter xs rs
CountedAfter xs ((FixedDescription, x) ∷ rs) = CountedAfter xs rs
CountedAfter xs ((OrderingParty, x) ∷ rs) = CountedAfter xs rs
CountedAfter xs ((NamePayer, x) ∷ rs) = CountedAfter xs rs
CountedAfter xs ((CityPayer, x) ∷ rs) = CountedAfter xs rs
CountedAfter xs ((PaymentReference, x) ∷ rs) = CountedAfter xs rs
CountedAfter xs ((Description, x) ∷ rs) = CountedAfter xs rs
CountedAfter xs ((NameBeneficiary, x) ∷ rs) = CountedAfter xs rs
CountedAfter xs ((CityBeneficiary, x) ∷ rs) = CountedAfter xs rs
CountedAfter xs ((FileTrailer, x) ∷ rs) = CountedAfter xs rs

abbrev pub EachCounted : List Rec → Type 0
EachCounted rs = CountedAfter [] rs
