-- THE LANGUAGE: files, batches and items, their rules, and a file's lines (01, 'Order of records' and 'Field rules'). No reader, no state.
use Rattle.std.specs.Prelude.{◌≡◌, Bool, true, false, List, [], ◌∷◌, ◌++◌, ℕ, zero, suc, ◌+◌, ◌%◌, ◌≤◌, ◌<◌, length, T}
use Rattle.std.proofs.Math.Option.{Option, none, some}
use Rattle.format.specs.Fields.{filled, optional, free, write_fields, Fit}
use Rattle.format.specs.Records.{layout, code, Fields}
use Rattle.format.specs.Rules.{max_amount, max_total, max_items, max_account, max_sequence, max_fixed, most_descriptions, CLIEOP03, EUR, is_test_code, is_date, is_desired_date, is_identification, is_of_day, is_ordering_account, is_account, is_own_if, is_seven_if, same_group, group_text, is_name_code_in, type_of, is_type_in, is_unchecked_type}
use Rattle.format.specs.declared.Kind.{Kind}
use Rattle.format.specs.declared.Kind.TheVariants.{FileHeader, BatchHeaderB, BatchHeaderC, FixedDescription, OrderingParty, Transaction, NamePayer, CityPayer, PaymentReference, Description, NameBeneficiary, CityBeneficiary, BatchTrailer, FileTrailer}
use Rattle.format.specs.declared.Group.{Group}
use Rattle.format.specs.declared.Group.TheVariants.{Payments, Debits}

-- ## What a file holds

pub record Name : Type 0 where
  pub text : List ℕ
  pub city : Option (List ℕ)

pub record Item : Type 0 where
  pub type : List ℕ
  pub amount : ℕ
  pub payer : ℕ
  pub beneficiary : ℕ
  pub reference : Option (List ℕ)
  pub descriptions : List (List ℕ)
  pub name : Option Name

pub record Batch : Type 0 where
  pub account : ℕ
  pub sequence : ℕ
  pub identification : Option (List ℕ)
  pub fixed : List (List ℕ)
  pub name_code : ℕ
  pub desired : ℕ
  pub party : List ℕ
  pub test_code : List ℕ
  pub items : List Item

pub record File : Type 0 where
  pub created : ℕ
  pub sender : List ℕ
  pub identification : List ℕ
  pub duplicate : ℕ
  pub group : Group
  pub batches : List Batch

-- what a batch's trailer says of its items: 'total of the amounts; sum of all payers and beneficiaries, rightmost ten digits; number of 0100 records'
abbrev pub total_of : List Item → ℕ
total_of [] = 0
total_of (i ∷ is) = i.amount + total_of is

abbrev pub accounts_of : List Item → ℕ
accounts_of [] = 0
accounts_of (i ∷ is) = i.payer + i.beneficiary + accounts_of is

abbrev pub ten_digits : ℕ → ℕ
ten_digits n = n % 10000000000

-- ## Its records, each before those that follow

abbrev pub Rec : Type 0
Rec = (k : Kind) × Fields k

abbrev pub file_header_rec : ℕ → List ℕ → List ℕ → ℕ → Rec
file_header_rec created sender identification duplicate = (FileHeader, (created, (CLIEOP03, (sender, (identification, (duplicate, (tt, tt)))))))

-- 'Batch identification is blank for variant B, filled for C'
abbrev pub batch_header_rec : Group → ℕ → ℕ → Option (List ℕ) → Rec
batch_header_rec g account sequence none = (BatchHeaderB, (group_text g, (account, (sequence, (EUR, (tt, (tt, tt)))))))
batch_header_rec g account sequence (some t) = (BatchHeaderC, (group_text g, (account, (sequence, (EUR, (t, (tt, tt)))))))

abbrev pub fixed_recs : List (List ℕ) → List Rec → List Rec
fixed_recs [] k = k
fixed_recs (t ∷ ts) k = (FixedDescription, (t, (tt, tt))) ∷ fixed_recs ts k

abbrev pub ordering_party_rec : ℕ → ℕ → List ℕ → List ℕ → Rec
ordering_party_rec name_code desired name test_code = (OrderingParty, (name_code, (desired, (name, (test_code, (tt, tt))))))

abbrev pub transaction_rec : Item → Rec
transaction_rec i = (Transaction, (i.type, (i.amount, (i.payer, (i.beneficiary, (tt, tt))))))

abbrev pub reference_recs : Option (List ℕ) → List Rec → List Rec
reference_recs none k = k
reference_recs (some t) k = (PaymentReference, (t, (tt, tt))) ∷ k

abbrev pub description_recs : List (List ℕ) → List Rec → List Rec
description_recs [] k = k
description_recs (t ∷ ts) k = (Description, (t, (tt, tt))) ∷ description_recs ts k

-- 'A city record, at most one, only directly follows the name'
abbrev pub city_recs : Group → Option (List ℕ) → List Rec → List Rec
city_recs g none k = k
city_recs Payments (some t) k = (CityBeneficiary, (t, tt)) ∷ k
city_recs Debits (some t) k = (CityPayer, (t, tt)) ∷ k

abbrev pub name_recs : Group → Option Name → List Rec → List Rec
name_recs g none k = k
name_recs Payments (some n) k = (NameBeneficiary, (n.text, (tt, tt))) ∷ city_recs Payments n.city k
name_recs Debits (some n) k = (NamePayer, (n.text, (tt, tt))) ∷ city_recs Debits n.city k

-- 'group 00 (payments): 0100, then 0150 at most once, 0160s, 0170, 0173'; 'group 10 (debits): 0100, then 0110, 0113, 0150 at most once, 0160s'
abbrev pub item_recs : Group → Item → List Rec → List Rec
item_recs Payments i k = reference_recs i.reference (description_recs i.descriptions (name_recs Payments i.name k))
item_recs Debits i k = name_recs Debits i.name (reference_recs i.reference (description_recs i.descriptions k))

abbrev pub items_recs : Group → List Item → List Rec → List Rec
items_recs g [] k = k
items_recs g (i ∷ is) k = transaction_rec i ∷ item_recs g i (items_recs g is k)

abbrev pub batch_trailer_rec : ℕ → ℕ → ℕ → Rec
batch_trailer_rec total accounts items = (BatchTrailer, (total, (accounts, (items, (tt, tt)))))

-- 'Batch: batch header, 0 to 4 fixed descriptions, ordering party, 1 to 100,000 items, batch trailer'
abbrev pub batches_recs : Group → List Batch → List Rec → List Rec
batches_recs g [] k = k
batches_recs g (b ∷ bs) k =
    batch_header_rec g b.account b.sequence b.identification
    ∷ fixed_recs b.fixed
    (ordering_party_rec b.name_code b.desired b.party b.test_code
    ∷ items_recs g b.items (batch_trailer_rec (total_of b.items) (ten_digits (accounts_of b.items)) (length b.items) ∷ batches_recs g bs k))

abbrev pub file_trailer_recs : List Rec
file_trailer_recs = (FileTrailer, (tt, tt)) ∷ []

-- 'File: file header, one or more batches, file trailer, nothing more'
abbrev pub file_recs : File → List Rec
file_recs f = file_header_rec f.created f.sender f.identification f.duplicate ∷ batches_recs f.group f.batches file_trailer_recs

-- ## The rules of an item, a batch and a file

abbrev pub In : ℕ → ℕ → ℕ → Type 0
In low high n = (low ≤ n) × (n ≤ high)

-- the one that need not be the ordering account: 'Beneficiary in group 00, payer in group 10' (02)
abbrev pub other_party : Group → ℕ → ℕ → ℕ
other_party Payments payer beneficiary = beneficiary
other_party Debits payer beneficiary = payer

pub record TransactionOk (g : Group) (account : ℕ) (type : List ℕ) (amount payer beneficiary : ℕ) : Type 0 where
  pub type_fits : Fit (filled 4) type
  pub type_in : T (is_type_in g (type_of type))
  pub amount_in : In 1 max_amount amount
  pub payer_in : In 1 max_account payer
  pub payer_ok : T (is_account payer)
  pub beneficiary_in : In 1 max_account beneficiary
  pub beneficiary_ok : T (is_account beneficiary)
  pub own_payer : T (is_own_if (same_group Payments g) account payer)
  pub own_beneficiary : T (is_own_if (same_group Debits g) account beneficiary)
  pub other_ok : T (is_seven_if (is_unchecked_type (type_of type)) (other_party g payer beneficiary))

abbrev pub ReferenceOk : Option (List ℕ) → Type 0
ReferenceOk none = Unit {0}
ReferenceOk (some t) = Fit (filled 16) t

abbrev pub DescriptionsOk : List (List ℕ) → Type 0
DescriptionsOk [] = Unit {0}
DescriptionsOk (t ∷ ts) = Fit (filled 32) t × DescriptionsOk ts

abbrev pub CityOk : Option (List ℕ) → Type 0
CityOk none = Unit {0}
CityOk (some t) = Fit (free 45) t

-- 'the name record must be there'; for the others 'it must not be'
abbrev pub NameOk : Bool → Option Name → Type 0
NameOk true none = ⊥
NameOk true (some n) = Fit (filled 35) n.text × CityOk n.city
NameOk false none = Unit {0}
NameOk false (some n) = ⊥

abbrev pub is_some : {A : Type 0} → Option A → Bool
is_some none = false
is_some (some a) = true

pub record ItemOk (g : Group) (account : ℕ) (i : Item) : Type 0 where
  pub transaction_ok : TransactionOk g account i.type i.amount i.payer i.beneficiary
  pub reference_ok : ReferenceOk i.reference
  pub descriptions_ok : DescriptionsOk i.descriptions
  pub room : length i.descriptions ≤ most_descriptions (is_some i.reference)
  pub name_ok : NameOk (is_unchecked_type (type_of i.type)) i.name

abbrev pub ItemsOk : Group → ℕ → List Item → Type 0
ItemsOk g account [] = Unit {0}
ItemsOk g account (i ∷ is) = ItemOk g account i × ItemsOk g account is

-- what a batch knows of those before it: their last number, 0 for none
pub record Before : Type 0 where
  pub sequence : ℕ

abbrev pub none_before : Before
none_before = record { sequence = 0 }

abbrev pub after_that : Before → ℕ → Before
after_that p sequence = record { sequence = sequence }

-- 'each batch after the first has the number before it plus one'
abbrev pub Follows : ℕ → ℕ → Type 0
Follows zero n = Unit {0}
Follows (suc p) n = n ≡ suc (suc p)

abbrev pub IdentificationOk : Option (List ℕ) → Type 0
IdentificationOk none = Unit {0}
IdentificationOk (some t) = Fit (filled 16) t

pub record BatchHeaderOk (p : Before) (account sequence : ℕ) (identification : Option (List ℕ)) : Type 0 where
  pub account_in : In 1 max_account account
  pub account_ok : T (is_ordering_account account)
  pub sequence_in : In 1 max_sequence sequence
  pub sequence_follows : Follows p.sequence sequence
  pub identification_ok : IdentificationOk identification

pub record OrderingPartyOk (g : Group) (name_code desired : ℕ) (name test_code : List ℕ) : Type 0 where
  pub code_in : In 1 2 name_code
  pub code_ok : T (is_name_code_in g name_code)
  pub desired_small : desired < 1000000
  pub desired_ok : T (is_desired_date desired)
  pub name_fits : Fit (optional 35) name
  pub test_fits : Fit (filled 1) test_code
  pub test_ok : T (is_test_code test_code)

pub record BatchOk (g : Group) (p : Before) (b : Batch) : Type 0 where
  pub header_ok : BatchHeaderOk p b.account b.sequence b.identification
  pub fixed_ok : DescriptionsOk b.fixed
  pub fixed_max : length b.fixed ≤ max_fixed
  pub party_ok : OrderingPartyOk g b.name_code b.desired b.party b.test_code
  pub items_ok : ItemsOk g b.account b.items
  pub items_in : In 1 max_items (length b.items)
  pub total_max : total_of b.items ≤ max_total

abbrev pub BatchesOk : Group → Before → List Batch → Type 0
BatchesOk g p [] = Unit {0}
BatchesOk g p (b ∷ bs) = BatchOk g p b × BatchesOk g (after_that p b.sequence) bs

pub record FileHeaderOk (created : ℕ) (sender identification : List ℕ) (duplicate : ℕ) : Type 0 where
  pub date_small : created < 1000000
  pub date_ok : T (is_date created)
  pub sender_fits : Fit (filled 5) sender
  pub identification_fits : Fit (filled 4) identification
  pub identification_ok : T (is_identification identification)
  pub identification_day : T (is_of_day created identification)
  pub duplicate_in : In 1 2 duplicate

pub record Valid (f : File) : Type 0 where
  pub header_ok : FileHeaderOk f.created f.sender f.identification f.duplicate
  pub some_batch : 1 ≤ length f.batches
  pub batches_ok : BatchesOk f.group none_before f.batches

-- ## Its lines: 'each line is now 50 characters and then either 13, 10 or 10 alone', the same in all of them

pub data Ending : Type 0 where
  crlf lf : Ending

abbrev pub end_bytes : Ending → List ℕ
end_bytes crlf = 13 ∷ 10 ∷ []
end_bytes lf = 10 ∷ []

abbrev pub line_of : List ℕ → Rec → List ℕ
line_of z r = code r.0 ++ (write_fields (layout r.0) r.1 ++ z)

unfoldable pub lines_of : List ℕ → List Rec → List ℕ
lines_of z [] = []
lines_of z (r ∷ rs) = line_of z r ++ lines_of z rs

-- bytes that are a file's
unfoldable pub Reads : List ℕ → File → Type 0
Reads b f = Valid f × ((z : Ending) × (b ≡ lines_of (end_bytes z) (file_recs f)))
