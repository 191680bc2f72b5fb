-- A PROPERTY OF RECORDS THAT TEXTS DO NOT TOUCH holds before them as after them: of the records of an item after its transaction, and of a batch before its items. Assumes nothing.
use mathlib.Core.List.{List, [], ◌∷◌}
use mathlib.Core.Bool.{Bool, not, ◌||◌}
use mathlib.Core.Option.{Option, none, some}
use Prim.Native.Nat.{ℕ}
use lib.Dec.{T}
use Rattle.format.specs.Records.{Fields}
use Rattle.format.specs.Language.{Name, Item, Batch, Rec, batch_header_rec, fixed_recs, ordering_party_rec, reference_recs, description_recs, city_recs, name_recs, item_recs}
use Rattle.format.specs.declared.Kind.{Kind}
use Rattle.format.specs.declared.Kind.TheVariants.{BatchHeaderB, BatchHeaderC, FixedDescription, OrderingParty, NamePayer, CityPayer, PaymentReference, Description, NameBeneficiary, CityBeneficiary}
use Rattle.format.specs.declared.Group.{Group}
use Rattle.format.specs.declared.Group.TheVariants.{Payments, Debits}
use Rattle.record.specs.Kinds.{is_transaction, is_batch_trailer}

-- neither a transaction nor the trailer that counts it
abbrev pub is_text : Kind → Bool
is_text k = not (is_transaction k || is_batch_trailer k)

module _ (P : List Rec → Type 0) (pass : (k : Kind) → T (is_text k) → (x : Fields k) (rs : List Rec) → P rs → P ((k, x) ∷ rs)) where
  fixed_passed : (ts : List (List ℕ)) (k : List Rec) → P k → P (fixed_recs ts k)
  fixed_passed [] k c = c
  fixed_passed (t ∷ ts) k c = pass FixedDescription tt _ _ (fixed_passed ts k c)

  reference_passed : (t : Option (List ℕ)) (k : List Rec) → P k → P (reference_recs t k)
  reference_passed none k c = c
  reference_passed (some t) k c = pass PaymentReference tt _ _ c

  descriptions_passed : (ts : List (List ℕ)) (k : List Rec) → P k → P (description_recs ts k)
  descriptions_passed [] k c = c
  descriptions_passed (t ∷ ts) k c = pass Description tt _ _ (descriptions_passed ts k c)

  city_passed : (g : Group) (t : Option (List ℕ)) (k : List Rec) → P k → P (city_recs g t k)
  city_passed g none k c = c
  city_passed Payments (some t) k c = pass CityBeneficiary tt _ _ c
  city_passed Debits (some t) k c = pass CityPayer tt _ _ c

  name_passed : (g : Group) (n : Option Name) (k : List Rec) → P k → P (name_recs g n k)
  name_passed g none k c = c
  name_passed Payments (some n) k c = pass NameBeneficiary tt _ _ (city_passed Payments n.city k c)
  name_passed Debits (some n) k c = pass NamePayer tt _ _ (city_passed Debits n.city k c)

  pub item_passed : (g : Group) (i : Item) (k : List Rec) → P k → P (item_recs g i k)
  item_passed Payments i k c = reference_passed i.reference _ (descriptions_passed i.descriptions _ (name_passed Payments i.name k c))
  item_passed Debits i k c = name_passed Debits i.name _ (reference_passed i.reference _ (descriptions_passed i.descriptions k c))

  -- a batch's header, fixed descriptions and ordering party
  pub head_passed : (g : Group) (b : Batch) (k : List Rec) → P k
      → P (batch_header_rec g b.account b.sequence b.identification ∷ fixed_recs b.fixed (ordering_party_rec b.name_code b.desired b.party b.test_code ∷ k))
  head_passed g b k c = by b.identification (fixed_passed b.fixed _ (pass OrderingParty tt _ _ c))
    where
      by : (o : Option (List ℕ)) {rs : List Rec} → P rs → P (batch_header_rec g b.account b.sequence o ∷ rs)
      by none d = pass BatchHeaderB tt _ _ d
      by (some t) d = pass BatchHeaderC tt _ _ d
