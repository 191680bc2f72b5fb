-- THE RECORDS BEFORE OTHERS ARE THE RECORDS AND THEN THOSE, of all that the language puts before what follows. Assumes nothing.
use mathlib.Core.Path.{◌≡◌, refl, ap, ◌∙◌}
use mathlib.Core.List.{List, [], ◌∷◌, ◌++◌}
use mathlib.Core.Option.{Option, none, some}
use Prim.Native.Nat.{ℕ}
use lib.ListN.{length}
use Rattle.format.specs.Language.{Rec, Name, Item, Batch, total_of, accounts_of, ten_digits, batch_header_rec, fixed_recs, ordering_party_rec, transaction_rec, reference_recs, description_recs, city_recs, name_recs, item_recs, items_recs, batch_trailer_rec, batches_recs}
use Rattle.format.specs.declared.Group.{Group}
use Rattle.format.specs.declared.Group.TheVariants.{Payments, Debits}

abbrev Puts : Type 0
Puts = List Rec → List Rec

-- what f puts before some records it puts before those and more
abbrev pub Front : Puts → Type 0
Front f = (k j : List Rec) → f (k ++ j) ≡ f k ++ j

then : (f g : Puts) → Front f → Front g → Front (λ k. f (g k))
then f g p q k j = ap f (q k j) ∙ p (g k) j

fixed_before : (ts : List (List ℕ)) → Front (fixed_recs ts)
fixed_before [] k j = refl
fixed_before (t ∷ ts) k j = rw (fixed_before ts k j)

reference_before : (o : Option (List ℕ)) → Front (reference_recs o)
reference_before none k j = refl
reference_before (some t) k j = refl

description_before : (ts : List (List ℕ)) → Front (description_recs ts)
description_before [] k j = refl
description_before (t ∷ ts) k j = rw (description_before ts k j)

city_before : (g : Group) (o : Option (List ℕ)) → Front (city_recs g o)
city_before g none k j = refl
city_before Payments (some t) k j = refl
city_before Debits (some t) k j = refl

name_before : (g : Group) (o : Option Name) → Front (name_recs g o)
name_before g none k j = refl
name_before Payments (some n) k j = rw (city_before Payments n.city k j)
name_before Debits (some n) k j = rw (city_before Debits n.city k j)

item_before : (g : Group) (i : Item) → Front (item_recs g i)
item_before Payments i =
    let d = name_recs Payments i.name in
    then (reference_recs i.reference) (λ k. description_recs i.descriptions (d k)) (reference_before i.reference)
    (then (description_recs i.descriptions) d (description_before i.descriptions) (name_before Payments i.name))
item_before Debits i =
    let d = description_recs i.descriptions in
    then (name_recs Debits i.name) (λ k. reference_recs i.reference (d k)) (name_before Debits i.name)
    (then (reference_recs i.reference) d (reference_before i.reference) (description_before i.descriptions))

pub items_before : (g : Group) (is : List Item) → Front (items_recs g is)
items_before g [] k j = refl
items_before g (i ∷ is) k j = ap {B = List Rec} (λ l. transaction_rec i ∷ l) (then (item_recs g i) (items_recs g is) (item_before g i) (items_before g is) k j)

-- a batch's records
abbrev batch_recs : Group → Batch → Puts
batch_recs g b k =
    batch_header_rec g b.account b.sequence b.identification
    ∷ fixed_recs b.fixed
    (ordering_party_rec b.name_code b.desired b.party b.test_code
    ∷ items_recs g b.items (batch_trailer_rec (total_of b.items) (ten_digits (accounts_of b.items)) (length b.items) ∷ k))

batch_before : (g : Group) (b : Batch) → Front (batch_recs g b)
batch_before g b k j =
    let header = batch_header_rec g b.account b.sequence b.identification in
    let party = ordering_party_rec b.name_code b.desired b.party b.test_code in
    let trailer = batch_trailer_rec (total_of b.items) (ten_digits (accounts_of b.items)) (length b.items) in
    ap {B = List Rec} (λ l. header ∷ l)
    (ap {B = List Rec} (λ l. fixed_recs b.fixed (party ∷ l)) (items_before g b.items (trailer ∷ k) j)
    ∙ fixed_before b.fixed (party ∷ items_recs g b.items (trailer ∷ k)) j)

pub batches_before : (g : Group) (bs : List Batch) → Front (batches_recs g bs)
batches_before g [] k j = refl
batches_before g (b ∷ bs) k j = then (batch_recs g b) (batches_recs g bs) (batch_before g b) (batches_before g bs) k j

-- a file's first batches, then the others
pub batches_then : (g : Group) (a b : List Batch) (k : List Rec) → batches_recs g (a ++ b) k ≡ batches_recs g a (batches_recs g b k)
batches_then g [] b k = refl
batches_then g (c ∷ a) b k = ap (batch_recs g c) (batches_then g a b k)
