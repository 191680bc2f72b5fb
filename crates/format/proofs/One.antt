-- ONE: a list of records is that of one file only. Folded from its end, it gives the file back.
use mathlib.Core.Path.{◌≡◌, refl, sym, ap, ap₂, ◌∙◌}
use mathlib.Core.List.{List, [], ◌∷◌}
use mathlib.Core.Option.{Option, none, some}
use Prim.Native.Nat.{ℕ, ◌≤◌}
use native.Mathlib.Omega.{arith}
use lib.ListN.{length}
use Rattle.format.specs.Records.{Fields, creation_date, sender, identification, duplicate_code, group, ordering_account, sequence, batch_identification, unidentified, name_code, desired_date, party_name, test_code}
use Rattle.format.specs.Rules.{group_of}
use Rattle.format.specs.Language.{Name, Item, Batch, File, total_of, accounts_of, ten_digits, Rec, batch_header_rec, fixed_recs, ordering_party_rec, transaction_rec, reference_recs, description_recs, name_recs, item_recs, items_recs, batch_trailer_rec, batches_recs, file_trailer_recs, file_recs, Valid}
use Rattle.format.specs.declared.Kind.{Kind}
use Rattle.format.specs.declared.Kind.TheVariants.{FileHeader, BatchHeaderB, BatchHeaderC, FixedDescription, OrderingParty, Transaction, NamePayer, CityPayer, PaymentReference, Description, NameBeneficiary, CityBeneficiary, BatchTrailer, FileTrailer}
use Rattle.format.specs.declared.Group.{Group}
use Rattle.format.specs.declared.Group.TheVariants.{Payments, Debits}
use Rattle.format.proofs.Sound.{item_of, group_back}

-- ## What has been gathered from the records after this one

-- texts that belong to an item in front of them
record Loose : Type 0 where
  reference : Option (List ℕ)
  descriptions : List (List ℕ)
  city : Option (List ℕ)
  name : Option Name

record Gathered : Type 0 where
  loose : Loose
  its : List Item
  party : Fields OrderingParty
  fixed : List (List ℕ)
  batches : List Batch
  in_group : Group
  file : File

abbrev nothing : Loose
nothing = record { reference = none; descriptions = []; city = none; name = none }

abbrev nobody : Fields OrderingParty
nobody = (0, (0, ([], ([], (tt, tt)))))

abbrev no_file : File
no_file = record { created = 0; sender = []; identification = []; duplicate = 0; group = Payments; batches = [] }

abbrev with_items : Group → List Batch → List Item → Gathered
with_items g bs is = record { loose = nothing; its = is; party = nobody; fixed = []; batches = bs; in_group = g; file = no_file }

abbrev with_loose : Gathered → Loose → Gathered
with_loose p l = record { loose = l; its = p.its; party = p.party; fixed = p.fixed; batches = p.batches; in_group = p.in_group; file = p.file }

abbrev with_fixed : Gathered → List (List ℕ) → Gathered
with_fixed p fx = record { loose = p.loose; its = p.its; party = p.party; fixed = fx; batches = p.batches; in_group = p.in_group; file = p.file }

abbrev with_batch : Gathered → Fields BatchHeaderB → Option (List ℕ) → Gathered
with_batch p x id =
    with_items (group_of (group x))
    (record {
      account = ordering_account x;
      sequence = sequence x;
      identification = id;
      fixed = p.fixed;
      name_code = name_code p.party;
      desired = desired_date p.party;
      party = party_name p.party;
      test_code = test_code p.party;
      items = p.its;
    }
    ∷ p.batches) []

gather : (k : Kind) → Fields k → Gathered → Gathered
gather FileHeader x p =
    record {
      loose = nothing;
      its = [];
      party = nobody;
      fixed = [];
      batches = [];
      in_group = Payments;
      file = record { created = creation_date x; sender = sender x; identification = identification x; duplicate = duplicate_code x; group = p.in_group; batches = p.batches };
    }
gather BatchHeaderB x p = with_batch p x none
gather BatchHeaderC x p = with_batch p (unidentified x) (some (batch_identification x))
gather FixedDescription x p = with_fixed p (x.0 ∷ p.fixed)
gather OrderingParty x p = record { loose = p.loose; its = p.its; party = x; fixed = p.fixed; batches = p.batches; in_group = p.in_group; file = p.file }
gather Transaction x p =
    let l = p.loose in
    record { loose = nothing; its = item_of x l.reference l.descriptions l.name ∷ p.its; party = p.party; fixed = p.fixed; batches = p.batches; in_group = p.in_group; file = p.file }
gather NamePayer x p = let l = p.loose in with_loose p (record { reference = l.reference; descriptions = l.descriptions; city = none; name = some (record { text = x.0; city = l.city }) })
gather CityPayer x p = let l = p.loose in with_loose p (record { reference = l.reference; descriptions = l.descriptions; city = some x.0; name = l.name })
gather PaymentReference x p = let l = p.loose in with_loose p (record { reference = some x.0; descriptions = l.descriptions; city = l.city; name = l.name })
gather Description x p = let l = p.loose in with_loose p (record { reference = l.reference; descriptions = x.0 ∷ l.descriptions; city = l.city; name = l.name })
gather NameBeneficiary x p = let l = p.loose in with_loose p (record { reference = l.reference; descriptions = l.descriptions; city = none; name = some (record { text = x.0; city = l.city }) })
gather CityBeneficiary x p = let l = p.loose in with_loose p (record { reference = l.reference; descriptions = l.descriptions; city = some x.0; name = l.name })
gather BatchTrailer x p = with_items p.in_group p.batches []
gather FileTrailer x p = with_items Payments [] []

gathered : List Rec → Gathered
gathered [] = with_items Payments [] []
gathered (r ∷ rs) = gather r.0 r.1 (gathered rs)

-- ## An item back from its records

abbrev with_texts : Gathered → Option (List ℕ) → List (List ℕ) → Option Name → Gathered
with_texts b r d n = with_loose b (record { reference = r; descriptions = d; city = none; name = n })

module _ (b : Gathered) where
  descriptions_back : (ds : List (List ℕ)) (k : List Rec) (n : Option Name) → gathered k ≡ with_texts b none [] n → gathered (description_recs ds k) ≡ with_texts b none ds n
  unfolding gathered gather
  descriptions_back [] k n e = e
  descriptions_back (t ∷ ts) k n e = ap (gather Description (t, (tt, tt))) (descriptions_back ts k n e)

  reference_back : (r : Option (List ℕ)) (ds : List (List ℕ)) (k : List Rec) (n : Option Name) → gathered k ≡ with_texts b none ds n → gathered (reference_recs r k) ≡ with_texts b r ds n
  unfolding gathered gather
  reference_back none ds k n e = e
  reference_back (some t) ds k n e = ap (gather PaymentReference (t, (tt, tt))) e

  city_back : (g : Group) (w : List ℕ) (c r : Option (List ℕ)) (ds : List (List ℕ)) (k : List Rec) → gathered k ≡ with_texts b r ds none
      → gathered (name_recs g (some (record { text = w; city = c })) k) ≡ with_texts b r ds (some (record { text = w; city = c }))
  unfolding gathered gather
  city_back Payments w none r ds k e = ap (gather NameBeneficiary (w, (tt, tt))) e
  city_back Payments w (some t) r ds k e = ap (λ p. gather NameBeneficiary (w, (tt, tt)) (gather CityBeneficiary (t, tt) p)) e
  city_back Debits w none r ds k e = ap (gather NamePayer (w, (tt, tt))) e
  city_back Debits w (some t) r ds k e = ap (λ p. gather NamePayer (w, (tt, tt)) (gather CityPayer (t, tt) p)) e

  name_back : (g : Group) (n : Option Name) (r : Option (List ℕ)) (ds : List (List ℕ)) (k : List Rec) → gathered k ≡ with_texts b r ds none → gathered (name_recs g n k) ≡ with_texts b r ds n
  name_back g none r ds k e = e
  name_back g (some n) r ds k e = city_back g n.text n.city r ds k e

  item_back : (g : Group) (i : Item) (k : List Rec) → gathered k ≡ with_texts b none [] none → gathered (item_recs g i k) ≡ with_texts b i.reference i.descriptions i.name
  item_back Payments i k e =
      let named = name_recs Payments i.name k in
      reference_back i.reference i.descriptions (description_recs i.descriptions named) i.name (descriptions_back i.descriptions named i.name (name_back Payments i.name none [] k e))
  item_back Debits i k e =
      let described = description_recs i.descriptions k in
      name_back Debits i.name i.reference i.descriptions (reference_recs i.reference described) (reference_back i.reference i.descriptions described none (descriptions_back i.descriptions k none e))

-- ## Items, batches, the file

items_back : (g : Group) (is : List Item) (n a c : ℕ) (k : List Rec) → gathered (items_recs g is (batch_trailer_rec n a c ∷ k)) ≡ with_items (gathered k).in_group (gathered k).batches is
unfolding gathered gather
items_back g [] n a c k = refl
items_back g (i ∷ is) n a c k =
    ap (gather Transaction (transaction_rec i).1) (item_back (with_items (gathered k).in_group (gathered k).batches is) g i (items_recs g is (batch_trailer_rec n a c ∷ k)) (items_back g is n a c k))

fixed_back : (fx : List (List ℕ)) (k : List Rec) (p : Gathered) → p.fixed ≡ [] → gathered k ≡ p → gathered (fixed_recs fx k) ≡ with_fixed p fx
unfolding gathered gather
fixed_back [] k p h e = e ∙ (λ i. with_fixed p (h i))
fixed_back (t ∷ ts) k p h e = ap (gather FixedDescription (t, (tt, tt))) (fixed_back ts k p h e)

header_back : (g : Group) (a q : ℕ) (i : Option (List ℕ)) (k : List Rec) → gathered (batch_header_rec g a q i ∷ k) ≡ with_batch (gathered k) (batch_header_rec g a q none).1 i
unfolding gathered gather
header_back g a q none k = refl
header_back g a q (some t) k = refl

batch_back : (g : Group) (b : Batch) (bs : List Batch) (k : List Rec) → (gathered (batches_recs g bs k)).batches ≡ bs → (gathered (batches_recs g (b ∷ bs) k)).batches ≡ b ∷ bs
unfolding gathered gather
batch_back g b bs k e =
    let r = batches_recs g bs k in
    let p = ordering_party_rec b.name_code b.desired b.party b.test_code in
    let t = items_recs g b.items (batch_trailer_rec (total_of b.items) (ten_digits (accounts_of b.items)) (length b.items) ∷ r) in
    let q = items_back g b.items (total_of b.items) (ten_digits (accounts_of b.items)) (length b.items) r in
    let f = fixed_back b.fixed (p ∷ t) (gather OrderingParty p.1 (with_items (gathered r).in_group (gathered r).batches b.items)) refl (ap (gather OrderingParty p.1) q) in
    ap (λ (u : Gathered). u.batches) (header_back g b.account b.sequence b.identification (fixed_recs b.fixed (p ∷ t)) ∙ ap (λ u. with_batch u (batch_header_rec g b.account b.sequence none).1 b.identification) f)
    ∙ ap (λ l. b ∷ l) e

batches_back : (g : Group) (bs : List Batch) → (gathered (batches_recs g bs file_trailer_recs)).batches ≡ bs
unfolding gathered gather
batches_back g [] = refl
batches_back g (b ∷ bs) = batch_back g b bs file_trailer_recs (batches_back g bs)

in_group_back : (g : Group) (b : Batch) (bs : List Batch) → (gathered (batches_recs g (b ∷ bs) file_trailer_recs)).in_group ≡ g
in_group_back g b bs = ap (λ (u : Gathered). u.in_group) (header_back g b.account b.sequence b.identification _) ∙ group_back g

abbrev with_batches : File → Group → List Batch → File
with_batches f g bs = record { created = f.created; sender = f.sender; identification = f.identification; duplicate = f.duplicate; group = g; batches = bs }

some_batches_back : (f : File) (bs : List Batch) → 1 ≤ length bs → (gathered (file_recs (with_batches f f.group bs))).file ≡ with_batches f f.group bs
unfolding gathered gather
some_batches_back f [] h = absurd (omega arith)
some_batches_back f (b ∷ bs) h = ap₂ (with_batches f) (in_group_back f.group b bs) (batches_back f.group (b ∷ bs))

file_back : (f : File) → Valid f → (gathered (file_recs f)).file ≡ f
file_back f v = some_batches_back f f.batches v.some_batch

pub one_file : (f g : File) → Valid f → Valid g → file_recs f ≡ file_recs g → f ≡ g
one_file f g v w e = sym (file_back f v) ∙ ap (λ r. (gathered r).file) e ∙ file_back g w
