-- What the search finds in a file's records: that file's item. Assumes nothing.
use Prim.Native.Nat.{ℕ, zero, suc, ◌-◌}
use mathlib.Core.Path.{◌≡◌, refl, ◌∙◌, ap, ap₂}
use mathlib.Core.List.{List, [], ◌∷◌}
use mathlib.Core.Bool.{Bool, true, false}
use mathlib.Core.Option.{Option, none, some}
use native.Mathlib.Omega.{arith}
use borrow.Author.Tests.{ne_eqb}
use lib.ListN.{length}
use lib.Dec.{eqb}
use Rattle.machine.specs.Lists.{pick}
use Rattle.format.specs.Language.{Name, Item, Batch, Rec, total_of, accounts_of, ten_digits, batch_header_rec, fixed_recs, ordering_party_rec, reference_recs, description_recs, city_recs, name_recs, item_recs, items_recs, batch_trailer_rec, batches_recs, file_trailer_recs}
use Rattle.format.specs.declared.Group.{Group}
use Rattle.format.specs.declared.Group.TheVariants.{Payments, Debits}
use Rattle.record.specs.Read.{transaction_for}
use Rattle.descriptions.specs.Texts.{with_text}
use Rattle.descriptions.specs.declared.Descriptions.{Descriptions}
use Rattle.items.specs.Search.{with_item, with_fixed, with_own, with_reference, with_name, searching, opened, fixed, described, referred, named}
use Rattle.items.specs.Promises.{nth}
use Rattle.items.specs.declared.Found.{Found}
use Rattle.items.specs.declared.Search.{Search}
use Rattle.items.proofs.Recorded.{after_recs}

-- a city changes nothing
city_off : (s : Search) (g : Group) (o : Option (List ℕ)) (k : List Rec) → after_recs s (city_recs g o k) ≡ after_recs s k
unfolding after_recs
city_off s Payments none k = refl
city_off s Payments (some t) k = refl
city_off s Debits none k = refl
city_off s Debits (some t) k = refl

-- ## Where the wanted item is not open

module _ (b n : ℕ) (w : Bool) (f : Found) where
  abbrev passing : Search
  passing = searching b n w false f

  reference_off : (o : Option (List ℕ)) (k : List Rec) → after_recs passing (reference_recs o k) ≡ after_recs passing k
  unfolding after_recs referred pick
  reference_off none k = refl
  reference_off (some t) k = refl

  descriptions_off : (ts : List (List ℕ)) (k : List Rec) → after_recs passing (description_recs ts k) ≡ after_recs passing k
  unfolding after_recs described pick
  descriptions_off [] k = refl
  descriptions_off (t ∷ ts) k = descriptions_off ts k

  name_off : (g : Group) (o : Option Name) (k : List Rec) → after_recs passing (name_recs g o k) ≡ after_recs passing k
  unfolding after_recs named pick
  name_off Payments none k = refl
  name_off Payments (some m) k = city_off passing Payments m.city k
  name_off Debits none k = refl
  name_off Debits (some m) k = city_off passing Debits m.city k

  item_off : (g : Group) (i : Item) (k : List Rec) → after_recs passing (item_recs g i k) ≡ after_recs passing k
  item_off Payments i k =
      reference_off i.reference (description_recs i.descriptions (name_recs Payments i.name k))
      ∙ descriptions_off i.descriptions (name_recs Payments i.name k) ∙ name_off Payments i.name k
  item_off Debits i k =
      name_off Debits i.name (reference_recs i.reference (description_recs i.descriptions k))
      ∙ reference_off i.reference (description_recs i.descriptions k) ∙ descriptions_off i.descriptions k

-- ## Where the wanted batch is not open

module _ (b n : ℕ) (f : Found) where
  fixed_off : (ts : List (List ℕ)) (k : List Rec) → after_recs (passing b n false f) (fixed_recs ts k) ≡ after_recs (passing b n false f) k
  unfolding after_recs fixed pick
  fixed_off [] k = refl
  fixed_off (t ∷ ts) k = fixed_off ts k

  items_off : (g : Group) (is : List Item) (k : List Rec) → after_recs (passing b n false f) (items_recs g is k) ≡ after_recs (passing b n false f) k
  unfolding after_recs opened pick
  items_off g [] k = refl
  items_off g (i ∷ is) k = item_off b n false f g i (items_recs g is k) ∙ items_off g is k

abbrev trailed : Group → Batch → List Batch → List Rec
trailed g x bs = batch_trailer_rec (total_of x.items) (ten_digits (accounts_of x.items)) (length x.items) ∷ batches_recs g bs file_trailer_recs

abbrev party : Batch → Rec
party x = ordering_party_rec x.name_code x.desired x.party x.test_code

-- a batch after its header, and those after it
abbrev inside : Group → Batch → List Batch → List Rec
inside g x bs = fixed_recs x.fixed (party x ∷ items_recs g x.items (trailed g x bs))

header : (g : Group) (b n : ℕ) (w h : Bool) (f : Found) (a s : ℕ) (o : Option (List ℕ)) (k : List Rec)
    → after_recs (searching b n w h f) (batch_header_rec g a s o ∷ k) ≡ after_recs (searching (b - 1) n (eqb b 1) false f) k
unfolding after_recs
header g b n w h f a s none k = refl
header g b n w h f a s (some t) k = refl

batch_off : (g : Group) (b n : ℕ) (f : Found) (x : Batch) (bs : List Batch) → after_recs (passing b n false f) (inside g x bs) ≡ after_recs (passing b n false f) (batches_recs g bs file_trailer_recs)
unfolding after_recs
batch_off g b n f x bs =
    fixed_off b n f x.fixed (party x ∷ items_recs g x.items (trailed g x bs)) ∙ past
  where
    past : after_recs (passing b n false f) (party x ∷ items_recs g x.items (trailed g x bs)) ≡ after_recs (passing b n false f) (batches_recs g bs file_trailer_recs)
    past = items_off b n f g x.items (trailed g x bs)

-- no batch is wanted any more
none_wanted : (g : Group) (n : ℕ) (w h : Bool) (f : Found) (bs : List Batch) → (after_recs (searching 0 n w h f) (batches_recs g bs file_trailer_recs)).found ≡ f
unfolding after_recs
none_wanted g n w h f [] = refl
none_wanted g n w h f (x ∷ bs) =
    ap (λ (s : Search). s.found) (header g 0 n w h f x.account x.sequence x.identification (inside g x bs) ∙ batch_off g 0 n f x bs) ∙ none_wanted g n false false f bs

-- ## In the wanted item

abbrev pub add_texts : Descriptions → List (List ℕ) → Descriptions
add_texts d [] = d
add_texts d (t ∷ ts) = add_texts (with_text d t) ts

abbrev pub on_reference : Found → Option (List ℕ) → Found
on_reference f none = f
on_reference f (some t) = with_reference f t

abbrev pub on_own : Found → List (List ℕ) → Found
on_own f ts = record { fixed = f.fixed; own = add_texts f.own ts; referred = f.referred; fields = f.fields }

abbrev pub on_name : Found → Option Name → Found
on_name f none = f
on_name f (some m) = with_name f m.text

abbrev pub on_fixed : Found → List (List ℕ) → Found
on_fixed f ts = record { fixed = add_texts f.fixed ts; own = f.own; referred = f.referred; fields = f.fields }

module _ (b n : ℕ) (w : Bool) where
  abbrev during : Found → Search
  during f = searching b n w true f

  reference_on : (f : Found) (o : Option (List ℕ)) (k : List Rec) → after_recs (during f) (reference_recs o k) ≡ after_recs (during (on_reference f o)) k
  unfolding after_recs referred pick
  reference_on f none k = refl
  reference_on f (some t) k = refl

  descriptions_on : (f : Found) (ts : List (List ℕ)) (k : List Rec) → after_recs (during f) (description_recs ts k) ≡ after_recs (during (on_own f ts)) k
  unfolding after_recs described pick
  descriptions_on f [] k = refl
  descriptions_on f (t ∷ ts) k = descriptions_on (with_own f t) ts k

  name_on : (f : Found) (g : Group) (o : Option Name) (k : List Rec) → after_recs (during f) (name_recs g o k) ≡ after_recs (during (on_name f o)) k
  unfolding after_recs named pick
  name_on f Payments none k = refl
  name_on f Payments (some m) k = city_off (during (with_name f m.text)) Payments m.city k
  name_on f Debits none k = refl
  name_on f Debits (some m) k = city_off (during (with_name f m.text)) Debits m.city k

-- payments have the name last, debits first: the same is found
abbrev pub on_item : Found → Item → Found
on_item f i = on_name (on_own (on_reference (with_item f (transaction_for (i.type, (i.amount, (i.payer, (i.beneficiary, (tt, tt))))))) i.reference) i.descriptions) i.name

other_order : (f : Found) (o : Option (List ℕ)) (ts : List (List ℕ)) (m : Option Name) → on_own (on_reference (on_name f m) o) ts ≡ on_name (on_own (on_reference f o) ts) m
other_order f none ts none = refl
other_order f none ts (some m) = refl
other_order f (some t) ts none = refl
other_order f (some t) ts (some m) = refl

item_on : (b n : ℕ) (w : Bool) (f : Found) (g : Group) (i : Item) (k : List Rec)
    → after_recs (during b n w f) (item_recs g i k) ≡ after_recs (during b n w (on_name (on_own (on_reference f i.reference) i.descriptions) i.name)) k
item_on b n w f Payments i k =
    reference_on b n w f i.reference (description_recs i.descriptions (name_recs Payments i.name k))
    ∙ descriptions_on b n w (on_reference f i.reference) i.descriptions (name_recs Payments i.name k)
    ∙ name_on b n w (on_own (on_reference f i.reference) i.descriptions) Payments i.name k
item_on b n w f Debits i k =
    name_on b n w f Debits i.name (reference_recs i.reference (description_recs i.descriptions k))
    ∙ reference_on b n w (on_name f i.name) i.reference (description_recs i.descriptions k)
    ∙ descriptions_on b n w (on_reference (on_name f i.name) i.reference) i.descriptions k
    ∙ ap (λ x. after_recs (during b n w x) k) (other_order f i.reference i.descriptions i.name)

-- ## In the wanted batch

fixed_on : (n : ℕ) (f : Found) (ts : List (List ℕ)) (k : List Rec) → after_recs (searching 0 n true false f) (fixed_recs ts k) ≡ after_recs (searching 0 n true false (on_fixed f ts)) k
unfolding after_recs fixed pick
fixed_on n f [] k = refl
fixed_on n f (t ∷ ts) k = fixed_on n (with_fixed f t) ts k

-- what is found of the items of a batch
abbrev pub item_found : Found → Option Item → Found
item_found f none = f
item_found f (some i) = on_item f i

module _ (g : Group) (x : Batch) (bs : List Batch) where
  -- after the wanted item
  items_past : (h : Bool) (f : Found) (is : List Item) → (after_recs (searching 0 0 true h f) (items_recs g is (trailed g x bs))).found ≡ f
  unfolding after_recs opened pick
  items_past h f [] = none_wanted g 0 true h f bs
  items_past h f (i ∷ is) = ap (λ (s : Search). s.found) (item_off 0 0 true f g i (items_recs g is (trailed g x bs))) ∙ items_past false f is

  items_on : (n : ℕ) (f : Found) (is : List Item) → (after_recs (searching 0 n true false f) (items_recs g is (trailed g x bs))).found ≡ item_found f (nth n is)
  unfolding after_recs opened pick
  items_on zero f is = items_past false f is
  items_on (suc n) f [] = none_wanted g (suc n) true false f bs
  items_on (suc zero) f (i ∷ is) =
      let t = transaction_for (i.type, (i.amount, (i.payer, (i.beneficiary, (tt, tt))))) in
      ap (λ (s : Search). s.found) (item_on 0 0 true (with_item f t) g i (items_recs g is (trailed g x bs))) ∙ items_past true (on_item f i) is
  items_on (suc (suc n)) f (i ∷ is) =
      let t = transaction_for (i.type, (i.amount, (i.payer, (i.beneficiary, (tt, tt))))) in
      let e : suc (suc n) - 1 ≡ suc n = omega arith in
      let on : opened (searching 0 (suc (suc n)) true false f) t ≡ searching 0 (suc n) true false f = rw (ne_eqb (suc (suc n)) 1 (λ z. absurd (omega arith)), e) in
      ap (λ (s : Search). s.found) (ap (λ s. after_recs s (item_recs g i (items_recs g is (trailed g x bs)))) on ∙ item_off 0 (suc n) true f g i (items_recs g is (trailed g x bs))) ∙ items_on (suc n) f is

  batch_on : (n : ℕ) (f : Found) → (after_recs (searching 0 n true false f) (inside g x bs)).found ≡ item_found (on_fixed f x.fixed) (nth n x.items)
  unfolding after_recs
  batch_on n f = ap (λ (s : Search). s.found) (fixed_on n f x.fixed (party x ∷ items_recs g x.items (trailed g x bs))) ∙ past
    where
      past : (after_recs (searching 0 n true false (on_fixed f x.fixed)) (party x ∷ items_recs g x.items (trailed g x bs))).found ≡ item_found (on_fixed f x.fixed) (nth n x.items)
      past = items_on n (on_fixed f x.fixed) x.items

-- ## In a file

abbrev pub batch_found : Found → Option Batch → ℕ → Found
batch_found f none n = f
batch_found f (some x) n = item_found (on_fixed f x.fixed) (nth n x.items)

pub batches_on : (g : Group) (b n : ℕ) (w h : Bool) (f : Found) (bs : List Batch) → (after_recs (searching b n w h f) (batches_recs g bs file_trailer_recs)).found ≡ batch_found f (nth b bs) n
unfolding after_recs
batches_on g zero n w h f bs = none_wanted g n w h f bs
batches_on g (suc b) n w h f [] = refl
batches_on g (suc zero) n w h f (x ∷ bs) = ap (λ (s : Search). s.found) (header g 1 n w h f x.account x.sequence x.identification (inside g x bs)) ∙ batch_on g x bs n f
batches_on g (suc (suc b)) n w h f (x ∷ bs) =
    let e : suc (suc b) - 1 ≡ suc b = omega arith in
    let on : searching (suc (suc b) - 1) n (eqb (suc (suc b)) 1) false f ≡ passing (suc b) n false f = ap₂ (λ m q. searching m n q false f) e (ne_eqb (suc (suc b)) 1 (λ z. absurd (omega arith))) in
    ap (λ (s : Search). s.found)
    (header g (suc (suc b)) n w h f x.account x.sequence x.identification (inside g x bs) ∙ ap (λ s. after_recs s (inside g x bs)) on ∙ batch_off g (suc b) n f x bs)
    ∙ batches_on g (suc b) n false false f bs
