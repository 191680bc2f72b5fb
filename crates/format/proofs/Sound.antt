-- SOUND: records that the reader takes to its end are those of a valid file. What is left of the file is said for each phase, and one record more in front is shown for each place.
use mathlib.Core.Path.{◌≡◌, refl, sym, ap, ap₂, ◌∙◌, subst}
use mathlib.Core.Bool.{Bool, true, false, not, ◌&&◌, ◌||◌}
use mathlib.Core.List.{List, [], ◌∷◌}
use mathlib.Core.Option.{Option, none, some}
use Prim.Native.Nat.{ℕ, zero, suc, ◌+◌, ◌≤◌, ◌<◌}
use native.Mathlib.Omega.{arith}
use native.Mathlib.Nat.{zero-add, mod-add-mod, mod-eq_of_lt}
use lib.ListN.{length}
use lib.Dec.{T, leb, eqb, leb→le, eqb→eq, eqb-suc-zero}
use Rattle.machine.specs.Lists.{pick, same, in_range}
use Rattle.machine.proofs.Base.{and_l, and_r, same→eq}
use Rattle.format.specs.Fields.{filled, Fit, Fits}
use Rattle.format.specs.Records.{layout, Fields, creation_date, file_name, sender, identification, duplicate_code, group, ordering_account, sequence, currency, batch_identification, unidentified, name_code, desired_date, party_name, test_code, type, amount, payer, beneficiary, total_amount, total_accounts, items}
use Rattle.format.specs.Rules.{max_amount, max_total, max_items, max_account, max_sequence, max_fixed, most_descriptions, CLIEOP03, EUR, is_seven_if, same_group, group_text, is_group, group_of, type_of, is_unchecked_type}
use Rattle.format.specs.Language.{Name, Item, Batch, File, total_of, accounts_of, ten_digits, Rec, file_header_rec, batch_header_rec, fixed_recs, transaction_rec, reference_recs, description_recs, city_recs, name_recs, item_recs, items_recs, batch_trailer_rec, batches_recs, file_trailer_recs, file_recs, In, other_party, TransactionOk, ReferenceOk, DescriptionsOk, CityOk, NameOk, is_some, ItemOk, ItemsOk, Before, after_that, Follows, IdentificationOk, BatchHeaderOk, OrderingPartyOk, BatchesOk, FileHeaderOk, Valid}
use Rattle.format.specs.Tests.{is_next, same_group_tests, batch_header_tests, transaction_tests, batch_trailer_tests}
use Rattle.format.specs.declared.Kind.{Kind}
use Rattle.format.specs.declared.Kind.TheVariants.{FileHeader, BatchHeaderB, BatchHeaderC, FixedDescription, OrderingParty, Transaction, NamePayer, PaymentReference, Description, NameBeneficiary, BatchTrailer, FileTrailer}
use Rattle.format.specs.declared.Group.{Group}
use Rattle.format.specs.declared.Group.TheVariants.{Payments, Debits}
use Rattle.format.proofs.Checks.{Hold, Holds}
use Rattle.format.proofs.Reader.{Room, fresh, left, Phase, start, headed, opened, ordered, paying, paid, owing, owed, closed, done, Context, State, at, new_batch, begin, MayEnd, unnamed_payment, named_payment, open_debit, Place, file_header, first_batch_b, first_batch_c, next_batch_b, next_batch_c, fixed_description, ordering_party, first_item, next_item, batch_trailer, payment_reference, payment_description, payment_description_more, beneficiary_name, beneficiary_city, payer_name, payer_city, debit_reference, debit_description, debit_description_more, file_trailer, opens, add_item, begin_item, begin_batch, advance, Ok, Path, end, go}

pub in_range→In : (low high n : ℕ) → T (in_range low high n) → In low high n
in_range→In low high n t = (leb→le low n (and_l (leb low n) (leb n high) t), leb→le n high (and_r (leb low n) (leb n high) t))

pub is_next→Follows : (p n : ℕ) → T (is_next p n) → Follows p n
is_next→Follows zero n t = tt
is_next→Follows (suc p) n t = eqb→eq n (suc (suc p)) (subst (λ b. T (b || eqb n (suc (suc p)))) (eqb-suc-zero p) t)

-- ## What is left of the file, seen from each phase

-- items, their trailer and the batches after it
abbrev pub trailed : Group → List Item → ℕ → ℕ → ℕ → List Batch → List Rec
trailed g is total accounts count bs = items_recs g is (batch_trailer_rec total accounts count ∷ batches_recs g bs file_trailer_recs)

-- the same where the batch has had items already
abbrev pub further_items : Group → Context → List Item → List Batch → List Rec
further_items g s is bs = trailed g is (s.total + total_of is) (ten_digits (s.accounts + accounts_of is)) (s.count + length is) bs

record ItemsLeft (g : Group) (s : Context) (rs : List Rec) : Type 0 where
  its : List Item
  batches : List Batch
  items_ok : ItemsOk g s.account its
  items_in : In 1 max_items (s.count + length its)
  total_max : s.total + total_of its ≤ max_total
  batches_ok : BatchesOk g s.before batches
  equal : rs ≡ further_items g s its batches

record BatchesLeft (g : Group) (least : ℕ) (p : Before) (rs : List Rec) : Type 0 where
  batches : List Batch
  batches_ok : BatchesOk g p batches
  batches_some : least ≤ length batches
  equal : rs ≡ batches_recs g batches file_trailer_recs

abbrev Within : Room → Option (List ℕ) → ℕ → Type 0
Within fresh reference n = n ≤ most_descriptions (is_some reference)
Within (left m) reference n = (reference ≡ none) × (n ≤ m)

record TextsLeft (More : List Rec → Type 0) (r : Room) (rs : List Rec) : Type 0 where
  reference : Option (List ℕ)
  descriptions : List (List ℕ)
  rest : List Rec
  reference_ok : ReferenceOk reference
  descriptions_ok : DescriptionsOk descriptions
  room : Within r reference (length descriptions)
  more : More rest
  equal : rs ≡ reference_recs reference (description_recs descriptions rest)

abbrev CityIf : Bool → Option (List ℕ) → Type 0
CityIf true c = Unit {0}
CityIf false c = c ≡ none

record CityLeft (g : Group) (may : Bool) (More : List Rec → Type 0) (rs : List Rec) : Type 0 where
  city : Option (List ℕ)
  rest : List Rec
  city_ok : CityOk city
  city_if : CityIf may city
  more : More rest
  equal : rs ≡ city_recs g city rest

record NameLeft (g : Group) (need : Bool) (More : List Rec → Type 0) (rs : List Rec) : Type 0 where
  name : Option Name
  rest : List Rec
  name_ok : NameOk need name
  more : More rest
  equal : rs ≡ name_recs g name rest

record BatchLeft (g : Group) (n : ℕ) (s : Context) (rs : List Rec) : Type 0 where
  fixed : List (List ℕ)
  party : Fields OrderingParty
  rest : List Rec
  fixed_ok : DescriptionsOk fixed
  fixed_max : length fixed ≤ n
  party_ok : OrderingPartyOk g (name_code party) (desired_date party) (party_name party) (test_code party)
  more : ItemsLeft g s rest
  equal : rs ≡ fixed_recs fixed ((OrderingParty, party) ∷ rest)

-- the group that is asked for, if any, is this one
abbrev pub Agree : Option Group → Group → Type 0
Agree none g = Unit {0}
Agree (some h) g = h ≡ g

abbrev GroupLeft : Option Group → ℕ → Before → List Rec → Type 0
GroupLeft o least p rs = (g : Group) × Agree o g × BatchesLeft g least p rs

record FileLeft (o : Option Group) (p : Before) (rs : List Rec) : Type 0 where
  header : Fields FileHeader
  rest : List Rec
  header_ok : FileHeaderOk (creation_date header) (sender header) (identification header) (duplicate_code header)
  more : GroupLeft o 1 p rest
  equal : rs ≡ file_header_rec (creation_date header) (sender header) (identification header) (duplicate_code header) ∷ rest

abbrev Rest : State → List Rec → Type 0
Rest (at (start o) s) rs = FileLeft o s.before rs
Rest (at (headed o) s) rs = GroupLeft o 1 s.before rs
Rest (at (opened g n) s) rs = BatchLeft g n s rs
Rest (at (ordered g) s) rs = ItemsLeft g s rs
Rest (at (paying n r) s) rs = TextsLeft (NameLeft Payments n (ItemsLeft Payments s)) r rs
Rest (at (paid c) s) rs = CityLeft Payments c (ItemsLeft Payments s) rs
Rest (at (owing r) s) rs = NameLeft Debits true (TextsLeft (ItemsLeft Debits s) r) rs
Rest (at (owed c r) s) rs = CityLeft Debits c (TextsLeft (ItemsLeft Debits s) r) rs
Rest (at (closed o) s) rs = GroupLeft o 0 s.before rs
Rest (at done s) rs = rs ≡ []

-- ## The texts of an item

module _ (More : List Rec → Type 0) where
  reference_edge : (rs : List Rec) (x : Fields PaymentReference) → Fit (filled 16) x.0 → TextsLeft More (left 3) rs → TextsLeft More fresh ((PaymentReference, x) ∷ rs)
  reference_edge rs x h b =
      record {
        reference = some x.0;
        descriptions = b.descriptions;
        rest = b.rest;
        reference_ok = h;
        descriptions_ok = b.descriptions_ok;
        room = omega (arith, b.room.1);
        more = b.more;
        equal = ap (λ k. (PaymentReference, x) ∷ k) (b.equal ∙ ap (λ r. reference_recs r (description_recs b.descriptions b.rest)) b.room.0);
      }

  description_front : (rs : List Rec) (r : Room) (m : ℕ) (x : Fields Description) → Fit (filled 32) x.0 → ((n : ℕ) → n ≤ m → Within r none (suc n)) → TextsLeft More (left m) rs → TextsLeft More r ((Description, x) ∷ rs)
  description_front rs r m x h f b =
      record {
        reference = none;
        descriptions = x.0 ∷ b.descriptions;
        rest = b.rest;
        reference_ok = tt;
        descriptions_ok = (h, b.descriptions_ok);
        room = f (length b.descriptions) b.room.1;
        more = b.more;
        equal = ap (λ k. (Description, x) ∷ k) (b.equal ∙ ap (λ r. reference_recs r (description_recs b.descriptions b.rest)) b.room.0);
      }

  description_edge : (rs : List Rec) (x : Fields Description) → Fit (filled 32) x.0 → TextsLeft More (left 3) rs → TextsLeft More fresh ((Description, x) ∷ rs)
  description_edge rs x h b = description_front rs fresh 3 x h (omega arith) b

  description_more : (m : ℕ) (rs : List Rec) (x : Fields Description) → Fit (filled 32) x.0 → TextsLeft More (left m) rs → TextsLeft More (left (suc m)) ((Description, x) ∷ rs)
  description_more m rs x h b = description_front rs (left (suc m)) m x h (λ n l. (refl, omega arith)) b

  no_city_lem : (g : Group) (c : Bool) (rs : List Rec) → More rs → CityLeft g c More rs
  no_city_lem g c rs k = record { city = none; rest = rs; city_ok = tt; city_if = blank c; more = k; equal = refl }
    where
      blank : (c : Bool) → CityIf c none
      blank true = tt
      blank false = refl

  no_texts_lem : (r : Room) (rs : List Rec) → More rs → TextsLeft More r rs
  no_texts_lem r rs k = record { reference = none; descriptions = []; rest = rs; reference_ok = tt; descriptions_ok = tt; room = empty r; more = k; equal = refl }
    where
      empty : (r : Room) → Within r none 0
      empty fresh = omega arith
      empty (left m) = (refl, omega arith)

  -- no city is left
  past_city : (g : Group) (rs : List Rec) → CityLeft g false More rs → More rs
  past_city Payments rs r = subst More (sym (r.equal ∙ ap (λ c. city_recs Payments c r.rest) r.city_if)) r.more
  past_city Debits rs r = subst More (sym (r.equal ∙ ap (λ c. city_recs Debits c r.rest) r.city_if)) r.more

-- ## A transaction in front

-- the other party is one of the two, by the group
other_seven : (g : Group) (unchecked : Bool) (p b : ℕ) → T (is_seven_if (not (same_group Payments g) && unchecked) p) → T (is_seven_if (not (same_group Debits g) && unchecked) b)
    → T (is_seven_if unchecked (other_party g p b))
other_seven Payments unchecked p b hp hb = hb
other_seven Debits unchecked p b hp hb = hp

transaction_facts : (g : Group) (own : ℕ) (x : Fields Transaction) → Fits (layout Transaction) x → Holds (layout Transaction) (transaction_tests g own x) → TransactionOk g own (type x) (amount x) (payer x) (beneficiary x)
transaction_facts g own x f h =
    record {
      type_fits = f.0;
      type_in = h.0.1.0;
      amount_in = in_range→In 1 max_amount (amount x) h.1.0.0;
      payer_in = in_range→In 1 max_account (payer x) h.1.1.0.0;
      payer_ok = h.1.1.0.1.0;
      beneficiary_in = in_range→In 1 max_account (beneficiary x) h.1.1.1.0.0;
      beneficiary_ok = h.1.1.1.0.1.0;
      own_payer = h.1.1.0.1.1.0;
      own_beneficiary = h.1.1.1.0.1.1.0;
      other_ok = other_seven g (is_unchecked_type (type_of (type x))) (payer x) (beneficiary x) h.1.1.0.1.1.1.0 h.1.1.1.0.1.1.1.0;
    }

pub trailed_same : (g : Group) (is : List Item) (bs : List Batch) {n m a b c d : ℕ} → n ≡ m → a ≡ b → c ≡ d → trailed g is n a c bs ≡ trailed g is m b d bs
trailed_same g is bs p q r = λ i. trailed g is (p i) (q i) (r i) bs

-- one item taken, the others still to come
pub item_taken : (g : Group) (s : Context) (i : Item) (is : List Item) (bs : List Batch) → further_items g (add_item s i.amount i.payer i.beneficiary) is bs
    ≡ trailed g is (s.total + total_of (i ∷ is)) (ten_digits (s.accounts + accounts_of (i ∷ is))) (s.count + length (i ∷ is)) bs
item_taken g s i is bs =
    let e : s.accounts + i.payer + i.beneficiary + accounts_of is ≡ s.accounts + (i.payer + i.beneficiary + accounts_of is) = omega arith in
    trailed_same g is bs (omega arith) (mod-add-mod (s.accounts + i.payer + i.beneficiary) 10000000000 (accounts_of is) ∙ ap ten_digits e) (omega arith)

item_front : (g : Group) (s : Context) (rs k : List Rec) (i : Item) → ItemOk g s.account i → ItemsLeft g (add_item s i.amount i.payer i.beneficiary) k → rs ≡ item_recs g i k
    → ItemsLeft g s (transaction_rec i ∷ rs)
item_front g s rs k i o r e =
    record {
      its = i ∷ r.its;
      batches = r.batches;
      items_ok = (o, r.items_ok);
      items_in = omega (arith, r.items_in);
      total_max = omega (arith, r.total_max);
      batches_ok = r.batches_ok;
      equal = ap (λ l. transaction_rec i ∷ l) (e ∙ ap (item_recs g i) (r.equal ∙ item_taken g s i r.its r.batches));
    }

abbrev pub item_of : Fields Transaction → Option (List ℕ) → List (List ℕ) → Option Name → Item
item_of x reference descriptions name = record { type = type x; amount = amount x; payer = payer x; beneficiary = beneficiary x; reference = reference; descriptions = descriptions; name = name }

item_edge : (g : Group) (s : Context) (rs : List Rec) (x : Fields Transaction) → TransactionOk g s.account (type x) (amount x) (payer x) (beneficiary x) → Rest (begin_item g s x) rs
    → ItemsLeft g s ((Transaction, x) ∷ rs)
item_edge Payments s rs x o b =
    let n = b.more in
    item_front Payments s rs n.rest (item_of x b.reference b.descriptions n.name)
    (record { transaction_ok = o; reference_ok = b.reference_ok; descriptions_ok = b.descriptions_ok; room = b.room; name_ok = n.name_ok }) n.more
    (b.equal ∙ ap (λ k. reference_recs b.reference (description_recs b.descriptions k)) n.equal)
item_edge Debits s rs x o b = by (is_unchecked_type (type_of (type x))) refl b
  where
    s' : Context
    s' = add_item s (amount x) (payer x) (beneficiary x)

    item : (n : Option Name) (rs k : List Rec) → NameOk (is_unchecked_type (type_of (type x))) n → rs ≡ name_recs Debits n k → TextsLeft (ItemsLeft Debits s') fresh k → ItemsLeft Debits s ((Transaction, x) ∷ rs)
    item n rs k ok e b =
        item_front Debits s rs b.rest (item_of x b.reference b.descriptions n)
        (record { transaction_ok = o; reference_ok = b.reference_ok; descriptions_ok = b.descriptions_ok; room = b.room; name_ok = ok }) b.more
        (e ∙ ap (name_recs Debits n) b.equal)

    by : (q : Bool) → is_unchecked_type (type_of (type x)) ≡ q → Rest (at (opens Debits q) s') rs → ItemsLeft Debits s ((Transaction, x) ∷ rs)
    by true q b = item b.name rs b.rest (subst (λ q. NameOk q b.name) (sym q) b.name_ok) b.equal b.more
    by false q b = item none rs b.rest (subst (λ q. NameOk q none) (sym q) tt) (b.equal ∙ ap (λ c. city_recs Debits c b.rest) b.city_if) b.more

-- where the open item may end, no more of it is left
ended_item : {p : Phase} {g : Group} (s : Context) (rs : List Rec) → MayEnd p g → ItemsLeft g s rs → Rest (at p s) rs
ended_item s rs (unnamed_payment {r}) b =
    no_texts_lem (NameLeft Payments false (ItemsLeft Payments s)) r rs (record { name = none; rest = rs; name_ok = tt; more = b; equal = refl })
ended_item s rs (named_payment {c}) b = no_city_lem (ItemsLeft Payments s) Payments c rs b
ended_item s rs (open_debit {c} {r}) b = no_city_lem (TextsLeft (ItemsLeft Debits s) r) Debits c rs (no_texts_lem (ItemsLeft Debits s) r rs b)

-- ## A batch trailer in front

trailer_edge : (g : Group) (s : Context) (rs : List Rec) (x : Fields BatchTrailer) → Fits (layout BatchTrailer) x → Holds (layout BatchTrailer) (batch_trailer_tests s.total s.accounts s.count x)
    → BatchesLeft g 0 s.before rs → ItemsLeft g s ((BatchTrailer, x) ∷ rs)
trailer_edge g s rs x f h r =
    let total = in_range→In 1 max_total (total_amount x) h.0.0 in
    let total-is = eqb→eq (total_amount x) s.total h.0.1.0 in
    let accounts-are = eqb→eq (total_accounts x) s.accounts h.1.0.0 in
    let small : s.accounts + 0 < 10000000000 = omega (arith, f.1.0) in
    let count = in_range→In 1 max_items (items x) h.1.1.0.0 in
    let count-is = eqb→eq (items x) s.count h.1.1.0.1.0 in
    record {
      its = [];
      batches = r.batches;
      items_ok = tt;
      items_in = omega arith;
      total_max = omega arith;
      batches_ok = r.batches_ok;
      equal = ap (λ k. (BatchTrailer, x) ∷ k) r.equal ∙ trailed_same g [] r.batches (omega arith) (accounts-are ∙ sym (mod-eq_of_lt small ∙ omega arith)) (omega arith);
    }

-- ## A batch header in front

group_bytes : (t : List ℕ) → T (is_group t) → t ≡ group_text (group_of t)
unfolding pick
group_bytes t h = by (same t (group_text Payments)) refl h
  where
    by : (q : Bool) → same t (group_text Payments) ≡ q → T (q || same t (group_text Debits)) → t ≡ group_text (pick q Payments Debits)
    by true q h = same→eq t (group_text Payments) (subst T (sym q) tt)
    by false q h = same→eq t (group_text Debits) h

pub group_back : (g : Group) → group_of (group_text g) ≡ g
unfolding pick same
group_back Payments = refl
group_back Debits = refl

agreed : (o : Option Group) (t : List ℕ) → Hold (same_group_tests o t) → Agree o (group_of t)
agreed none t h = tt
agreed (some g) t h = sym (ap group_of (same→eq t (group_text g) h.0) ∙ group_back g)

batch_front : (g : Group) (p : Before) (account number : ℕ) (id : Option (List ℕ)) (rs : List Rec) → BatchHeaderOk p account number id → BatchLeft g max_fixed (new_batch account (after_that p number)) rs
    → BatchesLeft g 1 p (batch_header_rec g account number id ∷ rs)
batch_front g p account number id rs o r =
    let m = r.more in
    record {
      batches =
          record {
            account = account;
            sequence = number;
            identification = id;
            fixed = r.fixed;
            name_code = name_code r.party;
            desired = desired_date r.party;
            party = party_name r.party;
            test_code = test_code r.party;
            items = m.its;
          }
          ∷ m.batches;
      batches_ok = (
        record {
          header_ok = o;
          fixed_ok = r.fixed_ok;
          fixed_max = r.fixed_max;
          party_ok = r.party_ok;
          items_ok = m.items_ok;
          items_in = omega (arith, m.items_in);
          total_max = omega (arith, m.total_max);
        },
        m.batches_ok,
      );
      batches_some = omega arith;
      equal =
          ap (λ k. batch_header_rec g account number id ∷ k)
          (r.equal ∙ ap (λ k. fixed_recs r.fixed ((OrderingParty, r.party) ∷ k)) (m.equal ∙ trailed_same g m.its m.batches (omega arith) (ap ten_digits (zero-add _)) (omega arith)));
    }

header_edge : (o : Option Group) (s : Context) (x : Fields BatchHeaderB) (id : Option (List ℕ)) (record_of : Rec) (rs : List Rec) → IdentificationOk id → Holds (layout BatchHeaderB) (batch_header_tests o s.before.sequence x)
    → record_of ≡ batch_header_rec (group_of (group x)) (ordering_account x) (sequence x) id → Rest (begin_batch s x) rs → GroupLeft o 1 s.before (record_of ∷ rs)
header_edge o s x id record_of rs i h e r = (
  group_of (group x),
  agreed o (group x) h.0.1,
  subst (λ k. BatchesLeft (group_of (group x)) 1 s.before (k ∷ rs)) (sym e)
      (batch_front (group_of (group x)) s.before (ordering_account x) (sequence x) id rs
      (record {
        account_in = in_range→In 1 max_account (ordering_account x) h.1.0.0;
        account_ok = h.1.0.1.0;
        sequence_in = in_range→In 1 max_sequence (sequence x) h.1.1.0.0;
        sequence_follows = is_next→Follows s.before.sequence (sequence x) h.1.1.0.1.0;
        identification_ok = i;
      }) r),
)

header_b : (o : Option Group) (s : Context) (rs : List Rec) (x : Fields BatchHeaderB) → Holds (layout BatchHeaderB) (batch_header_tests o s.before.sequence x) → Rest (begin_batch s x) rs → GroupLeft o 1 s.before ((BatchHeaderB, x) ∷ rs)
header_b o s rs x h r =
    header_edge o s x none (BatchHeaderB, x) rs tt h
    (ap₂ {C = Rec} (λ t c. (BatchHeaderB, (t, (ordering_account x, (sequence x, (c, (tt, (tt, tt)))))))) (group_bytes (group x) h.0.0) (same→eq (currency x) EUR h.1.1.1.0.0)) r

header_c : (o : Option Group) (s : Context) (rs : List Rec) (x : Fields BatchHeaderC) → Fit (filled 16) (batch_identification x) → Holds (layout BatchHeaderB) (batch_header_tests o s.before.sequence (unidentified x)) → Rest (begin_batch s (unidentified x)) rs
    → GroupLeft o 1 s.before ((BatchHeaderC, x) ∷ rs)
header_c o s rs x f h r =
    let y = unidentified x in
    header_edge o s y (some (batch_identification x)) (BatchHeaderC, x) rs f h
    (ap₂ {C = Rec} (λ t c. (BatchHeaderC, (t, (ordering_account y, (sequence y, (c, (batch_identification x, (tt, tt)))))))) (group_bytes (group y) h.0.0) (same→eq (currency y) EUR h.1.1.1.0.0)) r

-- at least one, so at least none
none_needed : (o : Option Group) {p : Before} {rs : List Rec} → GroupLeft o 1 p rs → GroupLeft o 0 p rs
none_needed o r = let b = r.2 in (r.0, r.1, record { batches = b.batches; batches_ok = b.batches_ok; batches_some = omega arith; equal = b.equal })

pub some_group : (o : Option Group) → (g : Group) × Agree o g
some_group none = (Payments, tt)
some_group (some g) = (g, refl)

-- ## ONE RECORD MORE IN FRONT, a place at a time

edge : {p : Phase} {k : Kind} (pl : Place p k) (s : Context) (rs : List Rec) (x : Fields k) → Ok pl s x → Rest (advance pl s x) rs → Rest (at p s) ((k, x) ∷ rs)
edge file_header s rs x o r =
    let f = o.fits in
    let h = o.holds in
    record {
      header = x;
      rest = rs;
      header_ok =
          record {
            date_small = f.0;
            date_ok = h.0.0;
            sender_fits = f.1.1.0;
            identification_fits = f.1.1.1.0;
            identification_ok = h.1.1.1.0.0;
            identification_day = h.1.1.1.0.1.0;
            duplicate_in = in_range→In 1 2 (duplicate_code x) h.1.1.1.1.0.0;
          };
      more = r;
      equal = ap (λ n. (FileHeader, (creation_date x, (n, x.1.1))) ∷ rs) (same→eq (file_name x) CLIEOP03 h.1.0.0);
    }
edge (first_batch_b {o = u}) s rs x o r = header_b u s rs x o.holds r
edge (first_batch_c {o = u}) s rs x o r = header_c u s rs x o.fits.1.1.1.1.0 o.holds r
edge (next_batch_b {o = u}) s rs x o r = none_needed u (header_b u s rs x o.holds r)
edge (next_batch_c {o = u}) s rs x o r = none_needed u (header_c u s rs x o.fits.1.1.1.1.0 o.holds r)
edge fixed_description s rs x o r =
    record {
      fixed = x.0 ∷ r.fixed;
      party = r.party;
      rest = r.rest;
      fixed_ok = (o.fits.0, r.fixed_ok);
      fixed_max = omega (arith, r.fixed_max);
      party_ok = r.party_ok;
      more = r.more;
      equal = ap (λ k. (FixedDescription, x) ∷ k) r.equal;
    }
edge ordering_party s rs x o r =
    let f = o.fits in
    let h = o.holds in
    record {
      fixed = [];
      party = x;
      rest = rs;
      fixed_ok = tt;
      fixed_max = omega arith;
      party_ok =
          record {
            code_in = in_range→In 1 2 (name_code x) h.0.0;
            code_ok = h.0.1.0;
            desired_small = f.1.0;
            desired_ok = h.1.0.0;
            name_fits = f.1.1.0;
            test_fits = f.1.1.1.0;
            test_ok = h.1.1.1.0.0;
          };
      more = r;
      equal = refl;
    }
edge (first_item {g}) s rs x o r = item_edge g s rs x (transaction_facts g s.account x o.fits o.holds) r
edge (next_item {g = g} i) s rs x o r = ended_item s ((Transaction, x) ∷ rs) i (item_edge g s rs x (transaction_facts g s.account x o.fits o.holds) r)
edge (batch_trailer {g = g} i) s rs x o r = ended_item s ((BatchTrailer, x) ∷ rs) i (trailer_edge g s rs x o.fits o.holds (subst (λ h. BatchesLeft h 0 s.before rs) (sym r.1) r.2))
edge (payment_reference {n}) s rs x o r = reference_edge (NameLeft Payments n (ItemsLeft Payments s)) rs x o.fits.0 r
edge (payment_description {n}) s rs x o r = description_edge (NameLeft Payments n (ItemsLeft Payments s)) rs x o.fits.0 r
edge (payment_description_more {n} {m}) s rs x o r = description_more (NameLeft Payments n (ItemsLeft Payments s)) m rs x o.fits.0 r
edge (beneficiary_name {r = q}) s rs x o r =
    no_texts_lem (NameLeft Payments true (ItemsLeft Payments s)) q ((NameBeneficiary, x) ∷ rs)
    (record { name = some (record { text = x.0; city = r.city }); rest = r.rest; name_ok = (o.fits.0, r.city_ok); more = r.more; equal = ap (λ k. (NameBeneficiary, x) ∷ k) r.equal })
edge beneficiary_city s rs x o r = record { city = some x.0; rest = rs; city_ok = o.fits.0; city_if = tt; more = past_city (ItemsLeft Payments s) Payments rs r; equal = refl }
edge payer_name s rs x o r =
    record { name = some (record { text = x.0; city = r.city }); rest = r.rest; name_ok = (o.fits.0, r.city_ok); more = r.more; equal = ap (λ k. (NamePayer, x) ∷ k) r.equal }
edge (payer_city {r = q}) s rs x o r = record { city = some x.0; rest = rs; city_ok = o.fits.0; city_if = tt; more = past_city (TextsLeft (ItemsLeft Debits s) q) Debits rs r; equal = refl }
edge (debit_reference {c}) s rs x o r =
    let More = ItemsLeft Debits s in
    no_city_lem (TextsLeft More fresh) Debits c ((PaymentReference, x) ∷ rs) (reference_edge More rs x o.fits.0 (past_city (TextsLeft More (left 3)) Debits rs r))
edge (debit_description {c}) s rs x o r =
    let More = ItemsLeft Debits s in
    no_city_lem (TextsLeft More fresh) Debits c ((Description, x) ∷ rs) (description_edge More rs x o.fits.0 (past_city (TextsLeft More (left 3)) Debits rs r))
edge (debit_description_more {c} {m}) s rs x o r =
    let More = ItemsLeft Debits s in
    no_city_lem (TextsLeft More (left (suc m))) Debits c ((Description, x) ∷ rs) (description_more More m rs x o.fits.0 (past_city (TextsLeft More (left m)) Debits rs r))
edge (file_trailer {o = u}) s rs x o r = let m = some_group u in (m.0, m.1, record { batches = []; batches_ok = tt; batches_some = omega arith; equal = ap (λ k. (FileTrailer, x) ∷ k) r })

rest_of : {s : State} {rs : List Rec} → Path s rs → Rest s rs
rest_of end = refl
rest_of (go {s = s} {rs} k x pl o q) = edge pl s rs x o (rest_of q)

pub sound : (rs : List Rec) → Path begin rs → (f : File) × Valid f × (rs ≡ file_recs f)
sound rs q =
    let r = rest_of q in
    let h = r.header in
    let b = r.more.2 in (
      record { created = creation_date h; sender = sender h; identification = identification h; duplicate = duplicate_code h; group = r.more.0; batches = b.batches },
      record { header_ok = r.header_ok; some_batch = b.batches_some; batches_ok = b.batches_ok },
      r.equal ∙ ap (λ k. file_header_rec (creation_date h) (sender h) (identification h) (duplicate_code h) ∷ k) b.equal,
    )
