-- LIVE: from every state that the reader comes to, there is a way to the end.
use mathlib.Core.Path.{◌≡◌, refl, sym, subst}
use mathlib.Core.Bool.{Bool, true, false, ◌||◌}
use mathlib.Core.List.{List, [], ◌∷◌}
use mathlib.Core.Option.{Option, none, some}
use Prim.Native.Nat.{ℕ, ◌+◌, ◌<◌}
use native.Mathlib.Omega.{arith}
use lib.ListN.{replicate}
use lib.Dec.{T, leb, leb→le, ltb→lt, eqb_refl}
use Rattle.machine.specs.Lists.{pick, same}
use Rattle.machine.specs.Digits.{value_after}
use Rattle.format.specs.Fields.{filled, Fit}
use Rattle.format.specs.Records.{layout, Fields, ordering_account, unidentified, type, amount, payer, beneficiary}
use Rattle.format.specs.Rules.{max_amount, max_total, max_items, max_account, max_fixed, is_test_code, days_in, is_date, is_desired_date, is_identification, is_of_day, weighted, is_eleven, is_ordering_account, is_account, is_own_if, is_seven_if, is_name_code_in, same_group, type_text, type_of, is_type_in, is_unchecked_type}
use Rattle.format.specs.Language.{Item, Rec, file_header_rec, file_trailer_recs, In, other_party, NameOk, ItemOk, Before, none_before, after_that, Follows, BatchHeaderOk, OrderingPartyOk}
use Rattle.format.specs.Tests.{batch_header_tests, transaction_tests}
use Rattle.format.specs.declared.Kind.{Kind}
use Rattle.format.specs.declared.Kind.TheVariants.{FileHeader, BatchHeaderB, Transaction, NamePayer, NameBeneficiary}
use Rattle.format.specs.declared.Group.{Group}
use Rattle.format.specs.declared.Group.TheVariants.{Payments, Debits}
use Rattle.format.specs.declared.TransactionType.{TransactionType}
use Rattle.format.specs.declared.TransactionType.TheVariants.{Creditor, Debit}
use Rattle.format.proofs.Checks.{Holds, Pass}
use Rattle.format.proofs.Reader.{Room, Phase, start, headed, opened, ordered, paying, paid, owing, owed, closed, done, Context, State, at, new_batch, no_batch, MayEnd, unnamed_payment, named_payment, open_debit, Place, file_header, first_batch_b, first_batch_c, next_batch_b, next_batch_c, fixed_description, ordering_party, first_item, next_item, batch_trailer, payment_reference, payment_description, payment_description_more, beneficiary_name, beneficiary_city, payer_name, payer_city, debit_reference, debit_description, debit_description_more, file_trailer, opens, add_item, begin_item, begin_batch, advance, maxima, Ok, Path, end, go}
use Rattle.format.proofs.Sound.{in_range→In, some_group}
use Rattle.format.proofs.Complete.{items_path, first_items_path, party_path, first_batch_path, trailer_path}

-- ## What holds in each phase

-- a batch with no items yet
abbrev Fresh : Context → Type 0
Fresh s = In 1 max_account s.account × T (is_ordering_account s.account) × (s.total ≡ 0) × (s.accounts ≡ 0) × (s.count ≡ 0)

-- and one with some
abbrev Going : Context → Type 0
Going s = In 1 max_total s.total × (s.accounts < 10000000000) × In 1 max_items s.count

abbrev pub Invariant : State → Type 0
Invariant (at (start o) s) = s.before ≡ none_before
Invariant (at (headed o) s) = s.before ≡ none_before
Invariant (at (opened g n) s) = Fresh s
Invariant (at (ordered g) s) = Fresh s
Invariant (at (paying n r) s) = Going s
Invariant (at (paid c) s) = Going s
Invariant (at (owing r) s) = Going s
Invariant (at (owed c r) s) = Going s
Invariant (at (closed o) s) = Unit {0}
Invariant (at done s) = Unit {0}

going : (g : Group) (n : Bool) (s : Context) → Going s → Invariant (at (opens g n) s)
going Payments n s h = h
going Debits true s h = h
going Debits false s h = h

item_begun : (g : Group) (s : Context) (x : Fields Transaction) → Holds (layout Transaction) (transaction_tests g s.account x) → Pass (maxima Transaction s x) → Invariant (begin_item g s x)
item_begun g s x h m =
    let c = ltb→lt s.count max_items m.0 in
    let t = leb→le (s.total + amount x) max_total m.1.0 in
    let n = in_range→In 1 max_amount (amount x) h.1.0.0 in
    going g (is_unchecked_type (type_of (type x))) (add_item s (amount x) (payer x) (beneficiary x)) (omega arith)

batch_begun : (o : Option Group) (s : Context) (x : Fields BatchHeaderB) → Holds (layout BatchHeaderB) (batch_header_tests o s.before.sequence x) → Invariant (begin_batch s x)
batch_begun o s x h = (in_range→In 1 max_account (ordering_account x) h.1.0.0, h.1.0.1.0, refl, refl, refl)

pub invariant_kept : {p : Phase} {k : Kind} (pl : Place p k) (s : Context) (x : Fields k) → Ok pl s x → Invariant (at p s) → Invariant (advance pl s x)
invariant_kept file_header s x o i = i
invariant_kept (first_batch_b {o = u}) s x o i = batch_begun u s x o.holds
invariant_kept (first_batch_c {o = u}) s x o i = batch_begun u s (unidentified x) o.holds
invariant_kept (next_batch_b {o = u}) s x o i = batch_begun u s x o.holds
invariant_kept (next_batch_c {o = u}) s x o i = batch_begun u s (unidentified x) o.holds
invariant_kept fixed_description s x o i = i
invariant_kept ordering_party s x o i = i
invariant_kept (first_item {g}) s x o i = item_begun g s x o.holds o.max
invariant_kept (next_item {g = g} e) s x o i = item_begun g s x o.holds o.max
invariant_kept (batch_trailer e) s x o i = tt
invariant_kept payment_reference s x o i = i
invariant_kept payment_description s x o i = i
invariant_kept payment_description_more s x o i = i
invariant_kept beneficiary_name s x o i = i
invariant_kept beneficiary_city s x o i = i
invariant_kept payer_name s x o i = i
invariant_kept payer_city s x o i = i
invariant_kept debit_reference s x o i = i
invariant_kept debit_description s x o i = i
invariant_kept debit_description_more s x o i = i
invariant_kept file_trailer s x o i = tt

-- ## Ways to the end

abbrev Way : State → Type 0
Way s = (rs : List Rec) × Path s rs

from_item : (g : Group) (p : Phase) → MayEnd p g → (s : Context) → Going s → Way (at p s)
from_item g p e s h = (_, items_path g [] p e s [] tt (omega arith) (omega arith) h.1 (trailer_path (some g) (no_batch s.before)))

abbrev letters : ℕ → List ℕ
letters n = replicate n 65

from_paying : (n : Bool) (r : Room) (s : Context) → Going s → Way (at (paying n r) s)
from_paying true r s h =
    let q = from_item Payments (paid true) named_payment s h in
    (_, go {s = s} NameBeneficiary (letters 35, (tt, tt)) beneficiary_name (record { fits = ((refl, tt), (tt, tt)); holds = (tt, (tt, tt)); max = tt }) q.1)
from_paying false r s h = from_item Payments (paying false r) unnamed_payment s h

from_owing : (r : Room) (s : Context) → Going s → Way (at (owing r) s)
from_owing r s h =
    let q = from_item Debits (owed true r) open_debit s h in
    (_, go {s = s} NamePayer (letters 35, (tt, tt)) payer_name (record { fits = ((refl, tt), (tt, tt)); holds = (tt, (tt, tt)); max = tt }) q.1)

-- a first item of each group, between the ordering account and itself
a_type : Group → TransactionType
a_type Payments = Creditor
a_type Debits = Debit

an_item : Group → ℕ → Item
an_item g own = record { type = type_text (a_type g); amount = 1; payer = own; beneficiary = own; reference = none; descriptions = []; name = none }

own_party : (mine : Bool) (own : ℕ) → T (is_own_if mine own own)
unfolding is_own_if
own_party true own = eqb_refl own
own_party false own = tt

type_fits : (g : Group) → Fit (filled 4) (type_text (a_type g))
unfolding a_type
type_fits Payments = (refl, tt)
type_fits Debits = (refl, tt)

type_in : (g : Group) → T (is_type_in g (type_of (type_text (a_type g))))
unfolding a_type type_of pick same
type_in Payments = tt
type_in Debits = tt

nameless : (g : Group) → NameOk (is_unchecked_type (type_of (type_text (a_type g)))) none
unfolding a_type type_of pick same
nameless Payments = tt
nameless Debits = tt

-- of a checked type, so to any account
other_any : (g : Group) (n : ℕ) → T (is_seven_if (is_unchecked_type (type_of (type_text (a_type g)))) n)
unfolding a_type is_seven_if type_of pick same
other_any Payments n = tt
other_any Debits n = tt

or_r : (a b : Bool) → T b → T (a || b)
or_r true b t = tt
or_r false b t = t

is_account_lem : (n : ℕ) → T (is_ordering_account n) → T (is_account n)
unfolding is_account
is_account_lem n h = or_r (leb n 9999999) (is_ordering_account n) h

item_ok : (g : Group) (own : ℕ) → In 1 max_account own → T (is_ordering_account own) → ItemOk g own (an_item g own)
unfolding an_item
item_ok g own h o =
    record {
      transaction_ok =
          record {
            type_fits = type_fits g;
            type_in = type_in g;
            amount_in = omega arith;
            payer_in = h;
            payer_ok = is_account_lem own o;
            beneficiary_in = h;
            beneficiary_ok = is_account_lem own o;
            own_payer = own_party (same_group Payments g) own;
            own_beneficiary = own_party (same_group Debits g) own;
            other_ok = other_any g (other_party g own own);
          };
      reference_ok = tt;
      descriptions_ok = tt;
      room = omega arith;
      name_ok = nameless g;
    }

from_new : (g : Group) (own : ℕ) (q : Before) → In 1 max_account own → T (is_ordering_account own) → Way (at (ordered g) (new_batch own q))
unfolding an_item
from_new g own q h o = (_, first_items_path g own q (an_item g own ∷ []) [] (item_ok g own h o, tt) (omega arith) (omega arith) (trailer_path (some g) (no_batch q)))

from_ordered : (g : Group) (s : Context) → Fresh s → Way (at (ordered g) s)
from_ordered g s h = subst (λ u. Way (at (ordered g) u)) is_new (from_new g s.account s.before h.0 h.1)
  where
    is_new : new_batch s.account s.before ≡ s
    is_new = λ i. record { account = s.account; before = s.before; total = sym h.2 i; accounts = sym h.3 i; count = sym h.4 i }

code_one : (g : Group) → T (is_name_code_in g 1)
unfolding is_name_code_in
code_one Payments = tt
code_one Debits = tt

a_party : (g : Group) → OrderingPartyOk g 1 0 (letters 35) (80 ∷ [])
unfolding is_desired_date is_test_code same
a_party g =
    record { code_in = omega arith; code_ok = code_one g; desired_small = omega arith; desired_ok = tt; name_fits = (refl, tt); test_fits = (refl, tt); test_ok = tt }

from_opened : (g : Group) (n : ℕ) (s : Context) → Fresh s → Way (at (opened g n) s)
from_opened g n s h = let q = from_ordered g s h in (_, party_path g s n 1 0 (letters 35) (80 ∷ []) q.0 (a_party g) q.1)

an_account : T (is_ordering_account 123456789)
unfolding is_ordering_account is_eleven weighted
an_account = tt

a_header : (p : Before) → p ≡ none_before → BatchHeaderOk p 123456789 1 none
a_header p e =
    record { account_in = omega arith; account_ok = an_account; sequence_in = omega arith; sequence_follows = subst (λ (n : Before). Follows n.sequence 1) (sym e) tt; identification_ok = tt }

from_headed : (o : Option Group) (s : Context) → s.before ≡ none_before → Way (at (headed o) s)
from_headed o s e =
    let m = some_group o in
    let q = from_opened m.0 max_fixed (new_batch 123456789 (after_that s.before 1)) (omega arith, an_account, refl, refl, refl) in
    (_, first_batch_path o m.0 m.1 s 123456789 1 q.0 q.1 none (a_header s.before e))

-- the first of January 2009, and the first file of that day
from_start_lem : (o : Option Group) (s : Context) → s.before ≡ none_before → Way (at (start o) s)
unfolding is_date days_in is_identification is_of_day value_after pick same
from_start_lem o s e =
    let q = from_headed o s e in (
      _,
      go {s = s} FileHeader (file_header_rec 10109 (letters 5) (48 ∷ 49 ∷ 48 ∷ 49 ∷ []) 1).1 file_header
          (record {
            fits = (omega arith, ((refl, tt), ((refl, tt), ((refl, tt), (omega arith, (tt, tt))))));
            holds = ((tt, tt), ((tt, tt), (tt, ((tt, (tt, tt)), ((tt, tt), (tt, tt))))));
            max = tt;
          }) q.1,
    )

pub live : (s : State) → Invariant s → (rs : List Rec) × Path s rs
live (at (start o) s) i = from_start_lem o s i
live (at (headed o) s) i = from_headed o s i
live (at (opened g n) s) i = from_opened g n s i
live (at (ordered g) s) i = from_ordered g s i
live (at (paying n r) s) i = from_paying n r s i
live (at (paid c) s) i = from_item Payments (paid c) named_payment s i
live (at (owing r) s) i = from_owing r s i
live (at (owed c r) s) i = from_item Debits (owed c r) open_debit s i
live (at (closed o) s) i = (file_trailer_recs, trailer_path o s)
live (at done s) i = ([], end)
