-- COMPLETE: the reader takes the records of a valid file to its end.
use Rattle.std.specs.Prelude.{Some, None}
use mathlib.Core.Path.{◌≡◌, refl, sym, ap, ◌∙◌, subst}
use mathlib.Core.Bool.{Bool, true, false, not, ◌&&◌, ◌||◌}
use mathlib.Core.List.{List, [], ◌∷◌}
use mathlib.Core.Option.{Option, none, some}
use Prim.Native.Nat.{ℕ, zero, suc, ◌+◌, ◌≤◌, ◌<◌}
use native.Mathlib.Omega.{arith}
use native.Mathlib.Nat.{zero-add, mod-eq_of_lt}
use lib.ListN.{length}
use lib.Dec.{T, leb, eqb, le→leb, lt→ltb, eqb_refl, eqb-suc-zero}
use Rattle.machine.specs.Lists.{same, in_range}
use Rattle.machine.proofs.Base.{and_i, same_refl}
use Rattle.format.specs.Fields.{filled, Fit, Fits}
use Rattle.format.specs.Records.{layout, Fields}
use Rattle.format.specs.Rules.{max_amount, max_total, max_items, max_account, max_sequence, max_fixed, most_descriptions, CLIEOP03, EUR, is_seven_if, same_group, group_text, is_group, group_of, type_of, is_type, is_type_in, is_unchecked_type, TypeRead}
use Rattle.format.specs.Language.{Name, Item, Batch, File, total_of, accounts_of, ten_digits, Rec, file_header_rec, batch_header_rec, fixed_recs, ordering_party_rec, transaction_rec, reference_recs, description_recs, city_recs, name_recs, item_recs, batches_recs, file_trailer_recs, file_recs, In, other_party, TransactionOk, ReferenceOk, DescriptionsOk, CityOk, NameOk, is_some, ItemOk, ItemsOk, Before, none_before, after_that, Follows, BatchHeaderOk, OrderingPartyOk, BatchOk, BatchesOk, Valid}
use Rattle.format.specs.Tests.{is_next, same_group_tests, batch_header_tests, transaction_tests}
use Rattle.format.specs.declared.Kind.TheVariants.{FileHeader, BatchHeaderB, BatchHeaderC, FixedDescription, OrderingParty, Transaction, NamePayer, CityPayer, PaymentReference, Description, NameBeneficiary, CityBeneficiary, BatchTrailer, FileTrailer}
use Rattle.format.specs.declared.Group.{Group}
use Rattle.format.specs.declared.Group.TheVariants.{Payments, Debits}
use Rattle.format.proofs.Checks.{Hold, Holds, Pass}
use Rattle.format.proofs.Reader.{Room, fresh, left, Phase, headed, opened, ordered, paying, paid, owed, closed, Context, at, new_batch, no_batch, begin, MayEnd, unnamed_payment, named_payment, open_debit, file_header, first_batch_b, first_batch_c, next_batch_b, next_batch_c, fixed_description, ordering_party, first_item, next_item, batch_trailer, payment_reference, payment_description, payment_description_more, beneficiary_name, beneficiary_city, payer_name, payer_city, debit_reference, debit_description, debit_description_more, file_trailer, opens, add_item, maxima, Path, end, go}
use Rattle.format.proofs.Sound.{Agree, trailed, further_items, trailed_same, item_taken, group_back}

In→in_range : (low high n : ℕ) → In low high n → T (in_range low high n)
In→in_range low high n h = and_i (leb low n) (leb n high) (le→leb low n h.0) (le→leb n high h.1)

eq→eqb : (m n : ℕ) → m ≡ n → T (eqb m n)
eq→eqb m n e = subst (λ k. T (eqb m k)) e (eqb_refl m)

Follows→isNext : (p n : ℕ) → Follows p n → T (is_next p n)
Follows→isNext zero n h = tt
Follows→isNext (suc p) n h = subst (λ b. T (b || eqb n (suc (suc p)))) (sym (eqb-suc-zero p)) (eq→eqb n (suc (suc p)) h)

-- ## The texts of an item, in either group

record Texts (s : Context) (f h : Room → Phase) : Type 0 where
  reference_step : (t : List ℕ) (k : List Rec) → Fit (filled 16) t → Path (at (h (left 3)) s) k → Path (at (f fresh) s) ((PaymentReference, (t, (tt, tt))) ∷ k)
  first_step : (t : List ℕ) (k : List Rec) → Fit (filled 32) t → Path (at (h (left 3)) s) k → Path (at (f fresh) s) ((Description, (t, (tt, tt))) ∷ k)
  next_step : (m : ℕ) (t : List ℕ) (k : List Rec) → Fit (filled 32) t → Path (at (h (left m)) s) k → Path (at (h (left (suc m))) s) ((Description, (t, (tt, tt))) ∷ k)

payment_texts : (s : Context) (n : Bool) → Texts s (paying n) (paying n)
payment_texts s n =
    record {
      reference_step = λ t k h q. go PaymentReference (t, (tt, tt)) payment_reference (record { fits = (h, (tt, tt)); holds = (tt, (tt, tt)); max = tt }) q;
      first_step = λ t k h q. go Description (t, (tt, tt)) payment_description (record { fits = (h, (tt, tt)); holds = (tt, (tt, tt)); max = tt }) q;
      next_step = λ m t k h q. go Description (t, (tt, tt)) payment_description_more (record { fits = (h, (tt, tt)); holds = (tt, (tt, tt)); max = tt }) q;
    }

debit_texts : (s : Context) (c : Bool) → Texts s (owed c) (owed false)
debit_texts s c =
    record {
      reference_step = λ t k h q. go PaymentReference (t, (tt, tt)) debit_reference (record { fits = (h, (tt, tt)); holds = (tt, (tt, tt)); max = tt }) q;
      first_step = λ t k h q. go Description (t, (tt, tt)) debit_description (record { fits = (h, (tt, tt)); holds = (tt, (tt, tt)); max = tt }) q;
      next_step = λ m t k h q. go Description (t, (tt, tt)) debit_description_more (record { fits = (h, (tt, tt)); holds = (tt, (tt, tt)); max = tt }) q;
    }

module _ {s : Context} {f h : Room → Phase} (B : Texts s f h) (k : List Rec) (kf : (r : Room) → Path (at (f r) s) k) (kh : (r : Room) → Path (at (h r) s) k) where
  descriptions_path : (ds : List (List ℕ)) (m : ℕ) → length ds ≤ m → DescriptionsOk ds → Path (at (h (left m)) s) (description_recs ds k)
  descriptions_path [] m l o = kh (left m)
  descriptions_path (t ∷ ts) zero l o = absurd (omega arith)
  descriptions_path (t ∷ ts) (suc m) l o = B.next_step m t (description_recs ts k) o.0 (descriptions_path ts m (omega arith) o.1)

  texts_path : (reference : Option (List ℕ)) (ds : List (List ℕ)) → length ds ≤ most_descriptions (is_some reference) → ReferenceOk reference → DescriptionsOk ds → Path (at (f fresh) s) (reference_recs reference (description_recs ds k))
  texts_path (some t) ds l r o = B.reference_step t (description_recs ds k) r (descriptions_path ds 3 (omega arith) o)
  texts_path none [] l r o = kf fresh
  texts_path none (t ∷ ts) l r o = B.first_step t (description_recs ts k) o.0 (descriptions_path ts 3 (omega arith) o.1)

-- ## Its name and city

module _ (s : Context) (k : List Rec) where
  beneficiary_city_path : (c : Option (List ℕ)) → CityOk c → ((p : Phase) → MayEnd p Payments → Path (at p s) k) → Path (at (paid true) s) (city_recs Payments c k)
  beneficiary_city_path none o q = q (paid true) named_payment
  beneficiary_city_path (some t) o q = go CityBeneficiary (t, tt) beneficiary_city (record { fits = (o, tt); holds = (tt, tt); max = tt }) (q (paid false) named_payment)

  beneficiary_path : (n : Bool) (m : Option Name) → NameOk n m → ((p : Phase) → MayEnd p Payments → Path (at p s) k) → (r : Room) → Path (at (paying n r) s) (name_recs Payments m k)
  beneficiary_path true none o q r = absurd o
  beneficiary_path true (some m) o q r = go NameBeneficiary (m.text, (tt, tt)) beneficiary_name (record { fits = (o.0, (tt, tt)); holds = (tt, (tt, tt)); max = tt }) (beneficiary_city_path m.city o.1 q)
  beneficiary_path false none o q r = q (paying false r) unnamed_payment
  beneficiary_path false (some m) o q r = absurd o

  payer_city_path : (c : Option (List ℕ)) → CityOk c → ((c : Bool) → Path (at (owed c fresh) s) k) → Path (at (owed true fresh) s) (city_recs Debits c k)
  payer_city_path none o q = q true
  payer_city_path (some t) o q = go CityPayer (t, tt) payer_city (record { fits = (o, tt); holds = (tt, tt); max = tt }) (q false)

  payer_path : (n : Bool) (m : Option Name) → NameOk n m → ((c : Bool) → Path (at (owed c fresh) s) k) → Path (at (opens Debits n) s) (name_recs Debits m k)
  payer_path true none o q = absurd o
  payer_path true (some m) o q = go NamePayer (m.text, (tt, tt)) payer_name (record { fits = (o.0, (tt, tt)); holds = (tt, (tt, tt)); max = tt }) (payer_city_path m.city o.1 q)
  payer_path false none o q = q false
  payer_path false (some m) o q = absurd o

-- ## Items

item_path : (g : Group) (s : Context) (i : Item) (k : List Rec) → {own : ℕ} → ItemOk g own i → ((p : Phase) → MayEnd p g → Path (at p s) k) → Path (at (opens g (is_unchecked_type (type_of i.type))) s) (item_recs g i k)
item_path Payments s i k o q =
    let n = is_unchecked_type (type_of i.type) in
    let named = beneficiary_path s k n i.name o.name_ok q in
    texts_path (payment_texts s n) (name_recs Payments i.name k) named named i.reference i.descriptions o.room o.reference_ok o.descriptions_ok
item_path Debits s i k o q =
    payer_path s (reference_recs i.reference (description_recs i.descriptions k)) (is_unchecked_type (type_of i.type)) i.name o.name_ok
    (λ c. texts_path (debit_texts s c) k (λ r. q (owed c r) open_debit) (λ r. q (owed false r) open_debit) i.reference i.descriptions o.room o.reference_ok o.descriptions_ok)

abbrev fields_of : Item → Fields Transaction
fields_of i = (transaction_rec i).1

is_type_lem : (g : Group) (t : TypeRead) → T (is_type_in g t) → T (is_type t)
is_type_lem g (Some y) h = tt
is_type_lem g None h = absurd h

module _ (unchecked : Bool) (i : Item) where
  payer_seven : (g : Group) → T (is_seven_if unchecked (other_party g i.payer i.beneficiary)) → T (is_seven_if (not (same_group Payments g) && unchecked) i.payer)
  unfolding is_seven_if
  payer_seven Payments h = tt
  payer_seven Debits h = h

  beneficiary_seven : (g : Group) → T (is_seven_if unchecked (other_party g i.payer i.beneficiary)) → T (is_seven_if (not (same_group Debits g) && unchecked) i.beneficiary)
  unfolding is_seven_if
  beneficiary_seven Payments h = h
  beneficiary_seven Debits h = tt

transaction_holds : (g : Group) (own : ℕ) (i : Item) → TransactionOk g own i.type i.amount i.payer i.beneficiary → Holds (layout Transaction) (transaction_tests g own (fields_of i))
transaction_holds g own i o = let u = is_unchecked_type (type_of i.type) in (
  (is_type_lem g (type_of i.type) o.type_in, (o.type_in, tt)),
  (
    (In→in_range 1 max_amount i.amount o.amount_in, tt),
    (
      (In→in_range 1 max_account i.payer o.payer_in, (o.payer_ok, (o.own_payer, (payer_seven u i g o.other_ok, tt)))),
      ((In→in_range 1 max_account i.beneficiary o.beneficiary_in, (o.beneficiary_ok, (o.own_beneficiary, (beneficiary_seven u i g o.other_ok, tt)))), (tt, tt)),
    ),
  ),
)

transaction_fits : (g : Group) (own : ℕ) (i : Item) → TransactionOk g own i.type i.amount i.payer i.beneficiary → Fits (layout Transaction) (fields_of i)
transaction_fits g own i o = (o.type_fits, (omega (arith, o.amount_in), (omega (arith, o.payer_in), (omega (arith, o.beneficiary_in), (tt, tt)))))

transaction_max : (s : Context) (i : Item) → s.count < max_items → s.total + i.amount ≤ max_total → Pass (maxima Transaction s (fields_of i))
transaction_max s i c t = (lt→ltb s.count max_items c, (le→leb (s.total + i.amount) max_total t, tt))

abbrev taken : Context → Item → Context
taken s i = add_item s i.amount i.payer i.beneficiary

pub items_path : (g : Group) (is : List Item) (p : Phase) → MayEnd p g → (s : Context) (bs : List Batch) → ItemsOk g s.account is → In 1 max_items (s.count + length is) → In 1 max_total (s.total + total_of is)
    → s.accounts < 10000000000 → Path (at (closed (some g)) (no_batch s.before)) (batches_recs g bs file_trailer_recs) → Path (at p s) (further_items g s is bs)
items_path g [] p e s bs o h j a r =
    let near : s.accounts + 0 < 10000000000 = omega arith in
    let accounts : ten_digits (s.accounts + 0) ≡ s.accounts = mod-eq_of_lt near ∙ omega arith in
    let small : ten_digits (s.accounts + 0) < 10000000000 = omega arith in
    go BatchTrailer (s.total + 0, (ten_digits (s.accounts + 0), (s.count + 0, (tt, tt)))) (batch_trailer e)
    (record {
      fits = (omega arith, (small, (omega arith, (tt, tt))));
      holds = (
        (In→in_range 1 max_total (s.total + 0) j, (eq→eqb (s.total + 0) s.total (omega arith), tt)),
        ((eq→eqb _ s.accounts accounts, tt), ((In→in_range 1 max_items (s.count + 0) h, (eq→eqb (s.count + 0) s.count (omega arith), tt)), (tt, tt))),
      );
      max = tt;
    }) r
items_path g (i ∷ is) p e s bs o h j a r =
    go Transaction (fields_of i) (next_item e)
    (record { fits = transaction_fits g s.account i o.0.transaction_ok; holds = transaction_holds g s.account i o.0.transaction_ok; max = transaction_max s i (omega arith) (omega arith) })
    (item_path g (taken s i) i _ o.0
    (λ p' e'. subst (Path (at p' (taken s i))) (item_taken g s i is bs) (items_path g is p' e' (taken s i) bs o.1 (omega arith) (omega arith) (omega arith) r)))

pub first_items_path : (g : Group) (own : ℕ) (q : Before) (is : List Item) (bs : List Batch) → ItemsOk g own is → In 1 max_items (length is) → total_of is ≤ max_total
    → Path (at (closed (some g)) (no_batch q)) (batches_recs g bs file_trailer_recs) → Path (at (ordered g) (new_batch own q)) (trailed g is (total_of is) (ten_digits (accounts_of is)) (length is) bs)
first_items_path g own q [] bs o h j r = absurd (omega arith)
first_items_path g own q (i ∷ is) bs o h j r =
    let s = new_batch own q in
    let t = o.0.transaction_ok in
    let a = t.amount_in in
    go Transaction (fields_of i) first_item (record { fits = transaction_fits g own i t; holds = transaction_holds g own i t; max = transaction_max s i (omega arith) (omega arith) })
    (item_path g (taken s i) i _ o.0
    (λ p' e'. subst (Path (at p' (taken s i))) (item_taken g s i is bs ∙ trailed_same g is bs (zero-add _) (ap ten_digits (zero-add _)) (zero-add _))
    (items_path g is p' e' (taken s i) bs o.1 (omega arith) (omega arith) (omega arith) r)))

-- ## A batch: its ordering party, its fixed descriptions, its header

pub party_path : (g : Group) (s : Context) (n code desired : ℕ) (name test : List ℕ) (k : List Rec) → OrderingPartyOk g code desired name test → Path (at (ordered g) s) k
    → Path (at (opened g n) s) (ordering_party_rec code desired name test ∷ k)
party_path g s n code desired name test k o q =
    go OrderingParty (ordering_party_rec code desired name test).1 ordering_party
    (record {
      fits = (omega (arith, o.code_in), (o.desired_small, (o.name_fits, (o.test_fits, (tt, tt)))));
      holds = ((In→in_range 1 2 code o.code_in, (o.code_ok, tt)), ((o.desired_ok, tt), (tt, ((o.test_ok, tt), (tt, tt)))));
      max = tt;
    }) q

fixed_path : (g : Group) (s : Context) (fx : List (List ℕ)) (n : ℕ) (k : List Rec) → length fx ≤ n → DescriptionsOk fx → ((m : ℕ) → Path (at (opened g m) s) k) → Path (at (opened g n) s) (fixed_recs fx k)
fixed_path g s [] n k l o q = q n
fixed_path g s (t ∷ ts) zero k l o q = absurd (omega arith)
fixed_path g s (t ∷ ts) (suc n) k l o q = go FixedDescription (t, (tt, tt)) fixed_description (record { fits = (o.0, (tt, tt)); holds = (tt, (tt, tt)); max = tt }) (fixed_path g s ts n k (omega arith) o.1 q)

-- what follows its header
opened_path : (g : Group) (p : Before) (b : Batch) (bs : List Batch) → BatchOk g p b → Path (at (closed (some g)) (no_batch (after_that p b.sequence))) (batches_recs g bs file_trailer_recs)
    → Path (at (opened g max_fixed) (new_batch b.account (after_that p b.sequence)))
    (fixed_recs b.fixed
    (ordering_party_rec b.name_code b.desired b.party b.test_code ∷ trailed g b.items (total_of b.items) (ten_digits (accounts_of b.items)) (length b.items) bs))
opened_path g p b bs o r =
    let s = new_batch b.account (after_that p b.sequence) in
    fixed_path g s b.fixed max_fixed _ o.fixed_max o.fixed_ok
    (λ m. party_path g s m b.name_code b.desired b.party b.test_code _ o.party_ok
    (first_items_path g b.account (after_that p b.sequence) b.items bs o.items_ok o.items_in o.total_max r))

group_fits : (g : Group) → Fit (filled 2) (group_text g)
group_fits Payments = (refl, tt)
group_fits Debits = (refl, tt)

group_is : (g : Group) → T (is_group (group_text g))
unfolding same
group_is Payments = tt
group_is Debits = tt

agree_holds : (o : Option Group) (g : Group) → Agree o g → Hold (same_group_tests o (group_text g))
agree_holds none g e = tt
agree_holds (some h) g e = (subst (λ k. T (same (group_text g) (group_text k))) (sym e) (same_refl (group_text g)), tt)

abbrev header_of : Group → ℕ → ℕ → Fields BatchHeaderB
header_of g account number = (batch_header_rec g account number none).1

header_holds : (o : Option Group) (g : Group) → Agree o g → (p : Before) (account number : ℕ) {i : Option (List ℕ)} → BatchHeaderOk p account number i → Holds (layout BatchHeaderB) (batch_header_tests o p.sequence (header_of g account number))
header_holds o g e p account number h = (
  (group_is g, agree_holds o g e),
  (
    (In→in_range 1 max_account account h.account_in, (h.account_ok, tt)),
    ((In→in_range 1 max_sequence number h.sequence_in, (Follows→isNext p.sequence number h.sequence_follows, tt)), ((same_refl EUR, tt), (tt, (tt, tt)))),
  ),
)

header_fits_b : (g : Group) (p : Before) (account number : ℕ) → BatchHeaderOk p account number none → Fits (layout BatchHeaderB) (header_of g account number)
header_fits_b g p account number h = (group_fits g, (omega (arith, h.account_in), (omega (arith, h.sequence_in), ((refl, tt), (tt, (tt, tt))))))

header_fits_c : (g : Group) (p : Before) (account number : ℕ) (t : List ℕ) → BatchHeaderOk p account number (some t) → Fits (layout BatchHeaderC) (batch_header_rec g account number (some t)).1
header_fits_c g p account number t h = (group_fits g, (omega (arith, h.account_in), (omega (arith, h.sequence_in), ((refl, tt), (h.identification_ok, (tt, tt))))))

module _ (o : Option Group) (g : Group) (e : Agree o g) (s : Context) (account number : ℕ) (k : List Rec) (r : Path (at (opened g max_fixed) (new_batch account (after_that s.before number))) k) where
  begun : Path (at (opened (group_of (group_text g)) max_fixed) (new_batch account (after_that s.before number))) k
  begun = subst (λ h. Path (at (opened h max_fixed) (new_batch account (after_that s.before number))) k) (sym (group_back g)) r

  pub first_batch_path : (i : Option (List ℕ)) → BatchHeaderOk s.before account number i → Path (at (headed o) s) (batch_header_rec g account number i ∷ k)
  first_batch_path none h = go BatchHeaderB _ first_batch_b (record { fits = header_fits_b g s.before account number h; holds = header_holds o g e s.before account number h; max = tt }) begun
  first_batch_path (some t) h = go BatchHeaderC _ first_batch_c (record { fits = header_fits_c g s.before account number t h; holds = header_holds o g e s.before account number h; max = tt }) begun

  next_batch_path : (i : Option (List ℕ)) → BatchHeaderOk s.before account number i → Path (at (closed o) s) (batch_header_rec g account number i ∷ k)
  next_batch_path none h = go BatchHeaderB _ next_batch_b (record { fits = header_fits_b g s.before account number h; holds = header_holds o g e s.before account number h; max = tt }) begun
  next_batch_path (some t) h = go BatchHeaderC _ next_batch_c (record { fits = header_fits_c g s.before account number t h; holds = header_holds o g e s.before account number h; max = tt }) begun

-- ## The file

pub trailer_path : (o : Option Group) (s : Context) → Path (at (closed o) s) file_trailer_recs
trailer_path o s = go FileTrailer (tt, tt) file_trailer (record { fits = (tt, tt); holds = (tt, tt); max = tt }) end

closed_path : (g : Group) (p : Before) (bs : List Batch) → BatchesOk g p bs → Path (at (closed (some g)) (no_batch p)) (batches_recs g bs file_trailer_recs)
closed_path g p [] o = trailer_path (some g) (no_batch p)
closed_path g p (b ∷ bs) o =
    next_batch_path (some g) g refl (no_batch p) b.account b.sequence _ (opened_path g p b bs o.0 (closed_path g (after_that p b.sequence) bs o.1)) b.identification o.0.header_ok

headed_path : (g : Group) (p : Before) (bs : List Batch) → 1 ≤ length bs → BatchesOk g p bs → Path (at (headed none) (no_batch p)) (batches_recs g bs file_trailer_recs)
headed_path g p [] h o = absurd (omega arith)
headed_path g p (b ∷ bs) h o =
    first_batch_path none g tt (no_batch p) b.account b.sequence _ (opened_path g p b bs o.0 (closed_path g (after_that p b.sequence) bs o.1)) b.identification o.0.header_ok

pub complete : (f : File) → Valid f → Path begin (file_recs f)
complete f v =
    let o = v.header_ok in
    go FileHeader (file_header_rec f.created f.sender f.identification f.duplicate).1 file_header
    (record {
      fits = (o.date_small, ((refl, tt), (o.sender_fits, (o.identification_fits, (omega (arith, o.duplicate_in), (tt, tt))))));
      holds = (
        (o.date_ok, tt),
        ((same_refl CLIEOP03, tt), (tt, ((o.identification_ok, (o.identification_day, tt)), ((In→in_range 1 2 f.duplicate o.duplicate_in, tt), (tt, tt))))),
      );
      max = tt;
    })
    (headed_path f.group none_before f.batches v.some_batch v.batches_ok)
