-- The reader as the theorem knows it: its phases, THE ORDER OF RECORDS as an edge for each record that may follow, and what it does with a line. A device of the proof: the code has its own state, and is shown to go where this one goes.
use mathlib.Core.Bool.{Bool, true, false, cond}
use mathlib.Core.List.{List, [], ◌∷◌}
use mathlib.Core.Option.{Option, none, some}
use Prim.Native.Nat.{ℕ, zero, suc, ◌+◌}
use lib.ListN.{take, drop}
use Rattle.machine.specs.Lists.{same}
use Rattle.machine.proofs.Base.{Outcome, refuse}
use Rattle.format.specs.Fields.{Fits, read_fields}
use Rattle.format.specs.Records.{layout, code, Fields, group, ordering_account, sequence, unidentified, type, amount, payer, beneficiary}
use Rattle.format.specs.Rules.{max_fixed, group_of, type_of, is_unchecked_type}
use Rattle.format.specs.Language.{Rec, ten_digits, Before, none_before, after_that}
use Rattle.format.specs.Answers.{unknown_record, misplaced_record}
use Rattle.format.specs.Tests.{Check, Tests, untested, file_header_tests, batch_header_tests, ordering_party_tests, transaction_tests, batch_trailer_tests, batch_maxima}
use Rattle.format.specs.declared.Kind.{Kind}
use Rattle.format.specs.declared.Kind.TheVariants.{FileHeader, BatchHeaderB, BatchHeaderC, FixedDescription, OrderingParty, Transaction, NamePayer, CityPayer, PaymentReference, Description, NameBeneficiary, CityBeneficiary, BatchTrailer, FileTrailer}
use Rattle.format.specs.declared.Group.{Group}
use Rattle.format.specs.declared.Group.TheVariants.{Payments, Debits}
use Rattle.format.proofs.Every.{kinds}
use Rattle.format.proofs.Checks.{Holds, judge, Pass, line_checks}

-- ## Where the reader is

-- what an open item may still have: its reference and four descriptions, or so many descriptions
pub data Room : Type 0 where
  fresh : Room
  left : ℕ → Room

pub data Phase : Type 0 where
  -- before the file header, and after it: the group that is asked for, if any
  start headed : Option Group → Phase
  -- after a batch header: how many fixed descriptions there may still be
  opened : Group → ℕ → Phase
  -- after the ordering party
  ordered : Group → Phase
  -- in a payment: whether its name is still to come
  paying : Bool → Room → Phase
  -- after its name: whether its city may follow
  paid : Bool → Phase
  -- in a debit whose name must come now
  owing : Room → Phase
  -- in a debit that needs no name or has it: whether its city may follow
  owed : Bool → Room → Phase
  -- after a batch trailer
  closed : Option Group → Phase
  -- after the file trailer
  done : Phase

-- the numbers of the batch that is open, zeros where none is; and what it knows of those before it
pub record Context : Type 0 where
  pub account : ℕ
  pub before : Before
  pub total : ℕ
  pub accounts : ℕ
  pub count : ℕ

pub data State : Type 0 where
  at : Phase → Context → State

abbrev pub new_batch : ℕ → Before → Context
new_batch account before = record { account = account; before = before; total = 0; accounts = 0; count = 0 }

abbrev pub no_batch : Before → Context
no_batch before = new_batch 0 before

abbrev pub begin : State
begin = at (start none) (no_batch none_before)

abbrev pub ended : Phase → Bool
ended (start o) = false
ended (headed o) = false
ended (opened g n) = false
ended (ordered g) = false
ended (paying n r) = false
ended (paid c) = false
ended (owing r) = false
ended (owed c r) = false
ended (closed o) = false
ended done = true

abbrev pub is_end : State → Bool
is_end (at p s) = ended p

-- ## The order of records

-- the open item may end here
pub data MayEnd : Phase → Group → Type 0 where
  unnamed_payment : {r : Room} → MayEnd (paying false r) Payments
  named_payment : {c : Bool} → MayEnd (paid c) Payments
  open_debit : {c : Bool} {r : Room} → MayEnd (owed c r) Debits

-- a record of this kind may follow here
pub data Place : Phase → Kind → Type 0 where
  file_header : {o : Option Group} → Place (start o) FileHeader
  first_batch_b : {o : Option Group} → Place (headed o) BatchHeaderB
  first_batch_c : {o : Option Group} → Place (headed o) BatchHeaderC
  next_batch_b : {o : Option Group} → Place (closed o) BatchHeaderB
  next_batch_c : {o : Option Group} → Place (closed o) BatchHeaderC
  fixed_description : {g : Group} {n : ℕ} → Place (opened g (suc n)) FixedDescription
  ordering_party : {g : Group} {n : ℕ} → Place (opened g n) OrderingParty
  first_item : {g : Group} → Place (ordered g) Transaction
  next_item : {p : Phase} {g : Group} → MayEnd p g → Place p Transaction
  batch_trailer : {p : Phase} {g : Group} → MayEnd p g → Place p BatchTrailer
  payment_reference : {n : Bool} → Place (paying n fresh) PaymentReference
  payment_description : {n : Bool} → Place (paying n fresh) Description
  payment_description_more : {n : Bool} {m : ℕ} → Place (paying n (left (suc m))) Description
  beneficiary_name : {r : Room} → Place (paying true r) NameBeneficiary
  beneficiary_city : Place (paid true) CityBeneficiary
  payer_name : {r : Room} → Place (owing r) NamePayer
  payer_city : {r : Room} → Place (owed true r) CityPayer
  debit_reference : {c : Bool} → Place (owed c fresh) PaymentReference
  debit_description : {c : Bool} → Place (owed c fresh) Description
  debit_description_more : {c : Bool} {m : ℕ} → Place (owed c (left (suc m))) Description
  file_trailer : {o : Option Group} → Place (closed o) FileTrailer

abbrev pub Choice : Phase → Type 0
Choice p = (k : Kind) × Place p k

abbrev pub choices : (p : Phase) → List (Choice p)
choices (start o) = (FileHeader, file_header) ∷ []
choices (headed o) = (BatchHeaderB, first_batch_b) ∷ (BatchHeaderC, first_batch_c) ∷ []
choices (opened g zero) = (OrderingParty, ordering_party) ∷ []
choices (opened g (suc n)) = (FixedDescription, fixed_description) ∷ (OrderingParty, ordering_party) ∷ []
choices (ordered g) = (Transaction, first_item) ∷ []
choices (paying true fresh) = (PaymentReference, payment_reference) ∷ (Description, payment_description) ∷ (NameBeneficiary, beneficiary_name) ∷ []
choices (paying true (left zero)) = (NameBeneficiary, beneficiary_name) ∷ []
choices (paying true (left (suc n))) = (Description, payment_description_more) ∷ (NameBeneficiary, beneficiary_name) ∷ []
choices (paying false fresh) = (PaymentReference, payment_reference) ∷ (Description, payment_description) ∷ (Transaction, next_item unnamed_payment) ∷ (BatchTrailer, batch_trailer unnamed_payment) ∷ []
choices (paying false (left zero)) = (Transaction, next_item unnamed_payment) ∷ (BatchTrailer, batch_trailer unnamed_payment) ∷ []
choices (paying false (left (suc n))) = (Description, payment_description_more) ∷ (Transaction, next_item unnamed_payment) ∷ (BatchTrailer, batch_trailer unnamed_payment) ∷ []
choices (paid true) = (CityBeneficiary, beneficiary_city) ∷ (Transaction, next_item named_payment) ∷ (BatchTrailer, batch_trailer named_payment) ∷ []
choices (paid false) = (Transaction, next_item named_payment) ∷ (BatchTrailer, batch_trailer named_payment) ∷ []
choices (owing r) = (NamePayer, payer_name) ∷ []
choices (owed true fresh) = (CityPayer, payer_city) ∷ (PaymentReference, debit_reference) ∷ (Description, debit_description) ∷ (Transaction, next_item open_debit) ∷ (BatchTrailer, batch_trailer open_debit) ∷ []
choices (owed true (left zero)) = (CityPayer, payer_city) ∷ (Transaction, next_item open_debit) ∷ (BatchTrailer, batch_trailer open_debit) ∷ []
choices (owed true (left (suc n))) = (CityPayer, payer_city) ∷ (Description, debit_description_more) ∷ (Transaction, next_item open_debit) ∷ (BatchTrailer, batch_trailer open_debit) ∷ []
choices (owed false fresh) = (PaymentReference, debit_reference) ∷ (Description, debit_description) ∷ (Transaction, next_item open_debit) ∷ (BatchTrailer, batch_trailer open_debit) ∷ []
choices (owed false (left zero)) = (Transaction, next_item open_debit) ∷ (BatchTrailer, batch_trailer open_debit) ∷ []
choices (owed false (left (suc n))) = (Description, debit_description_more) ∷ (Transaction, next_item open_debit) ∷ (BatchTrailer, batch_trailer open_debit) ∷ []
choices (closed o) = (BatchHeaderB, next_batch_b) ∷ (BatchHeaderC, next_batch_c) ∷ (FileTrailer, file_trailer) ∷ []
choices done = []

-- ## The next state

abbrev pub opens : Group → Bool → Phase
opens Payments n = paying n fresh
opens Debits true = owing fresh
opens Debits false = owed false fresh

abbrev pub add_item : Context → ℕ → ℕ → ℕ → Context
add_item s amount payer beneficiary = record { account = s.account; before = s.before; total = s.total + amount; accounts = ten_digits (s.accounts + payer + beneficiary); count = suc s.count }

abbrev pub begin_item : Group → Context → Fields Transaction → State
begin_item g s x = at (opens g (is_unchecked_type (type_of (type x)))) (add_item s (amount x) (payer x) (beneficiary x))

abbrev pub begin_batch : Context → Fields BatchHeaderB → State
begin_batch s x = at (opened (group_of (group x)) max_fixed) (new_batch (ordering_account x) (after_that s.before (sequence x)))

abbrev pub advance : {p : Phase} {k : Kind} → Place p k → Context → Fields k → State
advance (file_header {o}) s x = at (headed o) s
advance first_batch_b s x = begin_batch s x
advance first_batch_c s x = begin_batch s (unidentified x)
advance next_batch_b s x = begin_batch s x
advance next_batch_c s x = begin_batch s (unidentified x)
advance (fixed_description {g} {n}) s x = at (opened g n) s
advance (ordering_party {g}) s x = at (ordered g) s
advance (first_item {g}) s x = begin_item g s x
advance (next_item {g = g} i) s x = begin_item g s x
-- the batch's numbers are cleared, and what crosses batches stays
advance (batch_trailer {g = g} i) s x = at (closed (some g)) (no_batch s.before)
advance (payment_reference {n}) s x = at (paying n (left 3)) s
advance (payment_description {n}) s x = at (paying n (left 3)) s
advance (payment_description_more {n} {m}) s x = at (paying n (left m)) s
advance beneficiary_name s x = at (paid true) s
advance beneficiary_city s x = at (paid false) s
advance (payer_name {r}) s x = at (owed true r) s
advance (payer_city {r}) s x = at (owed false r) s
advance debit_reference s x = at (owed false (left 3)) s
advance debit_description s x = at (owed false (left 3)) s
advance (debit_description_more {m = m}) s x = at (owed false (left m)) s
advance file_trailer s x = at done s

-- ## What is tested

abbrev pub tests : {p : Phase} {k : Kind} → Place p k → Context → Fields k → Tests (layout k)
tests file_header s x = file_header_tests x
tests (first_batch_b {o}) s x = batch_header_tests o s.before.sequence x
tests (first_batch_c {o}) s x = batch_header_tests o s.before.sequence (unidentified x)
tests (next_batch_b {o}) s x = batch_header_tests o s.before.sequence x
tests (next_batch_c {o}) s x = batch_header_tests o s.before.sequence (unidentified x)
tests fixed_description s x = untested (layout FixedDescription)
tests (ordering_party {g}) s x = ordering_party_tests g x
tests (first_item {g}) s x = transaction_tests g s.account x
tests (next_item {g = g} i) s x = transaction_tests g s.account x
tests (batch_trailer i) s x = batch_trailer_tests s.total s.accounts s.count x
tests payment_reference s x = untested (layout PaymentReference)
tests payment_description s x = untested (layout Description)
tests payment_description_more s x = untested (layout Description)
tests beneficiary_name s x = untested (layout NameBeneficiary)
tests beneficiary_city s x = untested (layout CityBeneficiary)
tests payer_name s x = untested (layout NamePayer)
tests payer_city s x = untested (layout CityPayer)
tests debit_reference s x = untested (layout PaymentReference)
tests debit_description s x = untested (layout Description)
tests debit_description_more s x = untested (layout Description)
tests file_trailer s x = untested (layout FileTrailer)

-- and after the fields
abbrev pub maxima : (k : Kind) → Context → Fields k → List Check
maxima FileHeader s x = []
maxima BatchHeaderB s x = []
maxima BatchHeaderC s x = []
maxima FixedDescription s x = []
maxima OrderingParty s x = []
maxima Transaction s x = batch_maxima s.count s.total (amount x)
maxima NamePayer s x = []
maxima CityPayer s x = []
maxima PaymentReference s x = []
maxima Description s x = []
maxima NameBeneficiary s x = []
maxima CityBeneficiary s x = []
maxima BatchTrailer s x = []
maxima FileTrailer s x = []

abbrev pub checks : {p : Phase} {k : Kind} → Place p k → Context → List ℕ → List Check
checks {k = k} pl s l = line_checks 6 (layout k) (tests pl s (read_fields (layout k) l)) l (maxima k s (read_fields (layout k) l))

-- ## One line

abbrev pub kind_of : List ℕ → List Kind → Option Kind
kind_of c [] = none
kind_of c (k ∷ ks) = cond (same c (code k)) (some k) (kind_of c ks)

abbrev pub find : {p : Phase} → List ℕ → List (Choice p) → Option (Choice p)
find c [] = none
find c (o ∷ os) = cond (same c (code o.0)) (some o) (find c os)

-- no choice here: it has a kind, or none
abbrev pub lost : Option Kind → Outcome State
lost none = refuse unknown_record 1
lost (some k) = refuse misplaced_record 1

abbrev pub found : {p : Phase} → Context → List ℕ → List ℕ → Option (Choice p) → Outcome State
found s c l none = lost (kind_of c kinds)
found s c l (some o) = judge (checks o.1 s l) (advance o.1 s (read_fields (layout o.0) l))

abbrev pub step : State → List ℕ → Outcome State
step (at p s) c = found s (take 5 c) (take 45 (drop 5 c)) (find (take 5 c) (choices p))

-- ## The same on records, from a state to the end

pub record Ok {p : Phase} {k : Kind} (pl : Place p k) (s : Context) (x : Fields k) : Type 0 where
  pub fits : Fits (layout k) x
  pub holds : Holds (layout k) (tests pl s x)
  pub max : Pass (maxima k s x)

pub data Path : State → List Rec → Type 0 where
  end : {s : Context} → Path (at done s) []
  go : {p : Phase} {s : Context} {rs : List Rec} (k : Kind) (x : Fields k) (pl : Place p k) → Ok pl s x → Path (advance pl s x) rs → Path (at p s) ((k, x) ∷ rs)
