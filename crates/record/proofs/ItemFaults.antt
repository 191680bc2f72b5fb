-- The first fault of a transaction, from what calls answered of its fields, and a batch's maxima. Assumes nothing.
use Rattle.std.specs.Prelude.{Some, None, Result, Err}
use Prim.Native.Nat.{ℕ, ◌+◌, ◌<◌, ◌≤◌, zero-le, min}
use mathlib.Core.Path.{◌≡◌, refl, sym, ap, ◌∙◌}
use mathlib.Core.List.{List, [], ◌∷◌}
use mathlib.Core.Bool.{Bool, true, false}
use native.Mathlib.Omega.{arith}
use borrow.Author.Tests.{lt-ltb, le-ltb, le-leb, lt-leb, eq-eqb, ne_eqb, leb-true, ltb-true}
use lib.ListN.{take, drop}
use lib.Dec.{eqb, leb, ltb}
use Rattle.machine.specs.Lists.{pick}
use Rattle.machine.specs.Digits.{value_of}
use Rattle.format.specs.Fields.{Field, numeric, filled, width, well_formed}
use Rattle.format.specs.Answers.{above_maximum, number_in}
use Rattle.format.specs.declared.Refusal.{Refusal}
use Rattle.format.specs.declared.Refusal.TheVariants.{AboveMaximum}
use Rattle.format.specs.Records.{layout, type, amount}
use Rattle.format.specs.Rules.{max_amount, max_total, max_items, max_account, type_of, is_type, is_unchecked_type, TypeRead}
use Rattle.format.specs.Tests.{Tests, type_tests, party_tests, transaction_tests}
use Rattle.format.specs.declared.Kind.TheVariants.{Transaction}
use Rattle.format.specs.declared.Group.{Group}
use Rattle.field.specs.Rows.{Row, row, part_at, field_answer, rows_at, check_rows, first_or}
use Rattle.field.specs.Leaf.{numeric_of, numeric_read}
use Rattle.record.proofs.Columns.{number_row}
use Rattle.record.specs.Faults.{Fault, at_column, fault_read}
use Rattle.record.specs.declared.Fault as code
use Rattle.record.specs.declared.Before.{Before}
use Rattle.record.specs.declared.Batch.{Batch}
use Rattle.record.specs.declared.TransactionFields.{TransactionFields}
use Rattle.record.specs.Read.{TransactionRead}
use Rattle.record.specs.Faults.{fault_at, no_fault, first_fault, fields_of, maxima_for, fault_of, maxima_fault}
use Rattle.record.specs.Read.{transaction_for, refused_transaction, transaction_of}
use Rattle.record.proofs.Faulting.{rows_all, no_faults, in_range_lem}

-- ## A batch's maxima

pub above_at : {A : Type 0} {r : Result A code.Fault} (column : ℕ) → r ≡ at_column column (Err AboveMaximum) → fault_read r ≡ fault_at column above_maximum
above_at column e = ap fault_read e

module _ {x : Fault} (b : Batch) (next : ℕ) where
  pub too_many : max_items ≤ b.items → x ≡ fault_at 1 above_maximum → x ≡ maxima_fault b next
  unfolding maxima_fault first_fault first_or pick
  too_many h e = rw (le-ltb b.items max_items h) e

  module _ (k : b.items < max_items) where
    -- the sum, as far as a u64 can tell it
    module _ {sum : ℕ} (s : sum ≡ min (b.total + next) 18446744073709551615) where
      pub too_much : max_total < sum → x ≡ fault_at 10 above_maximum → x ≡ maxima_fault b next
      unfolding maxima_fault first_fault first_or pick
      too_much h e = let a : max_total < b.total + next = by h s in rw (lt-ltb b.items max_items k, lt-leb (b.total + next) max_total a) e
        where
          by : {n : ℕ} → max_total < n → n ≡ min (b.total + next) 18446744073709551615 → max_total < b.total + next
          by h s = omega arith

      pub within_maxima : sum ≤ max_total → x ≡ no_fault → x ≡ maxima_fault b next
      unfolding maxima_fault first_fault first_or pick
      within_maxima h e = let a : b.total + next ≤ max_total = by h s in rw (lt-ltb b.items max_items k, le-leb (b.total + next) max_total a) e
        where
          by : {n : ℕ} → n ≤ max_total → n ≡ min (b.total + next) 18446744073709551615 → b.total + next ≤ max_total
          by h s = omega arith

-- ## A transaction

pub type_row : {t : TypeRead} {n : ℕ} (g : Group) (l : List ℕ) → t ≡ type_of l → n ≡ field_answer (filled 4) (type_tests g t) l → n ≡ field_answer (filled 4) (type_tests g (type_of l)) l
type_row g l e h = h ∙ ap (λ t. field_answer (filled 4) (type_tests g t) l) e

-- by the type that a call read
pub party_row : {t : TypeRead} (r : Result ℕ Refusal) (mine : Bool) (own : ℕ) (k m : List ℕ) → t ≡ type_of k → numeric_read r ≡ numeric_of (party_tests mine own (is_unchecked_type t)) (take 10 m)
    → number_in r ≡ field_answer (numeric 10) (party_tests mine own (is_unchecked_type (type_of k)) (value_of (take 10 m))) (take 10 m)
party_row r mine own k m e h = number_row r (party_tests mine own (is_unchecked_type (type_of k))) 10 m (h ∙ ap (λ t. numeric_of (party_tests mine own (is_unchecked_type t)) (take 10 m)) e) refl refl

abbrev good : List ℕ → TransactionRead
good xs = record { number = 0; column = 0; read = transaction_for (fields_of Transaction xs) }

-- what was read where no row has a number
pub taken : {t : TypeRead} {amount payer beneficiary : ℕ} (l : List ℕ) → t ≡ type_of (take 4 (drop 5 l)) → amount ≡ value_of (take 12 (drop 9 l)) → payer ≡ value_of (take 10 (drop 21 l)) → beneficiary ≡ value_of (take 10 (drop 31 l))
    → ◌≡◌ {A = TransactionRead} (record { number = 0; column = 0; read = record { kind = t; amount = amount; payer = payer; beneficiary = beneficiary } }) (first_or refused_transaction [] (good l))
unfolding first_or
taken l t a p b = rw (t, a, p, b)

-- ## Rows and what follows them

split_rows : {A : Type 0} (f : ℕ → ℕ → A) (a : A) (c : ℕ) (fs : List Field) (t : Tests fs) (xs : List ℕ) (k : List Row) → first_or f (rows_at c fs t xs k) a ≡ first_or f (rows_at c fs t xs []) (first_or f k a)
unfolding first_or
split_rows f a c [] t xs k = refl
split_rows f a c (g ∷ fs) t xs k = ap (λ r. pick (eqb (field_answer g t.0 (part_at c (width g) xs)) 0) r (f c (field_answer g t.0 (part_at c (width g) xs)))) (split_rows f a (c + width g) fs t.1 xs k)

module _ (good : TransactionRead) (z : good.number ≡ 0) where
  -- the same rows as a fault
  by_rows : (b : Fault) (R : List Row) → first_or fault_at R b ≡ pick (eqb (first_or refused_transaction R good).number 0) b (fault_at (first_or refused_transaction R good).column (first_or refused_transaction R good).number)
  unfolding first_or pick
  by_rows b [] = rw z
  by_rows b (row c n ∷ R) = by (eqb n 0) refl (by_rows b R)
    where
      by : (q : Bool) → eqb n 0 ≡ q → first_or fault_at R b ≡ pick (eqb (first_or refused_transaction R good).number 0) b (fault_at (first_or refused_transaction R good).column (first_or refused_transaction R good).number)
          → pick q (first_or fault_at R b) (fault_at c n) ≡ pick (eqb (pick q (first_or refused_transaction R good) (refused_transaction c n)).number 0) b (fault_at (pick q (first_or refused_transaction R good) (refused_transaction c n)).column (pick q (first_or refused_transaction R good) (refused_transaction c n)).number)
      by true e h = h
      by false e h = rw e

  -- where no row has a number, it is what was read
  is_good : (R : List Row) → (first_or refused_transaction R good).number ≡ 0 → first_or refused_transaction R good ≡ good
  is_good R = rows_all (λ (r : TransactionRead). r.number ≡ 0 → r ≡ good) refused_transaction good R (λ c n z e. absurd (z e)) (λ z e. refl)

judged : (p : Before) (b : Batch) (xs : List ℕ) → fault_of p b Transaction xs ≡ pick (eqb (transaction_of p.group b.account xs).number 0) (maxima_fault b (amount (fields_of Transaction xs))) (fault_at (transaction_of p.group b.account xs).column (transaction_of p.group b.account xs).number)
unfolding fault_of maxima_fault first_fault transaction_of
judged p b xs =
    let x = fields_of Transaction xs in
    let t = transaction_tests p.group b.account x in
    let k = check_rows (maxima_for b Transaction x) in
    split_rows fault_at no_fault 6 (layout Transaction) t xs k ∙ by_rows (good xs) refl (first_or fault_at k no_fault) (rows_at 6 (layout Transaction) t xs [])

-- ### For users: the fields of a transaction that a call read, and the fault of its line

module _ {r : TransactionRead} (p : Before) (b : Batch) (xs : List ℕ) (e : r ≡ transaction_of p.group b.account xs) where
  read_is : r.number ≡ 0 → r ≡ good xs
  unfolding transaction_of
  read_is z = e ∙ is_good (good xs) refl (rows_at 6 (layout Transaction) (transaction_tests p.group b.account (fields_of Transaction xs)) xs []) (ap (λ (t : TransactionRead). t.number) (sym e) ∙ z)

  pub transaction_read : r.number ≡ 0 → r.read ≡ transaction_for (fields_of Transaction xs)
  transaction_read z = ap (λ (t : TransactionRead). t.read) (read_is z)

  judged_by_lem : fault_of p b Transaction xs ≡ pick (eqb r.number 0) (maxima_fault b (amount (fields_of Transaction xs))) (fault_at r.column r.number)
  judged_by_lem = rw e (judged p b xs)

  pub transaction_refused : (r.number ≡ 0 → ⊥) → fault_of p b Transaction xs ≡ fault_at r.column r.number
  unfolding pick
  transaction_refused z = judged_by_lem ∙ rw (ne_eqb r.number 0 z)

  pub transaction_taken : r.number ≡ 0 → fault_of p b Transaction xs ≡ maxima_fault b r.read.amount
  unfolding pick
  transaction_taken z = judged_by_lem ∙ rw (eq-eqb r.number 0 z) (ap (λ (t : TransactionFields). maxima_fault b t.amount) (sym (transaction_read z)))

-- ### For users: the bounds of a transaction

pub record Bounded (t : TransactionFields) : Type 0 where
  pub amount : t.amount ≤ max_amount
  pub payer : t.payer ≤ max_account
  pub beneficiary : t.beneficiary ≤ max_account

pub transaction_bounded : {r : TransactionRead} (g : Group) (own : ℕ) (xs : List ℕ) → r ≡ transaction_of g own xs → Bounded r.read
unfolding transaction_of
transaction_bounded g own xs e =
    rw e
    (rows_all (λ (r : TransactionRead). Bounded r.read) refused_transaction _ _
    (λ c n z. record { amount = zero-le; payer = zero-le; beneficiary = zero-le })
    (λ z. record { amount = in_range_lem 12 1 max_amount _ _ _ z.1.0; payer = in_range_lem 10 1 max_account _ _ _ z.1.1.0; beneficiary = in_range_lem 10 1 max_account _ _ _ z.1.1.1.0 }))

-- ### For users: an item below a batch's maxima

pub below_maxima : (b : Batch) (n : ℕ) → (maxima_fault b n).number ≡ 0 → (b.items < 100000) × (b.total + n ≤ 4537802160901)
unfolding maxima_fault first_fault first_or pick
below_maxima b n z = by (ltb b.items max_items) refl (leb (b.total + n) max_total) refl z
  where
    by : (p : Bool) → ltb b.items max_items ≡ p → (q : Bool) → leb (b.total + n) max_total ≡ q → ◌≡◌ {A = ℕ} (pick (eqb (pick p 0 8) 0) (pick (eqb (pick q 0 8) 0) no_fault (fault_at 10 (pick q 0 8))) (fault_at 1 (pick p 0 8))).number 0 → (b.items < 100000) × (b.total + n ≤ 4537802160901)
    by true h true k z = (ltb-true b.items max_items h, leb-true (b.total + n) max_total k)
    by true h false k z = absurd (omega arith)
    by false h q k z = absurd (omega arith)

-- ### For users: a transaction's type

is_type_lem : (g : Group) (t : TypeRead) (l : List ℕ) → field_answer (filled 4) (type_tests g t) l ≡ 0 → is_type t ≡ true
unfolding field_answer pick
is_type_lem g (Some y) l e = refl
is_type_lem g None l e = by (well_formed (filled 4) l) e
  where
    by : (q : Bool) → ◌≡◌ {A = ℕ} (pick q 5 4) 0 → false ≡ true
    by true e = absurd (omega arith)
    by false e = absurd (omega arith)

module _ (p : Before) (b : Batch) (xs : List ℕ) where
  pub type_known : (fault_of p b Transaction xs).number ≡ 0 → is_type (type_of (type (fields_of Transaction xs))) ≡ true
  unfolding fault_of first_fault
  type_known z = is_type_lem p.group (type_of (type (fields_of Transaction xs))) _ (no_faults _ z).0
