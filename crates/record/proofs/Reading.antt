-- The record of an accepted line, and its text. Assumes nothing.
use Rattle.std.specs.Prelude.{Some, Result, Ok, Err}
use Rattle.std.specs.Result.{result_unwrap_or}
use Prim.Native.Nat.{ℕ, ◌+◌, ◌-◌, ◌≤◌}
use mathlib.Core.Path.{◌≡◌, refl, sym, ap, ◌∙◌}
use mathlib.Core.List.{List, [], ◌∷◌}
use mathlib.Core.Bool.{Bool, true, false, ◌&&◌}
use native.Mathlib.Omega.{arith}
use borrow.Author.Tests.{eq-eqb, eqb-true, leb-true}
use lib.ListN.{length, take, drop, length-take}
use lib.Dec.{leb, eqb}
use Rattle.machine.specs.Lists.{pick, pasted, put_in}
use Rattle.machine.proofs.Base.{and_first, and_second, true≢false}
use Rattle.format.specs.Fields.{Field, numeric, filled, optional, free, filler, width, well_formed, read_field}
use Rattle.format.specs.Records.{layout}
use Rattle.format.specs.Rules.{group_of, TypeRead}
use Rattle.format.specs.Tests.{Test, Tests}
use Rattle.format.specs.declared.Group.{Group}
use Rattle.format.specs.declared.Kind.{Kind}
use Rattle.format.specs.declared.Kind.TheVariants.{Transaction}
use Rattle.format.specs.declared.TransactionType.{TransactionType}
use Rattle.format.proofs.Every.{every}
use Rattle.field.specs.Leaf.{Digits, Numeric, no_tests, numeric_of, numeric_read}
use Rattle.field.proofs.Results.{digits_alone}
use Rattle.format.specs.declared.Refusal.{Refusal}
use Rattle.field.specs.Rows.{Row, part_at, first_answer, field_answer, rows_at, check_rows, fields_at, first_or}
use Rattle.field.specs.Leaf.{digits_of}
use Rattle.field.specs.Filled.{filled_to}
use Rattle.field.proofs.Numerics.{digits_are}
use Rattle.field.proofs.Filling.{filled_short}
use Rattle.record.specs.Faults.{fault_at, no_fault, first_fault, fields_of, tests_for, maxima_for, fault_of}
use Rattle.record.specs.Read.{transaction_for, transaction_record, record_for, padded, text_part, text_for, value_in, values_at, values_of, header_for}
use Rattle.record.specs.Faults.{Fault}
use Rattle.record.specs.declared.Before.{Before}
use Rattle.record.specs.declared.Batch.{Batch}
use Rattle.record.specs.declared.read.Part.{Part}
use Rattle.record.specs.declared.TransactionFields.{TransactionFields}
use Rattle.record.specs.declared.Record.{Record}
use Rattle.record.specs.declared.Record.TheVariants as the

-- ## Records from what calls answered

pub value_or : {v : ℕ} (g : Result ℕ Refusal) (l : List ℕ) → numeric_read g ≡ numeric_of no_tests l → v ≡ result_unwrap_or g 0 → v ≡ (digits_of l).value
value_or g l e h = h ∙ value_is g ∙ ap (λ (n : Numeric). n.value) (e ∙ digits_alone l)
  where
    value_is : (g : Result ℕ Refusal) → result_unwrap_or g 0 ≡ (numeric_read g).value
    value_is (Ok v) = refl
    value_is (Err r) = refl

pub transaction_made : {k l : TypeRead} {a p b a' p' b' : ℕ} → k ≡ l → a ≡ a' → p ≡ p' → b ≡ b'
    → ◌≡◌ {A = TransactionFields} (record { kind = k; amount = a; payer = p; beneficiary = b }) (record { kind = l; amount = a'; payer = p'; beneficiary = b' })
transaction_made e f g h = rw (e, f, g, h)

pub transaction_typed : {t : TypeRead} {y : TransactionType} (n p b : ℕ) → t ≡ Some y → the.Transaction (record { kind = y; amount = n; payer = p; beneficiary = b }) ≡ transaction_record t n p b
transaction_typed n p b e = rw e

pub transaction_via : {r : Record} {x : TransactionFields} (line : List ℕ) → x ≡ transaction_for (values_of Transaction line) → r ≡ transaction_record x.kind x.amount x.payer x.beneficiary → r ≡ record_for Transaction (values_of Transaction line)
transaction_via line e h = h ∙ ap (λ (x : TransactionFields). transaction_record x.kind x.amount x.payer x.beneficiary) e

pub header_made : {g : Group} {a s : ℕ} (identified : Bool) (line : List ℕ) → g ≡ group_of (take 2 (drop 5 line)) → a ≡ (digits_of (take 10 (drop 7 line))).value → s ≡ (digits_of (take 4 (drop 17 line))).value → the.BatchHeader g a s identified ≡ header_for identified line
header_made true line e f h = rw (e, f, h)
header_made false line e f h = rw (e, f, h)

pub record_via : {k m : Kind} {x : Record} (line : List ℕ) → k ≡ m → x ≡ record_for m (values_of m line) → x ≡ record_for k (values_of k line)
record_via line e h = rw e h

-- ## Texts

pub part_via : {k m : Kind} {x : Part} → k ≡ m → x ≡ text_part m → x ≡ text_part k
part_via e h = rw e h

-- WHAT STANDS AT A RECORD'S TEXT PART IS ITS TEXT, of every line
pub text_stands : (k : Kind) (line : List ℕ) → padded (take (text_part k).width (drop (text_part k).at line)) ≡ text_for k (values_of k line)
unfolding padded put_in pasted pick
text_stands k line = every (λ k. padded (take (text_part k).width (drop (text_part k).at line)) ≡ text_for k (values_of k line)) refl refl refl refl refl refl refl refl refl refl refl refl refl refl k

text_short : (k : Kind) → (text_part k).width ≤ 35
text_short k = every (λ k. (text_part k).width ≤ 35) (omega arith) (omega arith) (omega arith) (omega arith) (omega arith) (omega arith) (omega arith) (omega arith) (omega arith) (omega arith) (omega arith) (omega arith) (omega arith) (omega arith) k

pub text_put : {q : Part} {p o : List ℕ} (k : Kind) (line : List ℕ) → q ≡ text_part k → p ≡ take q.width (drop q.at line) → o ≡ filled_to 35 p → o ≡ text_for k (values_of k line)
unfolding padded
text_put k line q e h =
    let p = text_part k in
    h ∙ ap (filled_to 35) (e ∙ ap (λ (r : Part). take r.width (drop r.at line)) q)
    ∙ filled_short 35 (take p.width (drop p.at line)) (rw length-take (omega (arith, text_short k))) ∙ text_stands k line

-- ## For users: the values of an accepted line are its fields

-- numeric fields of at most 18 digits
abbrev pub narrow : List Field → Bool
narrow [] = true
narrow (numeric w ∷ fs) = leb w 18 && narrow fs
narrow (filled w ∷ fs) = narrow fs
narrow (optional w ∷ fs) = narrow fs
narrow (free w ∷ fs) = narrow fs
narrow (filler w ∷ fs) = narrow fs

pub narrow_first : (f : Field) (fs : List Field) → narrow (f ∷ fs) ≡ true → narrow (f ∷ []) ≡ true
narrow_first (numeric w) fs h = rw (and_first (leb w 18) (narrow fs) h)
narrow_first (filled w) fs h = refl
narrow_first (optional w) fs h = refl
narrow_first (free w) fs h = refl
narrow_first (filler w) fs h = refl

pub narrow_rest : (f : Field) (fs : List Field) → narrow (f ∷ fs) ≡ true → narrow fs ≡ true
narrow_rest (numeric w) fs h = and_second (leb w 18) (narrow fs) h
narrow_rest (filled w) fs h = h
narrow_rest (optional w) fs h = h
narrow_rest (free w) fs h = h
narrow_rest (filler w) fs h = h

pub is_formed : (f : Field) (ts : List Test) (l : List ℕ) → field_answer f ts l ≡ 0 → (well_formed f l ≡ true) × (first_answer ts ≡ 0)
unfolding field_answer pick
is_formed f ts l z = by (well_formed f l) z
  where
    by : (q : Bool) → pick q (first_answer ts) 4 ≡ 0 → (q ≡ true) × (first_answer ts ≡ 0)
    by true e = (refl, e)
    by false e = absurd (omega arith)

formed_field : (f : Field) (ts : List Test) (m : List ℕ) → narrow (f ∷ []) ≡ true → field_answer f ts (take (width f) m) ≡ 0 → value_in f (take (width f) m) ≡ read_field f (take (width f) m)
formed_field (numeric w) ts m h z =
    let b : length (take w m) ≤ 18 = rw length-take (omega (arith, leb-true w 18 (and_first (leb w 18) true h))) in
    sym (ap (λ (d : Digits). d.value) (digits_are (take w m) b (is_formed (numeric w) ts (take w m) z).0 refl))
formed_field (filled w) ts m h z = refl
formed_field (optional w) ts m h z = refl
formed_field (free w) ts m h z = refl
formed_field (filler w) ts m h z = refl

pub formed : (c : ℕ) (fs : List Field) (t : Tests fs) (xs : List ℕ) (k : List Row) → narrow fs ≡ true → (first_or fault_at (rows_at c fs t xs k) no_fault).number ≡ 0 → values_at c fs xs ≡ fields_at c fs xs
unfolding first_or pick
formed c [] t xs k h z = refl
formed c (f ∷ fs) t xs k h z = by (eqb n 0) refl (formed (c + width f) fs t.1 xs k (narrow_rest f fs h)) z
  where
    n : ℕ
    n = field_answer f t.0 (part_at c (width f) xs)

    rest : Fault
    rest = first_or fault_at (rows_at (c + width f) fs t.1 xs k) no_fault

    by : (q : Bool) → eqb n 0 ≡ q → (rest.number ≡ 0 → values_at (c + width f) fs xs ≡ fields_at (c + width f) fs xs) → (pick q rest (fault_at c n)).number ≡ 0 → values_at c (f ∷ fs) xs ≡ fields_at c (f ∷ fs) xs
    by true e g z = rw (formed_field f t.0 (drop (c - 1) xs) (narrow_first f fs h) (eqb-true n 0 e), g z)
    by false e g z = absurd (true≢false (sym (eq-eqb n 0 z) ∙ e))

pub narrow_layout : (k : Kind) → narrow (layout k) ≡ true
narrow_layout = every (λ k. narrow (layout k) ≡ true) refl refl refl refl refl refl refl refl refl refl refl refl refl refl

pub valued : (p : Before) (b : Batch) (k : Kind) (xs : List ℕ) → (fault_of p b k xs).number ≡ 0 → values_of k xs ≡ fields_of k xs
unfolding fault_of first_fault
valued p b k xs z = formed 6 (layout k) (tests_for p b k (fields_of k xs)) xs (check_rows (maxima_for b k (fields_of k xs))) (narrow_layout k) z
