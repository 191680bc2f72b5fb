-- The first fault of a batch's header and ordering party, from what calls answered of their fields. Assumes nothing.
use Prim.Native.Nat.{ℕ, suc, ◌-◌, ◌≤◌}
use mathlib.Core.Path.{◌≡◌, refl, sym, ap, ◌∙◌}
use mathlib.Core.List.{List, [], ◌∷◌}
use mathlib.Core.Bool.{Bool, true, false, ◌&&◌, ◌||◌}
use native.Mathlib.Omega.{arith}
use borrow.Author.Tests.{eq-eqb, ne_eqb, eqb-true, eqb-false, leb-true}
use lib.ListN.{length}
use lib.Dec.{eqb, leb}
use Rattle.std.specs.Prelude.{Result, Ok}
use Rattle.format.specs.declared.Refusal.{Refusal}
use Rattle.machine.specs.Lists.{pick, all, is_digit}
use Rattle.machine.specs.Digits.{value_of}
use Rattle.format.specs.Fields.{numeric, filled, filler}
use Rattle.format.specs.Records.{sequence, unidentified}
use Rattle.format.specs.Rules.{max_sequence, EUR, is_name_code_in}
use Rattle.format.specs.Tests.{is_next}
use Rattle.format.specs.Tests.{range_tests, group_tests, ordering_tests, sequence_tests, text_tests}
use Rattle.format.specs.declared.Kind.TheVariants.{BatchHeaderB, BatchHeaderC}
use Rattle.format.specs.declared.Group.{Group}
use Rattle.format.specs.declared.Group.TheVariants.{Payments, Debits}
use Rattle.field.specs.Leaf.{Numeric}
use Rattle.field.specs.Rows.{Row, row, part_at, answer_at, field_answer, first_or}
use Rattle.field.specs.Leaf.{numeric_answer, numeric_of, numeric_read}
use Rattle.field.proofs.Rows.{of_value}
use Rattle.record.specs.Faults.{Fault}
use Rattle.record.specs.declared.Before.{Before}
use Rattle.record.specs.declared.Batch.{Batch}
use Rattle.record.specs.Faults.{fault_at, no_fault, first_fault, fields_of, fields_fault, known_group, fault_of, batch_identification_answer, header_fault}
use Rattle.record.proofs.Faulting.{no_faults, in_range_lem}

-- ## Numbers with a test more

pub at_least : {f : Result ℕ Refusal} {v : ℕ} (low high : ℕ) (l : List ℕ) → numeric_read f ≡ numeric_of (range_tests low high) l → f ≡ Ok v → low ≤ v
unfolding numeric_of numeric_answer field_answer pick
at_least {f} {v} low high l e w = rw (sym (ap (λ (g : Result ℕ Refusal). (numeric_read g).value) w) ∙ of_value (range_tests low high) l e nothing) (by (leb (length l) 18) (all is_digit l) (leb low (value_of l)) refl (leb (value_of l) high) (sym (ap (λ (n : Numeric). n.number) e) ∙ nothing))
  where
    nothing : (numeric_read f).number ≡ 0
    nothing = ap (λ (g : Result ℕ Refusal). (numeric_read g).number) w

    by : (a b c : Bool) → leb low (value_of l) ≡ c → (d : Bool) → ◌≡◌ {A = ℕ} (pick a (pick b (pick (c && d) 0 5) 4) 4) 0 → low ≤ value_of l
    by true true true h d k = leb-true low (value_of l) h
    by true true false h d k = absurd (omega arith)
    by true false c h d k = absurd (omega arith)
    by false b c h d k = absurd (omega arith)

next_same : (before n : ℕ) → 1 ≤ n → eqb n (suc before) ≡ eqb (n - 1) before
next_same before n h = by (eqb (n - 1) before) refl
  where
    by : (q : Bool) → eqb (n - 1) before ≡ q → eqb n (suc before) ≡ q
    by true e = let k : n - 1 ≡ before = eqb-true (n - 1) before e in eq-eqb n (suc before) (omega arith)
    by false e = ne_eqb n (suc before) (λ k. eqb-false (n - 1) before e (omega arith))

pub next_by : {v : Bool} (before n : ℕ) → 1 ≤ n → (eqb before 0 || eqb (n - 1) before) ≡ v → is_next before n ≡ v
next_by before n h e = ap (λ q. eqb before 0 || q) (next_same before n h) ∙ e

pub name_payments : {g : Group} (n : ℕ) → g ≡ Payments → is_name_code_in g n ≡ true
unfolding is_name_code_in
name_payments n e = rw e

pub name_debits : {g : Group} {v : Bool} (n : ℕ) → g ≡ Debits → eqb n 1 ≡ v → is_name_code_in g n ≡ v
unfolding is_name_code_in
name_debits n e h = rw e h

-- ## A batch header

-- the rows of both variants
abbrev header_rows : Bool → Before → List ℕ → List Row
header_rows identified p l =
    row 6 (answer_at 6 (filled 2) (group_tests (known_group p)) l)
    ∷ row 8 (answer_at 8 (numeric 10) ordering_tests l)
    ∷ row 18 (answer_at 18 (numeric 4) (sequence_tests p.sequence) l)
    ∷ row 22 (answer_at 22 (filled 3) (text_tests EUR) l)
    ∷ row 25 (batch_identification_answer identified l)
    ∷ row 41 (field_answer (filler 10) [] (part_at 41 10 l))
    ∷ []

header_rows_lem : (identified : Bool) (p : Before) (l : List ℕ) → first_or fault_at (header_rows identified p l) no_fault ≡ header_fault identified p l
unfolding fields_fault first_fault pick
header_rows_lem true p l = refl
header_rows_lem false p l = refl

pub header_via : {x : Fault} (identified : Bool) (p : Before) (l : List ℕ) → x ≡ first_or fault_at (header_rows identified p l) no_fault → x ≡ header_fault identified p l
header_via identified p l e = e ∙ header_rows_lem identified p l

-- ## For users: a header's sequence

module _ (p : Before) (b : Batch) (xs : List ℕ) where
  pub header_bounded : (fault_of p b BatchHeaderB xs).number ≡ 0 → sequence (fields_of BatchHeaderB xs) ≤ 9999
  unfolding fault_of first_fault
  header_bounded z = in_range_lem 4 1 max_sequence _ _ _ (no_faults _ z).1.1.0

  pub identified_bounded : (fault_of p b BatchHeaderC xs).number ≡ 0 → sequence (unidentified (fields_of BatchHeaderC xs)) ≤ 9999
  unfolding fault_of first_fault
  identified_bounded z = in_range_lem 4 1 max_sequence _ _ _ (no_faults _ z).1.1.0
