-- A line's first fault by its rows is the first check that fails in the language's reader: proved once for every table of fields. Assumes nothing.
use Prim.Native.Nat.{ℕ, zero, suc, ◌+◌, ◌-◌, ◌≤◌}
use mathlib.Core.Path.{◌≡◌, refl, sym, ap, ◌∙◌, subst}
use mathlib.Core.List.{List, [], ◌∷◌}
use mathlib.Core.Bool.{Bool, true, false, not}
use native.Mathlib.Omega.{arith}
use borrow.Author.Tests.{ne_eqb}
use lib.ListN.{take, drop}
use lib.Seq.{take-take, drop-drop}
use lib.Dec.{T, eqb, eqb→eq}
use Rattle.machine.specs.Lists.{pick}
use Rattle.machine.proofs.Base.{drop_take, refuse}
use Rattle.format.specs.Fields.{Field, width, widths, well_formed, read_field, read_fields}
use Rattle.format.specs.Records.{layout, Fields}
use Rattle.format.specs.Tests.{Test, test, Check, check, Tests}
use Rattle.format.specs.declared.Kind.{Kind}
use Rattle.format.specs.declared.Kind.TheVariants.{BatchTrailer}
use Rattle.format.proofs.Checks.{judge, Pass, field_checks, line_checks}
use Rattle.format.proofs.Reader.{State}
use Rattle.format.proofs.Every.{every}
use Rattle.field.specs.Rows.{Row, row, part_at, first_answer, field_answer, rows_at, check_rows, fields_at, first_or}
use Rattle.record.specs.Read.{record_for}
use Rattle.record.specs.declared.Record.TheVariants as the
use Rattle.record.specs.Faults.{Fault}
use Rattle.record.specs.declared.Before.{Before}
use Rattle.record.specs.declared.Batch.{Batch}
use Rattle.field.proofs.Numerics.{Numbered}
use Rattle.record.proofs.Faultless.{AllNumbered, numbered, faultless}
use Rattle.record.specs.Faults.{fault_at, no_fault, first_fault, fields_of, tests_for, maxima_for, fault_of}

-- ## Fields by their columns

first_field : (c w r : ℕ) (xs : List ℕ) → take w (part_at c (w + r) xs) ≡ part_at c w xs
first_field c w r xs = take-take w (w + r) (drop (c - 1) xs) (omega arith)

other_fields : (c w r : ℕ) (xs : List ℕ) → 1 ≤ c → drop w (part_at c (w + r) xs) ≡ part_at (c + w) r xs
other_fields c w r xs h =
    let e : (c - 1) + w ≡ (c + w) - 1 = omega arith in
    drop_take w r (drop (c - 1) xs) ∙ ap (take r) (drop-drop w (c - 1) xs ∙ ap (λ n. drop n xs) e)

pub fields_read : (c : ℕ) (fs : List Field) (xs : List ℕ) → 1 ≤ c → read_fields fs (part_at c (widths fs) xs) ≡ fields_at c fs xs
fields_read c [] xs h = refl
fields_read c (f ∷ fs) xs h =
    let e = first_field c (width f) (widths fs) xs in
    let q = ap (read_fields fs) (other_fields c (width f) (widths fs) xs h) ∙ fields_read (c + width f) fs xs (omega arith) in
    λ i. (read_field f (e i), q i)

-- ## Every check of the maxima has an answer

abbrev ChecksNumbered : List Check → Type 0
ChecksNumbered [] = Unit {0}
ChecksNumbered (check b n c ∷ cs) = T (not (eqb n 0)) × ChecksNumbered cs

maxima_numbered : (b : Batch) (k : Kind) (x : Fields k) → ChecksNumbered (maxima_for b k x)
maxima_numbered b = every (λ k. (x : Fields k) → ChecksNumbered (maxima_for b k x)) (λ x. tt) (λ x. tt) (λ x. tt) (λ x. tt) (λ x. tt) (λ x. (tt, (tt, tt))) (λ x. tt) (λ x. tt) (λ x. tt) (λ x. tt) (λ x. tt) (λ x. tt) (λ x. tt) (λ x. tt)

positive : (n : ℕ) → T (not (eqb n 0)) → 1 ≤ n
positive zero t = absurd t
positive (suc n) t = omega arith

-- ## Rows and checks

module _ (after : State) where
  -- what both come to: all passed, or the same refusal
  pub data Same (cs : List Check) : Fault → Type 0 where
    passed : Pass cs → Same cs no_fault
    stopped : (c n : ℕ) → 1 ≤ n → judge cs after ≡ refuse n c → Same cs (fault_at c n)

  onward : {cs : List Check} {f : Fault} (n c : ℕ) → Same cs f → Same (check true n c ∷ cs) f
  onward n c (passed p) = passed (tt, p)
  onward n c (stopped d m z e) = stopped d m z e

  refuses : (cs : List Check) (rows : List Row) (n c : ℕ) → T (not (eqb n 0)) → Same (check false n c ∷ cs) (first_or fault_at (row c n ∷ rows) no_fault)
  unfolding first_or pick
  refuses cs rows n c t =
      let h = positive n t in
      subst (λ b. Same (check false n c ∷ cs) (pick b (first_or fault_at rows no_fault) (fault_at c n))) (sym (ne_eqb n 0 (omega arith))) (stopped c n h refl)

  same_tests : (c : ℕ) (ts : List Test) (cs : List Check) (rows : List Row) → Numbered ts → Same cs (first_or fault_at rows no_fault) → Same (field_checks c ts cs) (first_or fault_at (row c (first_answer ts) ∷ rows) no_fault)
  unfolding first_or pick
  same_tests c [] cs rows t j = j
  same_tests c (test true n ∷ ts) cs rows t j = onward n c (same_tests c ts cs rows t.1 j)
  same_tests c (test false n ∷ ts) cs rows t j = refuses (field_checks c ts cs) rows n c t.0

  same_field : (q : Bool) (c : ℕ) (ts : List Test) (cs : List Check) (rows : List Row) → Numbered ts → Same cs (first_or fault_at rows no_fault)
      → Same (check q 4 c ∷ field_checks c ts cs) (first_or fault_at (row c (pick q (first_answer ts) 4) ∷ rows) no_fault)
  unfolding pick
  same_field true c ts cs rows t j = onward 4 c (same_tests c ts cs rows t j)
  same_field false c ts cs rows t j = refuses (field_checks c ts cs) rows 4 c tt

  same_fields : (c : ℕ) (fs : List Field) (t : Tests fs) (xs : List ℕ) (cs : List Check) (rows : List Row) → 1 ≤ c → AllNumbered fs t → Same cs (first_or fault_at rows no_fault)
      → Same (line_checks c fs t (part_at c (widths fs) xs) cs) (first_or fault_at (rows_at c fs t xs rows) no_fault)
  unfolding field_answer
  same_fields c [] t xs cs rows h z j = j
  same_fields c (f ∷ fs) t xs cs rows h z j =
      let w = width f in
      let r = widths fs in
      let m = same_fields (c + w) fs t.1 xs cs rows (omega arith) z.1 j in
      subst (λ l. Same (check (well_formed f l) 4 c ∷ field_checks c t.0 (line_checks (c + w) fs t.1 (drop w (part_at c (w + r) xs)) cs)) (first_or fault_at (rows_at c (f ∷ fs) t xs rows) no_fault)) (sym (first_field c w r xs))
      (subst (λ l. Same (check (well_formed f (part_at c w xs)) 4 c ∷ field_checks c t.0 (line_checks (c + w) fs t.1 l cs)) (first_or fault_at (rows_at c (f ∷ fs) t xs rows) no_fault)) (sym (other_fields c w r xs h))
      (same_field (well_formed f (part_at c w xs)) c t.0 (line_checks (c + w) fs t.1 (part_at (c + w) r xs) cs) (rows_at (c + w) fs t.1 xs rows) z.0 m))

  same_checks : (cs : List Check) → ChecksNumbered cs → Same cs (first_or fault_at (check_rows cs) no_fault)
  unfolding first_or pick
  same_checks [] z = passed tt
  same_checks (check true n c ∷ cs) z = onward n c (same_checks cs z.1)
  same_checks (check false n c ∷ cs) z = refuses cs (check_rows cs) n c z.0

  -- A LINE OF A KIND: its first fault is the first check that fails
  pub same_faults : (p : Before) (b : Batch) (k : Kind) (line : List ℕ)
      → Same (line_checks 6 (layout k) (tests_for p b k (fields_of k line)) (part_at 6 (widths (layout k)) line) (maxima_for b k (fields_of k line))) (fault_of p b k line)
  unfolding fault_of first_fault
  same_faults p b k line =
      same_fields 6 (layout k) (tests_for p b k (fields_of k line)) line (maxima_for b k (fields_of k line)) (check_rows (maxima_for b k (fields_of k line))) (omega arith) (numbered p b k (fields_of k line))
      (same_checks (maxima_for b k (fields_of k line)) (maxima_numbered b k (fields_of k line)))

-- a trailer that is accepted says what the batch has
pub trailer_says : (p : Before) (b : Batch) (line : List ℕ) → (fault_of p b BatchTrailer line).number ≡ 0 → record_for BatchTrailer (fields_of BatchTrailer line) ≡ the.BatchTrailer b.total b.accounts b.items
trailer_says p b line e =
    let h = (faultless p b BatchTrailer line e).1 in
    rw (eqb→eq _ b.total h.0.1.0, eqb→eq _ b.accounts h.1.0.0, eqb→eq _ b.items h.1.1.0.1.0)
