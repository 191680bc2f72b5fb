-- A line without a fault: each of its fields is well formed and passes its tests. Assumes nothing.
use Prim.Native.Nat.{ℕ, ◌+◌}
use mathlib.Core.Path.{◌≡◌, refl, sym, ◌∙◌, subst}
use mathlib.Core.List.{List, [], ◌∷◌}
use mathlib.Core.Bool.{Bool, true, false, not}
use mathlib.Core.Option.{Option, none, some}
use borrow.Author.Tests.{eqb-true, eq-eqb}
use lib.Dec.{T, eqb}
use Rattle.machine.specs.Lists.{pick}
use Rattle.machine.proofs.Base.{true≢false}
use Rattle.format.specs.Fields.{Field, width, well_formed}
use Rattle.format.specs.Records.{layout, Fields}
use Rattle.format.specs.Tests.{Test, test, Tests, same_group_tests}
use Rattle.format.specs.declared.Kind.{Kind}
use Rattle.format.specs.declared.Kind.TheVariants.{FileHeader, BatchHeaderB, BatchHeaderC, FixedDescription, OrderingParty, Transaction, NamePayer, CityPayer, PaymentReference, Description, NameBeneficiary, CityBeneficiary, BatchTrailer, FileTrailer}
use Rattle.format.specs.declared.Group.{Group}
use Rattle.format.proofs.Checks.{Hold, Holds}
use Rattle.field.specs.Rows.{Row, part_at, first_answer, field_answer, rows_at, check_rows, first_or}
use Rattle.field.proofs.Numerics.{Numbered}
use Rattle.record.specs.Faults.{fault_at, no_fault, first_fault, fields_of, known_group, tests_for, maxima_for, fault_of}
use Rattle.record.specs.declared.Before.{Before}
use Rattle.record.specs.declared.Batch.{Batch}
use Rattle.record.specs.Faults.{Fault}
use Rattle.record.proofs.Reading.{is_formed}

-- ## Every test has an answer

abbrev pub AllNumbered : (fs : List Field) → Tests fs → Type 0
AllNumbered [] t = Unit {0}
AllNumbered (f ∷ fs) t = Numbered t.0 × AllNumbered fs t.1

group_numbered : (o : Option Group) (t : List ℕ) → Numbered (same_group_tests o t)
group_numbered none t = tt
group_numbered (some g) t = (tt, tt)

pub numbered : (p : Before) (b : Batch) (k : Kind) (x : Fields k) → AllNumbered (layout k) (tests_for p b k x)
numbered p b FileHeader x = ((tt, tt), ((tt, tt), (tt, ((tt, (tt, tt)), ((tt, tt), (tt, tt))))))
numbered p b BatchHeaderB x = ((tt, group_numbered (known_group p) _), ((tt, (tt, tt)), ((tt, (tt, tt)), ((tt, tt), (tt, (tt, tt))))))
numbered p b BatchHeaderC x = ((tt, group_numbered (known_group p) _), ((tt, (tt, tt)), ((tt, (tt, tt)), ((tt, tt), (tt, (tt, tt))))))
numbered p b FixedDescription x = (tt, (tt, tt))
numbered p b OrderingParty x = ((tt, (tt, tt)), ((tt, tt), (tt, ((tt, tt), (tt, tt)))))
numbered p b Transaction x = ((tt, (tt, tt)), ((tt, tt), ((tt, (tt, (tt, (tt, tt)))), ((tt, (tt, (tt, (tt, tt)))), (tt, tt)))))
numbered p b NamePayer x = (tt, (tt, tt))
numbered p b CityPayer x = (tt, tt)
numbered p b PaymentReference x = (tt, (tt, tt))
numbered p b Description x = (tt, (tt, tt))
numbered p b NameBeneficiary x = (tt, (tt, tt))
numbered p b CityBeneficiary x = (tt, tt)
numbered p b BatchTrailer x = ((tt, (tt, tt)), ((tt, tt), ((tt, (tt, tt)), (tt, tt))))
numbered p b FileTrailer x = (tt, tt)

-- ## Rows that all passed

none_fails : (ts : List Test) → Numbered ts → first_answer ts ≡ 0 → Hold ts
unfolding pick
none_fails [] n z = tt
none_fails (test true a ∷ ts) n z = (tt, none_fails ts n.1 z)
none_fails (test false a ∷ ts) n z = absurd (subst (λ b. T (not b)) (eq-eqb a 0 z) n.0)

-- the fields from a column on are well formed
abbrev pub Formed : ℕ → List Field → List ℕ → Type 0
Formed c [] xs = Unit {0}
Formed c (f ∷ fs) xs = (well_formed f (part_at c (width f) xs) ≡ true) × Formed (c + width f) fs xs

passed : (c : ℕ) (fs : List Field) (t : Tests fs) (xs : List ℕ) (k : List Row) → AllNumbered fs t → (first_or fault_at (rows_at c fs t xs k) no_fault).number ≡ 0 → Formed c fs xs × Holds fs t
unfolding first_or pick
passed c [] t xs k n z = (tt, tt)
passed c (f ∷ fs) t xs k n z = by (eqb no 0) refl (passed (c + width f) fs t.1 xs k n.1) z
  where
    no : ℕ
    no = field_answer f t.0 (part_at c (width f) xs)

    rest : Fault
    rest = first_or fault_at (rows_at (c + width f) fs t.1 xs k) no_fault

    by : (q : Bool) → eqb no 0 ≡ q → (rest.number ≡ 0 → Formed (c + width f) fs xs × Holds fs t.1) → (pick q rest (fault_at c no)).number ≡ 0 → Formed c (f ∷ fs) xs × Holds (f ∷ fs) t
    by true e again y =
        let a = is_formed f t.0 (part_at c (width f) xs) (eqb-true no 0 e) in
        let r = again y in
        ((a.0, r.0), (none_fails t.0 n.0 a.1, r.1))
    by false e again y = absurd (true≢false (sym (eq-eqb no 0 y) ∙ e))

pub faultless : (p : Before) (b : Batch) (k : Kind) (line : List ℕ) → (fault_of p b k line).number ≡ 0 → Formed 6 (layout k) line × Holds (layout k) (tests_for p b k (fields_of k line))
unfolding fault_of first_fault
faultless p b k line z = passed 6 (layout k) (tests_for p b k (fields_of k line)) line (check_rows (maxima_for b k (fields_of k line))) (numbered p b k (fields_of k line)) z
