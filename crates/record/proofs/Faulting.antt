-- A chain of rows and what it comes to, the fault of every kind of record, and how large its number is. Assumes nothing.
use Prim.Native.Nat.{ℕ, ◌+◌, ◌≤◌}
use mathlib.Core.Path.{◌≡◌, refl, sym, ap, ◌∙◌}
use mathlib.Core.List.{List, [], ◌∷◌}
use mathlib.Core.Bool.{Bool, true, false, ◌&&◌}
use mathlib.Core.Option.{Option, none, some}
use native.Mathlib.Omega.{arith}
use borrow.Author.Tests.{leb-true, eqb-true}
use lib.Dec.{eqb, leb, ltb}
use Rattle.machine.specs.Lists.{pick, in_range}
use Rattle.machine.proofs.Base.{and_first, and_second}
use Rattle.format.specs.Fields.{Field, numeric, width, well_formed}
use Rattle.format.specs.Answers.{is_of_file}
use Rattle.format.specs.Records.{layout, Fields, group, unidentified, amount}
use Rattle.format.specs.Rules.{max_total, max_items}
use Rattle.format.specs.Tests.{Test, test, Tests, group_tests}
use Rattle.format.specs.declared.Kind.{Kind}
use Rattle.format.specs.declared.Kind.TheVariants.{FileHeader, BatchHeaderB, BatchHeaderC}
use Rattle.format.specs.declared.Group.{Group}
use Rattle.field.specs.Rows.{Row, row, part_at, first_answer, field_answer, rows_at, check_rows, first_or}
use Rattle.record.specs.Faults.{Fault}
use Rattle.record.specs.declared.Before.{Before}
use Rattle.record.specs.declared.Batch.{Batch}
use Rattle.record.specs.Faults.{fault_at, no_fault, first_fault, fields_of, fields_fault, known_group, tests_for, maxima_for, fault_of, other_fault, header_fault}
use Rattle.format.proofs.Every.{kinds, every}
use Rattle.format.specs.contracts.Kind.{the_type}
use denote.Enum.Declared.{tag_of}
use mathlib.Core.Logic.{◌⊎◌, inl, inr}
use lib.ListN.{get_or}
use borrow.Author.Tests.{eqb-false}

-- ## What a chain of rows comes to

abbrev pub Zeros : List Row → Type 0
Zeros [] = Unit {0}
Zeros (row c n ∷ R) = (n ≡ 0) × Zeros R

-- what holds of each number that a row can have, and of what comes where none has one
pub rows_all : {A : Type 0} (P : A → Type 0) (f : ℕ → ℕ → A) (a : A) (R : List Row) → ((c n : ℕ) → (n ≡ 0 → ⊥) → P (f c n)) → (Zeros R → P a) → P (first_or f R a)
unfolding first_or pick
rows_all P f a [] g h = h tt
rows_all P f a (row c n ∷ R) g h = by (eqb n 0) refl (λ e. rows_all P f a R g (λ z. h (e, z)))
  where
    by : (q : Bool) → eqb n 0 ≡ q → (n ≡ 0 → P (first_or f R a)) → P (pick q (first_or f R a) (f c n))
    by true e k = k (eqb-true n 0 e)
    by false e k = g c n (eqb-false n 0 e)

pub no_faults : (R : List Row) → (first_or fault_at R no_fault).number ≡ 0 → Zeros R
no_faults R = rows_all (λ (f : Fault). f.number ≡ 0 → Zeros R) fault_at no_fault R (λ c n z e. absurd (z e)) (λ z e. z)

pub in_range_lem : (w low high v : ℕ) (ts : List Test) (l : List ℕ) → field_answer (numeric w) (test (in_range low high v) 5 ∷ ts) l ≡ 0 → v ≤ high
unfolding field_answer pick
in_range_lem w low high v ts l e = by (well_formed (numeric w) l) (leb low v) (leb v high) refl e
  where
    by : (p q u : Bool) → leb v high ≡ u → pick p (pick (q && u) (first_answer ts) 5) 4 ≡ 0 → v ≤ high
    by true true true h e = leb-true v high h
    by true true false h e = absurd (omega arith)
    by true false u h e = absurd (omega arith)
    by false q u h e = absurd (omega arith)

-- ### For users: a record's faults have numbers that a file can have

abbrev of_file_tests : List Test → Bool
of_file_tests [] = true
of_file_tests (test b n ∷ ts) = is_of_file n && of_file_tests ts

abbrev of_file_all : (fs : List Field) → Tests fs → Bool
of_file_all [] t = true
of_file_all (f ∷ fs) t = of_file_tests t.0 && of_file_all fs t.1

abbrev OfFile : List Row → Type 0
OfFile [] = Unit {0}
OfFile (row c n ∷ R) = (is_of_file n ≡ true) × OfFile R

first_of_file : (R : List Row) → OfFile R → is_of_file (first_or fault_at R no_fault).number ≡ true
unfolding first_or pick
first_of_file [] h = refl
first_of_file (row c n ∷ R) h = by (eqb n 0) (first_of_file R h.1)
  where
    by : (q : Bool) → is_of_file (first_or fault_at R no_fault).number ≡ true → is_of_file (pick q (first_or fault_at R no_fault) (fault_at c n)).number ≡ true
    by true k = k
    by false k = h.0

tests_of_file : (ts : List Test) → of_file_tests ts ≡ true → is_of_file (first_answer ts) ≡ true
unfolding pick
tests_of_file [] h = refl
tests_of_file (test true n ∷ ts) h = tests_of_file ts (and_second (is_of_file n) (of_file_tests ts) h)
tests_of_file (test false n ∷ ts) h = and_first (is_of_file n) (of_file_tests ts) h

field_of_file : (f : Field) (ts : List Test) (l : List ℕ) → of_file_tests ts ≡ true → is_of_file (field_answer f ts l) ≡ true
unfolding field_answer pick
field_of_file f ts l h = by (well_formed f l)
  where
    by : (q : Bool) → is_of_file (pick q (first_answer ts) 4) ≡ true
    by true = tests_of_file ts h
    by false = refl

rows_of_file : (c : ℕ) (fs : List Field) (t : Tests fs) (xs : List ℕ) (k : List Row) → of_file_all fs t ≡ true → OfFile k → OfFile (rows_at c fs t xs k)
rows_of_file c [] t xs k h s = s
rows_of_file c (f ∷ fs) t xs k h s =
    (field_of_file f t.0 (part_at c (width f) xs) (and_first (of_file_tests t.0) (of_file_all fs t.1) h), rows_of_file (c + width f) fs t.1 xs k (and_second (of_file_tests t.0) (of_file_all fs t.1) h) s)

group_of_file : (o : Option Group) (t : List ℕ) → of_file_tests (group_tests o t) ≡ true
group_of_file none t = refl
group_of_file (some g) t = refl

all_of_file : (p : Before) (b : Batch) (k : Kind) (x : Fields k) → of_file_all (layout k) (tests_for p b k x) ≡ true
all_of_file p b =
    every (λ k. (x : Fields k) → of_file_all (layout k) (tests_for p b k x) ≡ true) (λ x. refl) (λ x. rw (group_of_file (known_group p) (group x))) (λ x. rw (group_of_file (known_group p) (group (unidentified x)))) (λ x. refl) (λ x. refl) (λ x. refl) (λ x. refl) (λ x. refl) (λ x. refl) (λ x. refl) (λ x. refl) (λ x. refl) (λ x. refl) (λ x. refl)

check_of_file : (q : Bool) → is_of_file (pick q 0 8) ≡ true
unfolding pick
check_of_file true = refl
check_of_file false = refl

maxima_of_file : (b : Batch) (k : Kind) (x : Fields k) → OfFile (check_rows (maxima_for b k x))
maxima_of_file b =
    every (λ k. (x : Fields k) → OfFile (check_rows (maxima_for b k x))) (λ x. tt) (λ x. tt) (λ x. tt) (λ x. tt) (λ x. tt) (λ x. (check_of_file (ltb b.items max_items), (check_of_file (leb (b.total + amount x) max_total), tt))) (λ x. tt) (λ x. tt) (λ x. tt) (λ x. tt) (λ x. tt) (λ x. tt) (λ x. tt) (λ x. tt)

pub fault_numbers : (p : Before) (b : Batch) (k : Kind) (xs : List ℕ) → is_of_file (fault_of p b k xs).number ≡ true
unfolding fault_of first_fault
fault_numbers p b k xs = first_of_file _ (rows_of_file 6 (layout k) (tests_for p b k (fields_of k xs)) xs (check_rows (maxima_for b k (fields_of k xs))) (all_of_file p b k (fields_of k xs)) (maxima_of_file b k (fields_of k xs)))

-- ## Every kind, from the call of its arm

abbrev kind_at : ℕ → Kind
kind_at n = get_or kinds n FileHeader

kind_at_lem : (k : Kind) → kind_at (tag_of the_type k) ≡ k
kind_at_lem = every (λ k. kind_at (tag_of the_type k) ≡ k) refl refl refl refl refl refl refl refl refl refl refl refl refl refl

-- an arm of two kinds knows of the kind that its place is one of these
pub at_two : {x : Fault} (p : Before) (b : Batch) (k : Kind) (xs : List ℕ) (i j : ℕ) → (tag_of the_type k ≡ i) ⊎ (tag_of the_type k ≡ j) → x ≡ other_fault p b (kind_at i) xs → x ≡ other_fault p b (kind_at j) xs → x ≡ other_fault p b k xs
at_two p b k xs i j (inl e) f g = f ∙ ap (λ n. other_fault p b (kind_at n) xs) (sym e) ∙ ap (λ m. other_fault p b m xs) (kind_at_lem k)
at_two p b k xs i j (inr e) f g = g ∙ ap (λ n. other_fault p b (kind_at n) xs) (sym e) ∙ ap (λ m. other_fault p b m xs) (kind_at_lem k)

module _ {k : Kind} {x : Fault} (p : Before) (b : Batch) (xs : List ℕ) where
  pub at_kind : (j : Kind) → k ≡ j → x ≡ other_fault p b j xs → x ≡ other_fault p b k xs
  at_kind j e h = h ∙ ap (λ i. other_fault p b i xs) (sym e)

  pub at_header_b : {i : Bool} → k ≡ BatchHeaderB → i ≡ false → x ≡ header_fault i p xs → x ≡ other_fault p b k xs
  unfolding other_fault fault_of fields_fault pick
  at_header_b e f h = at_kind BatchHeaderB e (rw f at h)

  pub at_header_c : {i : Bool} → k ≡ BatchHeaderC → i ≡ true → x ≡ header_fault i p xs → x ≡ other_fault p b k xs
  unfolding other_fault fault_of fields_fault pick
  at_header_c e f h = at_kind BatchHeaderC e (rw f at h)
