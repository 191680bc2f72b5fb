-- The checks of a line in their order, from the tests of its fields' values; and that a field reads back what was written. Proved once for every table of fields.
use mathlib.Core.Path.{◌≡◌, refl, sym, ap₂, ◌∙◌, subst}
use mathlib.Core.Bool.{true, false}
use mathlib.Core.List.{List, [], ◌∷◌, ◌++◌}
use Prim.Native.Nat.{ℕ, suc, ◌+◌, ◌*◌, ◌-◌, ◌≤◌, ◌<◌}
use native.Mathlib.Omega.{arith}
use native.Mathlib.Nat.{mul-le-mul_right}
use lib.ListN.{length, take, drop, take-append-drop, length-drop, length-append, length-replicate}
use lib.Seq.{take_at, drop_at, length-take-le}
use lib.Dec.{T, leb, leb→le}
use Rattle.machine.specs.Lists.{all, is_digit}
use Rattle.machine.specs.Digits.{pow10, value_after, value_of}
use Rattle.machine.proofs.Base.{Outcome, next, refuse, next≢refuse, and_l, and_r}
use Rattle.machine.proofs.Digits.{length_decimal, decimal_digits, value_decimal, decimal_value, blank, spaces_blank}
use Rattle.format.specs.Fields.{Field, numeric, filled, optional, free, filler, width, Value, well_formed, read_field, write_field, Fit, Values, widths, write_fields, read_fields, Fits}
use Rattle.format.specs.Answers.{wrong_form}
use Rattle.format.specs.Tests.{Test, test, Check, check, Tests}

-- ## A field: what is read is what was written, both ways

value_bound : (l : List ℕ) (a : ℕ) → T (all is_digit l) → value_after a l < suc a * pow10 (length l)
unfolding value_after
value_bound [] a t = omega arith
value_bound (c ∷ l) a t =
    let d = and_l (is_digit c) (all is_digit l) t in
    let hi = leb→le c 57 (and_r (leb 48 c) (leb c 57) d) in
    let b : suc (a * 10 + (c - 48)) ≤ 10 * suc a = omega arith in
    let r = value_bound l (a * 10 + (c - 48)) (and_r (is_digit c) (all is_digit l) t) in
    omega (arith, r, mul-le-mul_right (pow10 (length l)) b)

pub read_field_lem : (f : Field) (l : List ℕ) → length l ≡ width f → T (well_formed f l) → Fit f (read_field f l) × (l ≡ write_field f (read_field f l))
read_field_lem (numeric w) l h t = (subst (λ n. value_of l < pow10 n) h (omega (arith, value_bound l 0 t)), decimal_value w l h t)
read_field_lem (filled w) l h t = ((h, t), refl)
read_field_lem (optional w) l h t = ((h, t), refl)
read_field_lem (free w) l h t = ((h, t), refl)
read_field_lem (filler w) l h t = (tt, blank w l h t)

pub field_read : (f : Field) (x : Value f) → Fit f x → T (well_formed f (write_field f x)) × (read_field f (write_field f x) ≡ x) × (length (write_field f x) ≡ width f)
field_read (numeric w) x h = (decimal_digits w x, value_decimal w x h, length_decimal w x)
field_read (filled w) x h = (h.1, refl, h.0)
field_read (optional w) x h = (h.1, refl, h.0)
field_read (free w) x h = (h.1, refl, h.0)
field_read (filler w) x h = (spaces_blank w, refl, length-replicate w 32)

-- ## Checks in order: the first that fails refuses

abbrev pub judge : {S : Type 0} → List Check → S → Outcome S
judge [] s = next s
judge (check true n c ∷ cs) s = judge cs s
judge (check false n c ∷ cs) s = refuse n c

abbrev pub Pass : List Check → Type 0
Pass [] = Unit {0}
Pass (check b n c ∷ cs) = T b × Pass cs

pub judge_pass : {S : Type 0} (cs : List Check) (s s' : S) → judge cs s ≡ next s' → Pass cs × (s ≡ s')
judge_pass [] s s' e = (tt, cc)
judge_pass (check true n c ∷ cs) s s' e = let r = judge_pass cs s s' e in ((tt, r.0), r.1)
judge_pass (check false n c ∷ cs) s s' e = absurd (next≢refuse s' n c e)

pub pass_judge : {S : Type 0} (cs : List Check) (s : S) → Pass cs → judge cs s ≡ next s
pass_judge [] s p = refl
pass_judge (check true n c ∷ cs) s p = pass_judge cs s p.1
pass_judge (check false n c ∷ cs) s p = absurd p.0

-- ## The checks of a line: the field furthest left first, in one field its form and then its tests; k at last

abbrev pub Hold : List Test → Type 0
Hold [] = Unit {0}
Hold (test b n ∷ ts) = T b × Hold ts

abbrev pub Holds : (fs : List Field) → Tests fs → Type 0
Holds [] t = Unit {0}
Holds (f ∷ fs) t = Hold t.0 × Holds fs t.1

abbrev pub field_checks : ℕ → List Test → List Check → List Check
field_checks column [] k = k
field_checks column (test b n ∷ ts) k = check b n column ∷ field_checks column ts k

abbrev pub line_checks : ℕ → (fs : List Field) → Tests fs → List ℕ → List Check → List Check
line_checks column [] t l k = k
line_checks column (f ∷ fs) t l k = check (well_formed f (take (width f) l)) wrong_form column ∷ field_checks column t.0 (line_checks (column + width f) fs t.1 (drop (width f) l) k)

pub field_passed : (c : ℕ) (ts : List Test) (k : List Check) → Pass (field_checks c ts k) → Hold ts × Pass k
field_passed c [] k p = (tt, p)
field_passed c (test b n ∷ ts) k p = let r = field_passed c ts k p.1 in ((p.0, r.0), r.1)

field_passes : (c : ℕ) (ts : List Test) (k : List Check) → Hold ts → Pass k → Pass (field_checks c ts k)
field_passes c [] k h p = p
field_passes c (test b n ∷ ts) k h p = (h.0, field_passes c ts k h.1 p)

-- what is known of a line that passed
pub record Passed (fs : List Field) (t : Tests fs) (l : List ℕ) (k : List Check) : Type 0 where
  pub fits : Fits fs (read_fields fs l)
  pub holds : Holds fs t
  pub after : Pass k
  pub same : l ≡ write_fields fs (read_fields fs l)

pub line_passed : (c : ℕ) (fs : List Field) (t : Tests fs) (l : List ℕ) (k : List Check) → length l ≡ widths fs → Pass (line_checks c fs t l k) → Passed fs t l k
line_passed c [] t [] k h p = record { fits = tt; holds = tt; after = p; same = refl }
line_passed c [] t (x ∷ l) k h p = absurd (omega arith)
line_passed c (f ∷ fs) t l k h p =
    let q = field_passed c t.0 (line_checks (c + width f) fs t.1 (drop (width f) l) k) p.1 in
    let r = line_passed (c + width f) fs t.1 (drop (width f) l) k (rw length-drop (omega arith)) q.1 in
    let m = read_field_lem f (take (width f) l) (length-take-le (width f) l (omega arith)) p.0 in
    record { fits = (m.0, r.fits); holds = (q.0, r.holds); after = r.after; same = sym (take-append-drop (width f) l) ∙ ap₂ ◌++◌ m.1 r.same }

-- and of one that was written
pub record Written (c : ℕ) (fs : List Field) (t : Tests fs) (x : Values fs) (k : List Check) : Type 0 where
  pub passes : Pass (line_checks c fs t (write_fields fs x) k)
  pub back : read_fields fs (write_fields fs x) ≡ x
  pub long : length (write_fields fs x) ≡ widths fs

pub line_written : (c : ℕ) (fs : List Field) (t : Tests fs) (x : Values fs) (k : List Check) → Fits fs x → Holds fs t → Pass k → Written c fs t x k
line_written c [] t x k h p q = record { passes = q; back = refl; long = refl }
line_written c (f ∷ fs) t x k h p q =
    let m = field_read f x.0 h.0 in
    let r = line_written (c + width f) fs t.1 x.1 k h.1 p.1 q in
    let a = take_at (write_field f x.0) (write_fields fs x.1) (width f) m.2 in
    let b = drop_at (write_field f x.0) (write_fields fs x.1) (width f) m.2 in
    record {
      passes = rw (a, b) (m.0, field_passes c t.0 _ p.0 r.passes);
      back = rw (a, b) (λ i. (m.1 i, r.back i));
      long = rw length-append (omega (arith, m.2, r.long));
    }
