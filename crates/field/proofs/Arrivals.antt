-- Days of months and years, the day number's bounds, and signed days apart. Assumes nothing.
use Rattle.std.specs.Prelude.{Some, None}
use Prim.Native.Nat.{ℕ, zero, suc, ◌+◌, ◌-◌, ◌*◌, ◌/◌, ◌%◌, ◌≤◌, ◌<◌}
use mathlib.Core.Path.{◌≡◌, refl, sym, ◌∙◌, ap, ap₂}
use mathlib.Core.Bool.{Bool, true, false, cond, ◌||◌}
use native.Mathlib.Omega.{arith}
use borrow.Author.Tests.{eqb-true, eqb-false, ne_eqb}
use lib.Dec.{T, ltb, eqb, leb, leb→le}
use lib.IntN.{ℤ, pos, negsuc, ◌-ℤ◌}
use lib.Signed.{mag}
use mir.Syntax.{w32, w64}
use mir.Val.{Fits, SFits, to_z, of_z}
use mir.ValLaws.{to_z-of_z, to_z_pos}
use Rattle.machine.specs.Lists.{pick, in_range}
use Rattle.machine.proofs.Base.{and_l, and_r, of_eq}
use Rattle.format.specs.Rules.{days_in, is_date}
use Rattle.field.specs.Rows.{first_answer}
use Rattle.format.specs.Arrival.{days_of_months, days_of_years, day_number, days_ahead, is_near, is_timely, is_possible, arrival_tests, Arrival}

-- ## The months before

few_days : (m y : ℕ) → days_in m y ≤ 31
unfolding days_in pick
few_days m y = by (eqb m 2) (eqb (y % 4) 0) (eqb m 4 || (eqb m 6 || (eqb m 9 || eqb m 11)))
  where
    by : (s t u : Bool) → pick s (pick t 29 28) (pick u 30 31) ≤ 31
    by true true u = omega arith
    by true false u = omega arith
    by false t true = omega arith
    by false t false = omega arith

months_le : (y m : ℕ) → days_of_months y m ≤ 31 * m
unfolding days_of_months
months_le y zero = omega arith
months_le y (suc m) = let h = months_le y m in let k = few_days (suc m) y in omega (arith, h, k)

module _ (y i : ℕ) {s r : ℕ} (e : s ≡ days_of_months y (i - 1)) (t : r ≡ days_in i y) where
  pub months_fit : {m : ℕ} → i < m → m ≤ 12 → Fits w64 (s + r)
  months_fit h k = let a = months_le y (i - 1) in let b = few_days i y in record { fits = omega (arith, a, b, e, t) }

  pub months_more : 1 ≤ i → s + r ≡ days_of_months y ((i + 1) - 1)
  unfolding days_of_months
  months_more h = ap₂ (λ a b. a + b) e t ∙ step i h
    where
      step : (j : ℕ) → 1 ≤ j → days_of_months y (j - 1) + days_in j y ≡ days_of_months y ((j + 1) - 1)
      step zero k = absurd (omega arith)
      step (suc j) k =
          let a : suc j - 1 ≡ j = omega arith in
          let b : (suc j + 1) - 1 ≡ suc j = omega arith in
          ap (λ n. days_of_months y n + days_in (suc j) y) a ∙ sym (ap (days_of_months y) b)

-- ## The years before

year_days : (y : ℕ) → days_of_months y 12 ≡ pick (eqb (y % 4) 0) 366 365
unfolding days_of_months days_in pick
year_days y = by (eqb (y % 4) 0) refl
  where
    by : (t : Bool) → eqb (y % 4) 0 ≡ t → days_of_months y 12 ≡ pick (eqb (y % 4) 0) 366 365
    by true e = rw e
    by false e = rw e

-- 365 days a year, and a leap day for every fourth from 2000 on
years_are : (y : ℕ) → days_of_years y ≡ y * 365 + (y + 3) / 4
unfolding days_of_years pick
years_are zero = refl
years_are (suc y) = by (eqb (y % 4) 0) refl (years_are y) (year_days y)
  where
    by : (t : Bool) → eqb (y % 4) 0 ≡ t → days_of_years y ≡ y * 365 + (y + 3) / 4 → days_of_months y 12 ≡ pick (eqb (y % 4) 0) 366 365 → days_of_years y + days_of_months y 12 ≡ suc y * 365 + (suc y + 3) / 4
    by true e i d = let h = eqb-true (y % 4) 0 e in let k : days_of_months y 12 ≡ 366 = d ∙ rw e in omega (arith, h, i, k)
    by false e i d = let h = eqb-false (y % 4) 0 e in let k : days_of_months y 12 ≡ 365 = d ∙ rw e in omega (arith, h, i, k)

-- ## A date

module _ (d : ℕ) (h : is_date d ≡ true) where
  month_in : T (in_range 1 12 (d / 100 % 100))
  unfolding is_date
  month_in = and_l (in_range 1 12 (d / 100 % 100)) (in_range 1 (days_in (d / 100 % 100) (d % 100)) (d / 10000)) (of_eq (is_date d) h)

  day_in : T (in_range 1 (days_in (d / 100 % 100) (d % 100)) (d / 10000))
  unfolding is_date
  day_in = and_r (in_range 1 12 (d / 100 % 100)) (in_range 1 (days_in (d / 100 % 100) (d % 100)) (d / 10000)) (of_eq (is_date d) h)

  pub month_from : 1 ≤ d / 100 % 100
  month_from = leb→le 1 (d / 100 % 100) (and_l (leb 1 (d / 100 % 100)) (leb (d / 100 % 100) 12) month_in)

  pub month_to : d / 100 % 100 ≤ 12
  month_to = leb→le (d / 100 % 100) 12 (and_r (leb 1 (d / 100 % 100)) (leb (d / 100 % 100) 12) month_in)

  pub day_from : 1 ≤ d / 10000
  day_from = leb→le 1 (d / 10000) (and_l (leb 1 (d / 10000)) (leb (d / 10000) (days_in (d / 100 % 100) (d % 100))) day_in)

  day_to : d / 10000 ≤ 31
  day_to =
      let i = leb→le (d / 10000) (days_in (d / 100 % 100) (d % 100)) (and_r (leb 1 (d / 10000)) (leb (d / 10000) (days_in (d / 100 % 100) (d % 100))) day_in) in
      let j = few_days (d / 100 % 100) (d % 100) in
      omega (arith, i, j)

  number_le : day_number d ≤ 40000
  unfolding day_number
  number_le =
      let a = years_are (d % 100) in let b = months_le (d % 100) (d / 100 % 100 - 1) in let c = month_to in let e = day_to in omega (arith, a, b, c, e)

  module _ {r : ℕ} (t : r ≡ days_of_months (d % 100) (d / 100 % 100 - 1)) where
    number_is : (d % 100 * 365 + (d % 100 + 3) / 4) + r + (d / 10000 - 1) ≡ day_number d
    unfolding day_number
    number_is = let a = years_are (d % 100) in omega (arith, a, t)

    pub sum_fits : Fits w64 ((d % 100 * 365 + (d % 100 + 3) / 4) + r)
    sum_fits = let a = number_is in let b = number_le in record { fits = omega (arith, a, b) }

    pub all_fits : Fits w64 ((d % 100 * 365 + (d % 100 + 3) / 4) + r + (d / 10000 - 1))
    all_fits = let a = number_is in let b = number_le in record { fits = omega (arith, a, b) }

    pub all_sfits : SFits w32 (pos ((d % 100 * 365 + (d % 100 + 3) / 4) + r + (d / 10000 - 1)))
    all_sfits = let a = number_is in let b = number_le in record { sfits = omega (arith, a, b) }

    pub all_is : to_z w32 ((d % 100 * 365 + (d % 100 + 3) / 4) + r + (d / 10000 - 1)) ≡ pos (day_number d)
    all_is = let b = number_le in ap (to_z w32) number_is ∙ to_z_pos w32 (day_number d) (omega (arith, b))

-- ## Days ahead

abbrev read : ℤ → ℤ
read z = to_z w32 (of_z w32 z)

diff_mag : (m n : ℕ) → mag (pos m -ℤ pos n) ≤ m + n
diff_mag m zero = omega arith
diff_mag m (suc n) = by (ltb m (suc n)) refl
  where
    by : (t : Bool) → ltb m (suc n) ≡ t → mag (cond t (negsuc (suc n - suc m)) (pos (m - suc n))) ≤ m + suc n
    by true e = omega arith
    by false e = omega arith

module _ (a d : ℕ) (k : is_date a ≡ true) (h : is_date d ≡ true) {x y : ℤ} (f : SFits w32 x) (g : SFits w32 y) (u : x ≡ pos (day_number d)) (v : y ≡ pos (day_number a)) where
  plain : read x -ℤ read y ≡ pos (day_number d) -ℤ pos (day_number a)
  plain = ap₂ (λ p q. p -ℤ q) (to_z-of_z w32 x f ∙ u) (to_z-of_z w32 y g ∙ v)

  plain_fits : SFits w32 (pos (day_number d) -ℤ pos (day_number a))
  plain_fits = let i = diff_mag (day_number d) (day_number a) in let p = number_le d h in let q = number_le a k in record { sfits = omega (arith, i, p, q) }

  pub ahead_is : read (read x -ℤ read y) ≡ days_ahead a d
  unfolding days_ahead
  ahead_is = ap read plain ∙ to_z-of_z w32 (pos (day_number d) -ℤ pos (day_number a)) plain_fits

-- ## In time

no_zeros : (d : ℕ) → is_date d ≡ true → eqb d 0 ≡ false
no_zeros d h = let i = day_from d h in ne_eqb d 0 (omega (arith, i))

module _ (a d : ℕ) {r : Bool} (h : is_date d ≡ true) (e : r ≡ is_date a) where
  pub timely_yes : r ≡ true → {z : ℤ} {near : Bool} → z ≡ days_ahead a d → near ≡ is_near z → near ≡ is_timely a d
  unfolding is_timely
  timely_yes t u v = rw (no_zeros d h, sym e ∙ t, sym u) v

  pub timely_no : r ≡ false → false ≡ is_timely a d
  unfolding is_timely
  timely_no t = rw (no_zeros d h, sym e ∙ t)

-- ## By cases of the arrival

module _ {t : Arrival} {d : ℕ} {b : Bool} (v : ℕ) (e : t ≡ Some d) (k : b ≡ is_timely d v) where
  pub arrival_yes : b ≡ true → 0 ≡ first_answer (arrival_tests t v)
  unfolding pick
  arrival_yes h = rw (e, sym k ∙ h)

  pub arrival_no : b ≡ false → 21 ≡ first_answer (arrival_tests t v)
  unfolding pick
  arrival_no h = rw (e, sym k ∙ h)

pub arrival_none : {t : Arrival} (v : ℕ) → t ≡ None → 0 ≡ first_answer (arrival_tests t v)
arrival_none v e = rw e

pub ruleset arrivals = (arrival_yes, arrival_no, arrival_none)

-- 'a date left at zeros'
pub zeros_pass : (t : Arrival) (v : ℕ) → v ≡ 0 → 0 ≡ first_answer (arrival_tests t v)
unfolding is_timely pick
zeros_pass None v e = refl
zeros_pass (Some d) v e = rw e

-- ## By cases of the arrival

pub possible_on : {t : Arrival} {d : ℕ} {b : Bool} → t ≡ Some d → b ≡ is_date d → b ≡ is_possible t
unfolding is_possible
possible_on e h = h ∙ ap is_possible (sym e)

pub possible_none : {t : Arrival} → t ≡ None → true ≡ is_possible t
unfolding is_possible
possible_none e = ap is_possible (sym e)
