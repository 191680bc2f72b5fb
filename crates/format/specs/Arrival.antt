-- NOT MORE THAN THIRTY DAYS AHEAD (02): days by the calendar, and the desired dates that an arrival date lets pass.
use Rattle.std.specs.Prelude.{Bool, true, ◌&&◌, ◌||◌, List, [], ◌∷◌, ℕ, zero, suc, ◌+◌, ◌-◌, ◌/◌, ◌%◌, T, eqb, ℤ, pos, ◌-ℤ◌, Some, None, Option}
use Rattle.std.specs.Int.Signed.{le_z}
use Rattle.format.specs.Rules.{days_in, is_date, untimely_date}
use Rattle.format.specs.Tests.{Test, test}

-- ## Days by the calendar

-- the days of the first so many months of a year
unfoldable pub days_of_months : ℕ → ℕ → ℕ
days_of_months year zero = 0
days_of_months year (suc m) = days_of_months year m + days_in (suc m) year

-- of the first so many years from 2000
unfoldable pub days_of_years : ℕ → ℕ
days_of_years zero = 0
days_of_years (suc y) = days_of_years y + days_of_months y 12

-- the days before a date, ddmmyy, from 1 January 2000 on: of the years before, of the months before, and of its month
unfoldable pub day_number : ℕ → ℕ
day_number d = days_of_years (d % 100) + days_of_months (d % 100) (d / 100 % 100 - 1) + (d / 10000 - 1)

-- 'the difference is a signed number of days, negative for a date gone by'
unfoldable pub days_ahead : ℕ → ℕ → ℤ
days_ahead arrival desired = pos (day_number desired) -ℤ pos (day_number arrival)

-- ## By the arrival date

-- the date on which a file arrives: none where it is read without one
abbrev pub Arrival : Type 0
Arrival = Option ℕ

-- 'Zero to 30 passes'
unfoldable pub is_near : ℤ → Bool
is_near days = le_z (pos 0) days && le_z days (pos 30)

-- 'as does a date left at zeros'; nothing else by an arrival date that does not exist
unfoldable pub is_timely : ℕ → ℕ → Bool
is_timely arrival desired = eqb desired 0 || (is_date arrival && is_near (days_ahead arrival desired))

-- 'A file read without an arrival date is judged as before': of it every desired date is in time
abbrev pub InTime : Arrival → ℕ → Type 0
InTime None desired = Unit {0}
InTime (Some arrival) desired = T (is_timely arrival desired)

-- 'an impossible arrival date': one that does not exist, zeros too; none given is none
unfoldable pub is_possible : Arrival → Bool
is_possible None = true
is_possible (Some arrival) = is_date arrival

-- by the arrival date, if any
abbrev pub arrival_tests : Arrival → ℕ → List Test
arrival_tests None v = []
arrival_tests (Some arrival) v = test (is_timely arrival v) untimely_date ∷ []
