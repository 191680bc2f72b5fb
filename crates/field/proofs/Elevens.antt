-- The eleven check by digits, and the accounts of a transaction. Assumes nothing.
use Prim.Native.Nat.{ℕ, suc, ◌+◌, ◌-◌, ◌*◌, ◌%◌, ◌<◌, ◌≤◌}
use mathlib.Core.Path.{◌≡◌, sym, ap, ◌∙◌}
use mathlib.Core.List.{List}
use mathlib.Core.Bool.{Bool, true, false, not, ◌&&◌}
use native.Mathlib.Omega.{arith}
use native.Mathlib.Numerals.{add-one}
use borrow.Author.Tests.{le-leb, lt-leb}
use lib.ListN.{length, get_or, take, drop, drop_of_length-le, length-take}
use lib.Seq.{drop-cons}
use lib.Dec.{eqb, leb}
use Rattle.std.specs.Prelude.{Result, Ok}
use Rattle.machine.specs.Lists.{pick, all, is_digit}
use Rattle.machine.specs.Digits.{value_of}
use Rattle.format.specs.Rules.{max_account, is_eleven, is_ordering_account, is_seven_digits, is_own_if, is_seven_if}
use Rattle.format.specs.Answers.{differs, ordinary_account}
use Rattle.format.specs.Tests.{Test, role_tests}
use Rattle.format.specs.declared.Refusal.{Refusal}
use Rattle.field.specs.Leaf.{Numeric}
use Rattle.field.specs.Leaf.{TenDigits, wrong_as, right_of, numeric_of, numeric_read}
use Rattle.field.specs.Taught.{running_totals, added, second_sum, is_eleven_taught}
use Rattle.field.proofs.Numerics.{first_of, is_digits, next_high, next_left, value_below}
use Rattle.field.proofs.Results.{results}
use Rattle.field.proofs.Rows.{of_value}
use Rattle.field.proofs.Taught.{same_of_ten}

-- ## The two sums, digit by digit

pub record Adding (s : List ℕ) (running second i : ℕ) : Type 0 where
  pub within : i ≤ length s
  pub digits : all is_digit (drop i s) ≡ true
  pub running_most : running ≤ 9 * i
  pub second_most : second ≤ 90 * i
  pub left : second + added (running_totals running (drop i s)) ≡ second_sum s

pub adding_none : (s : List ℕ) → all is_digit s ≡ true → Adding s 0 0 0
unfolding second_sum
adding_none s h = record { within = omega arith; digits = h; running_most = omega arith; second_most = omega arith; left = omega arith }

module _ {s : List ℕ} {running second i : ℕ} (r : Adding s running second i) where
  pub adding_all : length s ≤ i → eqb (second % 11) 0 ≡ is_eleven_taught s
  unfolding running_totals added is_eleven_taught
  adding_all l =
      let e : second + 0 ≡ second = omega arith in
      let q : second ≡ second_sum s = sym e ∙ rw (← r.left, drop_of_length-le s l) in
      ap (λ n. eqb (n % 11) 0) q

  pub adding_more : {d : ℕ} → i < length s → d ≡ get_or s i 0 - 48 → length s ≤ 10 → Adding s (running + d) (second + (running + d)) (i + 1)
  unfolding running_totals added
  adding_more {d} h e k =
      let high = next_high s i r.digits h in
      let q : added (running_totals running (drop i s)) ≡ (running + d) + added (running_totals (running + d) (drop (suc i) s)) = rw (drop-cons s i 0 h, e) in
      record {
        within = omega arith;
        digits = next_left s i r.digits h;
        running_most = omega (arith, r, high);
        second_most = omega (arith, r, high);
        left = rw add-one (omega (arith, r.left, q));
      }

-- ## It is the check of the number

pub ordering_yes : {l : List ℕ} {v : ℕ} {passes : Bool} → TenDigits l v → passes ≡ is_eleven_taught l → 100000000 ≤ v → passes ≡ is_ordering_account v
unfolding is_ordering_account
ordering_yes {l} {v} t e h = e ∙ same_of_ten l t.short t.digits ∙ ap is_eleven (sym t.value) ∙ sym (rw (le-leb 100000000 v h))

pub ordering_no : (v : ℕ) → v < 100000000 → leb 100000000 v ≡ is_ordering_account v
unfolding is_ordering_account
ordering_no v h = rw (lt-leb 100000000 v h)

-- ## The number

-- what a call on ten characters answered
module _ {f : Result ℕ Refusal} {v : ℕ} (tests : ℕ → List Test) (m : List ℕ) (e : numeric_read f ≡ numeric_of tests (take 10 m)) (w : f ≡ Ok v) where
  nothing : (numeric_read f).number ≡ 0
  nothing = ap (λ (g : Result ℕ Refusal). (numeric_read g).number) w

  ten : all is_digit (take 10 m) ≡ true
  unfolding numeric_of
  ten = is_digits tests (take 10 m) (sym (ap (λ (n : Numeric). n.number) e) ∙ nothing)

  stands : v ≡ value_of (take 10 m)
  stands = sym (ap (λ (g : Result ℕ Refusal). (numeric_read g).value) w) ∙ of_value tests (take 10 m) e nothing

  -- no ten digits are above the largest account
  pub ten_most : v ≤ max_account
  ten_most = rw stands (omega (arith, value_below 10 (take 10 m) (rw length-take (omega arith)) ten))

  pub ten_digits_lem : {p : List ℕ} → p ≡ take 10 m → TenDigits p v
  ten_digits_lem q = record { short = rw (q, length-take) (omega arith); digits = rw q ten; value = stands ∙ ap value_of (sym q) }

pub none_low : {n : ℕ} → n ≡ 0 → n < 1
none_low h = omega arith

pub some_low : {n : ℕ} → (n ≡ 0 → ⊥) → 1 ≤ n
some_low h = omega arith

pub ruleset tens = (results, ten_most, none_low, some_low)

-- ## Whose account it is

module _ {short : Bool} (asked : Bool) (v : ℕ) (e : short ≡ is_seven_digits v) where
  by_asked : {q : Bool} → (asked && not short) ≡ q → is_seven_if asked v ≡ not q
  unfolding is_seven_if
  by_asked h = by asked short e h
    where
      by : {q : Bool} (asked short : Bool) → short ≡ is_seven_digits v → (asked && not short) ≡ q → is_seven_if asked v ≡ not q
      by true true e h = sym e ∙ ap not h
      by true false e h = sym e ∙ ap not h
      by false short e h = ap not h

  pub seven_not : (asked && not short) ≡ true → is_seven_if asked v ≡ false
  seven_not h = by_asked h

  pub seven : (asked && not short) ≡ false → is_seven_if asked v ≡ true
  seven h = by_asked h

module _ {mine : Bool} {r : Numeric} (v own : ℕ) (unchecked : Bool) where
  pub is_own : mine ≡ true → r ≡ pick (eqb v own) (right_of v) (wrong_as differs) → r ≡ first_of (role_tests mine own unchecked v) v
  unfolding is_own_if is_seven_if pick
  is_own h e = rw h e

  pub is_other : mine ≡ false → r ≡ pick (is_seven_if unchecked v) (right_of v) (wrong_as ordinary_account) → r ≡ first_of (role_tests mine own unchecked v) v
  unfolding is_own_if pick
  is_other h e = rw h e
