-- The value of digits, and numeric fields by what the digits are. Assumes nothing.
use Prim.Native.Nat.{ℕ, zero, suc, ◌+◌, ◌-◌, ◌*◌, ◌<◌, ◌≤◌}
use mathlib.Core.Path.{◌≡◌, refl, sym, ap, ◌∙◌, subst}
use mathlib.Core.List.{List, [], ◌∷◌}
use mathlib.Core.Bool.{Bool, true, false, not, ◌&&◌}
use native.Mathlib.Omega.{arith}
use native.Mathlib.Numerals.{add-one}
use borrow.Author.Rules.{rules}
use borrow.Author.Tests.{le-leb, lt-leb, leb-true, eq-eqb, ne_eqb}
use lib.ListN.{length, get_or, take, drop, drop_of_length-le, length-take}
use lib.Seq.{drop-cons}
use lib.Dec.{T, eqb, leb}
use mir.Val.{Fits}
use mir.Syntax.{w64}
use Rattle.machine.specs.Lists.{pick, all, is_digit}
use Rattle.machine.specs.Digits.{pow10, value_after, value_of}
use Rattle.machine.proofs.Base.{and_first, and_second}
use Rattle.format.specs.Fields.{numeric}
use Rattle.format.specs.Tests.{Test, test}
use Rattle.format.proofs.Checks.{read_field_lem}
use Rattle.field.specs.Leaf.{Digits}
use Rattle.field.specs.Leaf.{Numeric}
use Rattle.field.specs.Rows.{first_answer, field_answer}
use Rattle.field.specs.Leaf.{no_digits, digits_of, wrong_as, right_of, numeric_by, numeric_answer, numeric_of}
use Rattle.field.proofs.Picks.{picks, by_call}

-- ## The next of the digits that are left

module _ (s : List ℕ) (i : ℕ) (left : all is_digit (drop i s) ≡ true) (h : i < length s) where
  here : (is_digit (get_or s i 0) && all is_digit (drop (suc i) s)) ≡ true
  here = rw (drop-cons s i 0 h) at left

  is_digit_lem : is_digit (get_or s i 0) ≡ true
  is_digit_lem = and_first _ _ here

  pub next_high : get_or s i 0 ≤ 57
  next_high = leb-true _ 57 (and_second (leb 48 (get_or s i 0)) _ is_digit_lem)

  pub next_left : all is_digit (drop (i + 1) s) ≡ true
  next_left = rw add-one (and_second (is_digit (get_or s i 0)) _ here)

-- ## The value of digits

pow10_wider : (w j : ℕ) → j ≤ w → pow10 j ≤ pow10 w
pow10_wider zero zero h = omega arith
pow10_wider zero (suc j) h = absurd (omega arith)
pow10_wider (suc w) zero h = omega (arith, pow10_wider w zero (omega arith))
pow10_wider (suc w) (suc j) h = omega (arith, pow10_wider w j (omega arith))

pub record Reading (s : List ℕ) (v i : ℕ) : Type 0 where
  pub within : i ≤ length s
  pub digits : all is_digit (drop i s) ≡ true
  pub small : v < pow10 i
  pub value : value_after v (drop i s) ≡ value_of s

module _ {s : List ℕ} {v i : ℕ} (r : Reading s v i) where
  pub reading_all : length s ≤ i → v ≡ value_of s
  unfolding value_after
  reading_all l = rw (← r.value, drop_of_length-le s l)

  module _ (h : i < length s) where
    digit_high : get_or s i 0 ≤ 57
    digit_high = next_high s i r.digits h

    pub reading_more : {d : ℕ} → d ≡ get_or s i 0 - 48 → Reading s (v * 10 + d) (i + 1)
    unfolding value_after
    reading_more e =
        record {
          within = omega arith;
          digits = next_left s i r.digits h;
          small = rw add-one (omega (arith, r, digit_high));
          value = rw (add-one, e) (sym (rw (← r.value, drop-cons s i 0)));
        }

    -- with at most 18 digits the next value fits a u64
    module _ (k : length s ≤ 18) where
      room : v < pow10 17
      room = omega (arith, r, pow10_wider 17 i (omega arith))

      pub times_fits : Fits w64 (v * 10)
      times_fits = omega (arith, room)

      pub plus_fits : {d : ℕ} → d ≡ get_or s i 0 - 48 → Fits w64 (v * 10 + d)
      plus_fits e = omega (arith, room, digit_high)

-- ## What digits are

module _ (l : List ℕ) where
  pub digits_long : 18 < length l → no_digits ≡ digits_of l
  unfolding digits_of pick
  digits_long h = rw (lt-leb (length l) 18 h)

  module _ (h : length l ≤ 18) where
    pub digits_not : all is_digit l ≡ false → no_digits ≡ digits_of l
    unfolding digits_of pick
    digits_not e = rw (le-leb (length l) 18 h, e)

    pub digits_are : {v : ℕ} → all is_digit l ≡ true → v ≡ value_of l → ◌≡◌ {A = Digits} (record { ok = true; value = v }) (digits_of l)
    unfolding digits_of pick
    digits_are e k = rw (le-leb (length l) 18 h, e, k)

-- digits that fit a width stand for a number below its power of ten
pub value_below : (w : ℕ) (l : List ℕ) → length l ≤ w → all is_digit l ≡ true → value_of l < pow10 w
value_below w l h d = omega (arith, pow10_wider w (length l) h, (read_field_lem (numeric (length l)) l refl (subst T (sym d) tt)).0)

pub digits_below : {d : Digits} (w : ℕ) (m : List ℕ) → d ≡ digits_of (take w m) → d.value < pow10 w
unfolding digits_of pick
digits_below w m e = rw e (by (leb (length (take w m)) 18) (all is_digit (take w m)) refl)
  where
    by : (q u : Bool) → all is_digit (take w m) ≡ u → (pick (q && u) (record { ok = true; value = value_of (take w m) }) no_digits).value < pow10 w
    by true true h = value_below w (take w m) (rw length-take (omega arith)) h
    by true false h = omega (arith, pow10_wider w 0 (omega arith))
    by false u h = omega (arith, pow10_wider w 0 (omega arith))

pub ruleset digits = (digits_long, digits_not, digits_are, by_call, rules)

pub over : {A : Type 0} (f : List ℕ → A) {p q : List ℕ} {r : A} → p ≡ q → r ≡ f p → r ≡ f q
over f d e = e ∙ ap f d

-- ## Tests, with the value where all hold

-- every test has a number to answer
abbrev pub Numbered : List Test → Type 0
Numbered [] = Unit {0}
Numbered (test b n ∷ ts) = T (not (eqb n 0)) × Numbered ts

abbrev pub first_of : List Test → ℕ → Numeric
first_of [] v = right_of v
first_of (test b n ∷ ts) v = pick b (first_of ts v) (wrong_as n)

pub first_of_lem : (ts : List Test) (v : ℕ) → Numbered ts → first_of ts v ≡ numeric_by (first_answer ts) v
unfolding pick
first_of_lem [] v h = refl
first_of_lem (test true n ∷ ts) v h = first_of_lem ts v h.1
first_of_lem (test false n ∷ ts) v h = by (eqb n 0) h.0
  where
    by : (q : Bool) → T (not q) → ◌≡◌ {A = Numeric} (wrong_as n) (record { number = n; value = pick q v 0 })
    by true t = absurd t
    by false t = refl

-- where nothing is wrong there are digits
pub is_digits : (tests : ℕ → List Test) (l : List ℕ) → numeric_answer tests l ≡ 0 → all is_digit l ≡ true
unfolding numeric_answer field_answer pick
is_digits tests l z = by (leb (length l) 18) (all is_digit l) z
  where
    by : (q u : Bool) → pick q (pick u (first_answer (tests (value_of l))) 4) 4 ≡ 0 → u ≡ true
    by true true z = refl
    by true false z = absurd (omega arith)
    by false u z = absurd (omega arith)

-- ## More tests than a call made: what it answered stands, or the others follow

-- the tests bs, and more
abbrev pub Extends : List Test → List Test → Type 0
Extends [] ts = Unit {0}
Extends (b ∷ bs) [] = ⊥
Extends (b ∷ bs) (t ∷ ts) = (b ≡ t) × (Numbered (b ∷ []) × Extends bs ts)

abbrev pub after : List Test → List Test → List Test
after [] ts = ts
after (b ∷ bs) [] = []
after (b ∷ bs) (t ∷ ts) = after bs ts

by_more : (bs ts : List Test) → Extends bs ts → first_answer ts ≡ pick (eqb (first_answer bs) 0) (first_answer (after bs ts)) (first_answer bs)
unfolding pick
by_more [] ts h = refl
by_more (b ∷ bs) [] h = absurd h
by_more (test true n ∷ bs) (t ∷ ts) h = rw (← h.0) (by_more bs ts h.1.1)
by_more (test false n ∷ bs) (t ∷ ts) h = rw (← h.0) (by (eqb n 0) h.1.0.0)
  where
    by : (q : Bool) → T (not q) → n ≡ pick q (first_answer (after bs ts)) n
    by true t = absurd t
    by false t = refl

-- g of the value where nothing is wrong yet
abbrev onward : {A : Type 0} → ℕ → ℕ → (ℕ → A) → A → A
onward n v g a = pick (eqb n 0) (g (pick (eqb n 0) v 0)) a

module _ (base tests : ℕ → List Test) (l : List ℕ) (h : (v : ℕ) → Extends (base v) (tests v)) where
  abbrev others : ℕ → ℕ
  others v = first_answer (after (base v) (tests v))

  no_more : numeric_answer tests l ≡ onward (numeric_answer base l) (value_of l) others (numeric_answer base l)
  unfolding numeric_answer field_answer pick
  no_more = by (leb (length l) 18) (all is_digit l) (first_answer (base (value_of l))) (by_more (base (value_of l)) (tests (value_of l)) (h (value_of l)))
    where
      at : (q : Bool) (n v : ℕ) → pick q (others v) n ≡ pick q (others (pick q v 0)) n
      at true n v = refl
      at false n v = refl

      by : (a b : Bool) (n : ℕ) → first_answer (tests (value_of l)) ≡ pick (eqb n 0) (others (value_of l)) n
          → pick a (pick b (first_answer (tests (value_of l))) 4) 4 ≡ onward (pick a (pick b n 4) 4) (value_of l) others (pick a (pick b n 4) 4)
      by true true n e = e ∙ at (eqb n 0) n (value_of l)
      by true false n e = refl
      by false b n e = refl

  of_more : numeric_of tests l ≡ onward (numeric_answer base l) (value_of l) (λ v. numeric_by (others v) v) (numeric_of base l)
  unfolding numeric_of pick
  of_more = rw no_more (by (eqb (numeric_answer base l) 0))
    where
      by : (q : Bool) → numeric_by (pick q (others (pick q (value_of l) 0)) (numeric_answer base l)) (value_of l) ≡ pick q (numeric_by (others (pick q (value_of l) 0)) (pick q (value_of l) 0)) (numeric_by (numeric_answer base l) (value_of l))
      by true = refl
      by false = refl

  module _ {f : Numeric} (e : f ≡ numeric_of base l) where
    number : f.number ≡ numeric_answer base l
    unfolding numeric_of
    number = ap (λ (g : Numeric). g.number) e

    value : f.value ≡ pick (eqb (numeric_answer base l) 0) (value_of l) 0
    unfolding numeric_of
    value = ap (λ (g : Numeric). g.value) e

    pub no_stop : {x : ℕ} → (f.number ≡ 0 → ⊥) → x ≡ f.number → x ≡ numeric_answer tests l
    unfolding pick
    no_stop z k = k ∙ sym (rw (no_more, ← number, ne_eqb _ 0 z))

    pub no_on : {x : ℕ} → f.number ≡ 0 → x ≡ first_answer (after (base f.value) (tests f.value)) → x ≡ numeric_answer tests l
    unfolding pick
    no_on z k = k ∙ sym (rw (no_more, ← value, ← number, eq-eqb _ 0 z))

    pub of_stop : {x : Numeric} → (f.number ≡ 0 → ⊥) → x ≡ f → x ≡ numeric_of tests l
    unfolding pick
    of_stop z k = k ∙ sym (rw (of_more, ← e, ← number, ne_eqb _ 0 z))

    pub of_on : {x : Numeric} → ((v : ℕ) → Numbered (after (base v) (tests v))) → f.number ≡ 0 → x ≡ first_of (after (base f.value) (tests f.value)) f.value → x ≡ numeric_of tests l
    unfolding pick
    of_on n z k = k ∙ first_of_lem (after (base f.value) (tests f.value)) f.value (n f.value) ∙ sym (rw (of_more, ← value, ← number, eq-eqb _ 0 z))
