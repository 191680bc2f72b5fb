-- What functions hand out by `?`, in the words of the numeric laws. Assumes nothing.
use Prim.Native.Nat.{ℕ, ◌<◌, ◌≤◌}
use mathlib.Core.Path.{◌≡◌, refl, sym, ap, ◌∙◌, subst}
use mathlib.Core.List.{List, []}
use mathlib.Core.Bool.{Bool, true, false, ◌&&◌}
use native.Mathlib.Omega.{arith}
use lib.ListN.{length}
use lib.Dec.{leb}
use borrow.Author.Tests.{le-leb, lt-leb}
use Rattle.std.specs.Prelude.{Result, Ok, Err, IsErr, IsErrAnd, ⊤}
use Rattle.machine.specs.Lists.{pick, all, is_digit}
use Rattle.machine.specs.Digits.{value_of}
use Rattle.format.specs.Fields.{Field, well_formed}
use Rattle.format.specs.Answers.{number_of, number_in}
use Rattle.format.specs.Tests.{Test}
use Rattle.format.specs.declared.Refusal.{Refusal}
use Rattle.format.specs.declared.Refusal.TheVariants.{BrokenLine, UnknownRecord, MisplacedRecord, WrongForm, WrongValue, WrongAccount, Differs, AboveMaximum, WrongTrailer, EndsEarly, AfterTrailer, NoRoom, NoSuchItem, OrdinaryAccount, UntimelyDate, BeyondLimits}
use Rattle.field.specs.Rows.{first_answer, field_answer}
use Rattle.field.specs.Leaf.{Numeric, right_of, wrong_as, numeric_by, no_tests, no_digits, digits_for, digits_of, tested_by, formed, numeric_answer, numeric_of, numeric_read}
use Rattle.field.proofs.Numerics.{Extends, Numbered, first_of, first_of_lem, after}
use Rattle.field.proofs.Numerics as the
use Rattle.field.proofs.Forms.{form_stop, form_on}
use Rattle.field.proofs.Picks.{picks}

-- an error that `?` hands on
abbrev pub HandedOn : {A E : Type 0} → Result A E → E → Type 0
HandedOn r x = IsErr r × IsErrAnd r (λ y. y ≡ x)

pub handed : {A E : Type 0} {x : E} (r : Result A E) → HandedOn r x → r ≡ Err x
handed (Ok y) k = absurd k.1
handed (Err y) k = ap Err k.1

pub refused : (x : Refusal) → number_of x ≡ 0 → ⊥
refused BrokenLine z = absurd (omega arith)
refused UnknownRecord z = absurd (omega arith)
refused MisplacedRecord z = absurd (omega arith)
refused WrongForm z = absurd (omega arith)
refused WrongValue z = absurd (omega arith)
refused WrongAccount z = absurd (omega arith)
refused Differs z = absurd (omega arith)
refused AboveMaximum z = absurd (omega arith)
refused WrongTrailer z = absurd (omega arith)
refused EndsEarly z = absurd (omega arith)
refused AfterTrailer z = absurd (omega arith)
refused NoRoom z = absurd (omega arith)
refused NoSuchItem z = absurd (omega arith)
refused OrdinaryAccount z = absurd (omega arith)
refused UntimelyDate z = absurd (omega arith)
refused BeyondLimits z = absurd (omega arith)

-- ## Tests of a number that digits stand for

-- the first of them that fails answers, and the number where none does
first_tested : (tests : ℕ → List Test) (v : ℕ) → Numbered (tests v) → first_of (tests v) v ≡ tested_by tests (digits_for v)
unfolding tested_by pick
first_tested tests v n = first_of_lem (tests v) v n

pub tested : {y : Numeric} (tests : ℕ → List Test) (v : ℕ) → Numbered (tests v) → y ≡ first_of (tests v) v → y ≡ tested_by tests (digits_for v)
tested tests v n k = k ∙ first_tested tests v n

-- ## More tests than a call made: what it refused is handed on, or the others follow

module _ (base tests : ℕ → List Test) (l : List ℕ) (h : (v : ℕ) → Extends (base v) (tests v)) {f : Result ℕ Refusal} (e : numeric_read f ≡ numeric_of base l) where
  module _ {x : Refusal} (w : f ≡ Err x) where
    number : (numeric_read f).number ≡ number_of x
    number = ap (λ (g : Result ℕ Refusal). (numeric_read g).number) w

    stops : (numeric_read f).number ≡ 0 → ⊥
    stops z = refused x (sym number ∙ z)

    pub no_handed : {A : Type 0} (r : Result A Refusal) → HandedOn r x → number_in r ≡ numeric_answer tests l
    no_handed r k = the.no_stop base tests l h e stops (ap number_in (handed r k) ∙ sym number)

    pub of_handed : (r : Result ℕ Refusal) → HandedOn r x → numeric_read r ≡ numeric_of tests l
    of_handed r k = the.of_stop base tests l h e stops (ap numeric_read (handed r k) ∙ sym (ap numeric_read w))

  module _ {v : ℕ} (w : f ≡ Ok v) where
    pub no_passed : {y : ℕ} → y ≡ first_answer (after (base v) (tests v)) → y ≡ numeric_answer tests l
    no_passed k = the.no_on base tests l h e (ap (λ (g : Result ℕ Refusal). (numeric_read g).number) w) (k ∙ sym (ap (λ (g : Result ℕ Refusal). first_answer (after (base (numeric_read g).value) (tests (numeric_read g).value))) w))

    pub of_passed : {y : Numeric} → ((u : ℕ) → Numbered (after (base u) (tests u))) → y ≡ first_of (after (base v) (tests v)) v → y ≡ numeric_of tests l
    of_passed n k = the.of_on base tests l h e n (ap (λ (g : Result ℕ Refusal). (numeric_read g).number) w) (k ∙ sym (ap (λ (g : Result ℕ Refusal). first_of (after (base (numeric_read g).value) (tests (numeric_read g).value)) (numeric_read g).value) w))

    -- the tests of the value, by a call
    pub of_tested : {y : Numeric} → ((u : ℕ) → Numbered (after (base u) (tests u))) → after (base v) (tests v) ≡ tests v → y ≡ tested_by tests (digits_for v) → y ≡ numeric_of tests l
    of_tested n d k = of_passed n (k ∙ sym (first_tested tests v (subst Numbered d (n v))) ∙ sym (ap (λ ts. first_of ts v) d))

pub ruleset results = (no_handed, of_handed, no_passed, of_passed, picks)

-- ## Digits, and the form of a text

module _ (l : List ℕ) where
  pub digits_yes : {v : ℕ} → length l ≤ 18 → all is_digit l ≡ true → v ≡ value_of l → right_of v ≡ numeric_of no_tests l
  unfolding numeric_of numeric_answer field_answer pick
  digits_yes h e k = rw (le-leb (length l) 18 h, e, k)

  pub digits_no : all is_digit l ≡ false → wrong_as 4 ≡ numeric_of no_tests l
  unfolding numeric_of numeric_answer field_answer pick
  digits_no e = rw e (by (leb (length l) 18))
    where
      by : (q : Bool) → ◌≡◌ {A = Numeric} (wrong_as 4) (numeric_by (pick q 4 4) (value_of l))
      by true = refl
      by false = refl

  pub digits_too_long : 18 < length l → wrong_as 4 ≡ numeric_of no_tests l
  unfolding numeric_of numeric_answer pick
  digits_too_long h = rw (lt-leb (length l) 18 h)

-- digits alone are a numeric field without tests
pub digits_alone : (l : List ℕ) → numeric_of no_tests l ≡ record { number = pick (digits_of l).ok 0 4; value = (digits_of l).value }
unfolding numeric_of numeric_answer field_answer digits_of pick
digits_alone l = by (leb (length l) 18) (all is_digit l)
  where
    by : (a b : Bool) → ◌≡◌ {A = Numeric} (numeric_by (pick a (pick b 0 4) 4) (value_of l)) (record { number = pick (pick (a && b) (record { ok = true; value = value_of l }) no_digits).ok 0 4; value = (pick (a && b) (record { ok = true; value = value_of l }) no_digits).value })
    by true true = refl
    by true false = refl
    by false b = refl

-- the form of a part of a line
module _ {p : List ℕ} {b : Bool} (r : Result ⊤ Refusal) (f : Field) (l : List ℕ) (h : r ≡ formed b) (d : p ≡ l) (e : b ≡ well_formed f p) where
  pub by_form : number_in r ≡ field_answer f [] l
  unfolding field_answer pick
  by_form = ap number_in h ∙ subst (λ (q : Bool). number_in (formed b) ≡ pick q 0 4) (e ∙ ap (well_formed f) d) (by b)
    where
      by : (q : Bool) → number_in (formed q) ≡ pick q 0 4
      by true = refl
      by false = refl

-- a field without tests, and with them
module _ {f : Result ⊤ Refusal} (t : Field) (ts : List Test) (l : List ℕ) (e : number_in f ≡ field_answer t [] l) where
  pub form_handed : {A : Type 0} {x : Refusal} (r : Result A Refusal) → f ≡ Err x → HandedOn r x → number_in r ≡ field_answer t ts l
  form_handed {x = x} r w k = ap number_in (handed r k) ∙ sym (ap number_in w) ∙ form_stop t ts l e (λ z. refused x (sym (ap number_in w) ∙ z))

  pub form_passed : {x : ℕ} {u : ⊤} → f ≡ Ok u → x ≡ first_answer ts → x ≡ field_answer t ts l
  form_passed w h = form_on t ts l e (ap number_in w) h

pub ruleset forms = (form_handed, form_passed, picks)

pub ruleset digits = (digits_yes, digits_no, digits_too_long)
