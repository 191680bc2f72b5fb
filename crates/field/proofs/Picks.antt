-- A result that a definition picks by tests, from what the code's branches say of the tests. Assumes nothing.
use mathlib.Core.Path.{◌≡◌, sym, ◌∙◌}
use mathlib.Core.Bool.{Bool, true, false, ◌&&◌, ◌||◌}
use borrow.Author.Tests.{lt-ltb, le-ltb, le-leb, lt-leb, eq-eqb, ne_eqb}
use Rattle.machine.specs.Lists.{pick}

module _ {A : Type 0} {x : A} (b : Bool) (t e : A) where
  pub pick_yes : b ≡ true → x ≡ t → x ≡ pick b t e
  unfolding pick
  pick_yes h p = rw h p

  pub pick_no : b ≡ false → x ≡ e → x ≡ pick b t e
  unfolding pick
  pick_no h p = rw h p

-- ## What a test is

-- a test that a call answered
pub by_call : {r b v : Bool} → r ≡ b → r ≡ v → b ≡ v
by_call p q = sym p ∙ q

pub both_are : (b d : Bool) → b ≡ true → d ≡ true → (b && d) ≡ true
both_are b d h k = rw (h, k)

pub both_by : {b d p q : Bool} → b ≡ p → d ≡ q → (b && d) ≡ (p && q)
both_by h k = rw (h, k)

pub first_fails : (b d : Bool) → b ≡ false → (b && d) ≡ false
first_fails b d h = rw h

pub second_fails : (b d : Bool) → b ≡ true → d ≡ false → (b && d) ≡ false
second_fails b d h k = rw (h, k)

pub first_holds : (b d : Bool) → b ≡ true → (b || d) ≡ true
first_holds b d h = rw h

pub else_is : {v : Bool} (b d : Bool) → b ≡ false → d ≡ v → (b || d) ≡ v
else_is b d h k = rw (h, k)

pub ruleset tests = (by_call, both_are, first_fails, second_fails, first_holds, else_is, lt-ltb, le-ltb, le-leb, lt-leb, eq-eqb, ne_eqb)

pub ruleset picks = (pick_yes, pick_no, tests)
