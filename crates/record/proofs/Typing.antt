-- Groups and transaction types. Assumes nothing.
use Rattle.std.specs.Prelude.{Some, None}
use Prim.Native.Nat.{ℕ}
use mathlib.Core.Path.{◌≡◌, refl, sym, ap, ◌∙◌}
use mathlib.Core.List.{List}
use mathlib.Core.Bool.{Bool, true, false, not}
use Rattle.machine.specs.Lists.{pick, same}
use Rattle.format.specs.Rules.{group_text, is_group, same_group, type_group, is_unchecked, is_unchecked_type, TypeRead}
use Rattle.format.specs.Tests.{group_tests, type_tests}
use denote.Enum.Bare.{sameb}
use Rattle.format.specs.contracts.Group.{the_type}
use Rattle.format.specs.declared.Group.{Group}
use Rattle.format.specs.declared.Group.TheVariants.{Payments, Debits}
use Rattle.format.specs.declared.TransactionType.{TransactionType}
use Rattle.field.specs.Rows.{first_answer}
use Rattle.record.specs.declared.Before.{Before}
use Rattle.record.specs.Faults.{known_group}

-- an arm of a function by cases
pub of_case : {A B : Type 0} (f : A → B) {t u : A} {x : B} → t ≡ u → x ≡ f u → x ≡ f t
of_case f e h = rw e h

-- ## Groups

pub not_known : (b : Bool) → not b ≡ true → b ≡ false
not_known false e = refl
not_known true e = sym e

pub is_known : (b : Bool) → not b ≡ false → b ≡ true
is_known true e = refl
is_known false e = sym e

-- a group, and the one before where that is known
abbrev group_answer : Before → List ℕ → ℕ
group_answer b l = first_answer (group_tests (known_group b) l)

module _ {p : List ℕ} {a : Bool} (l : List ℕ) (d : p ≡ l) (e : a ≡ is_group p) where
  is_group_lem : {v : Bool} → a ≡ v → is_group l ≡ v
  is_group_lem h = rw (← d) (sym e ∙ h)

  module _ (b : Before) where
    pub group_wrong : a ≡ false → 5 ≡ group_answer b l
    unfolding pick
    group_wrong h = rw (is_group_lem h)

    module _ (h : a ≡ true) where
      pub group_free : b.known ≡ false → 0 ≡ group_answer b l
      unfolding pick
      group_free k = rw (is_group_lem h, k)

      module _ {m : Bool} {t : List ℕ} (k : b.known ≡ true) (q : t ≡ group_text b.group) (f : m ≡ same p t) where
        is_text_lem : {v : Bool} → m ≡ v → same l (group_text b.group) ≡ v
        is_text_lem u = rw (← d, ← q) (sym f ∙ u)

        pub group_right : m ≡ true → 0 ≡ group_answer b l
        unfolding pick
        group_right u = rw (is_group_lem h, k, is_text_lem u)

        pub group_other : m ≡ false → 7 ≡ group_answer b l
        unfolding pick
        group_other u = rw (is_group_lem h, k, is_text_lem u)

-- ## Types

pub same_is : (g h : Group) → sameb the_type g h ≡ same_group g h
same_is Payments Payments = refl
same_is Payments Debits = refl
same_is Debits Payments = refl
same_is Debits Debits = refl

module _ {t : TypeRead} {y : TransactionType} {h : Group} {b : Bool} (g : Group) (e : t ≡ Some y) (k : h ≡ type_group y) (i : b ≡ sameb the_type g h) where
  s : b ≡ same_group g h
  s = i ∙ same_is g h

  pub type_right : b ≡ true → 0 ≡ first_answer (type_tests g t)
  unfolding pick
  type_right v = let q : same_group g (type_group y) ≡ true = rw (← k) (sym s ∙ v) in rw (e, q)

  pub type_other : b ≡ false → 7 ≡ first_answer (type_tests g t)
  unfolding pick
  type_other v = let q : same_group g (type_group y) ≡ false = rw (← k) (sym s ∙ v) in rw (e, q)

pub type_none : {t : TypeRead} (g : Group) → t ≡ None → 5 ≡ first_answer (type_tests g t)
unfolding pick
type_none g e = rw e

pub ruleset types = (type_right, type_other, type_none)

-- whether a type is unchecked
pub unchecked_by : {t : TypeRead} {y : TransactionType} {b : Bool} → t ≡ Some y → b ≡ is_unchecked y → b ≡ is_unchecked_type t
unchecked_by e h = h ∙ ap is_unchecked_type (sym e)

pub unchecked_none : {t : TypeRead} → t ≡ None → false ≡ is_unchecked_type t
unchecked_none e = ap is_unchecked_type (sym e)

pub ruleset uncheckeds = (unchecked_by, unchecked_none)
