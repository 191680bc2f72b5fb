-- The limits of a state as a test and as facts, and what stops a run before a line. Assumes nothing.
use Prim.Native.Nat.{ℕ, ◌+◌, ◌≤◌, ◌<◌}
use mathlib.Core.Path.{◌≡◌, refl, sym, ap, ◌∙◌, subst}
use mathlib.Core.Bool.{Bool, true, false, ◌&&◌}
use native.Mathlib.Omega.{arith}
use borrow.Author.Tests.{le-leb, lt-leb, leb-true}
use lib.Dec.{T, leb}
use mir.Val.{Fits}
use mir.Syntax.{w64}
use Rattle.machine.specs.Lists.{pick}
use Rattle.machine.proofs.Base.{and_first, and_second}
use Rattle.format.specs.Rules.{max_items, max_total, max_file_items, max_file_amount, max_account, max_sequence, max_fixed, max_descriptions}
use Rattle.record.specs.declared.Totals.{Totals}
use Rattle.reading.specs.State.{max_line, are_within, is_limited, within, Bounded, Limited}
use Rattle.reading.specs.Order.{is_stage}
use Rattle.reading.specs.Step.{is_done}
use Rattle.reading.specs.Bounds.{Going, over_by, halt_at}
use Rattle.reading.specs.declared.Stage.{Stage}
use Rattle.reading.specs.declared.Stage.TheVariants.{Start, Headed, Opened, Ordered, Item, Closed, Done}
use Rattle.reading.specs.declared.State.{State}

pub bounded_facts : (t : Totals) → are_within t ≡ true → Bounded t
unfolding are_within
bounded_facts t h =
    record {
      items = leb-true t.items max_file_items (and_first _ _ h);
      amount = leb-true t.amount max_file_amount (and_second (leb t.items max_file_items) _ h);
    }

pub bounded_test : (t : Totals) → Bounded t → are_within t ≡ true
unfolding are_within
bounded_test t k = rw (le-leb t.items max_file_items k.items, le-leb t.amount max_file_amount k.amount)

limited_facts : {b : Bool} (s : State) → b ≡ is_limited s → b ≡ true → Limited s
unfolding is_limited
limited_facts s e t =
    let a = sym e ∙ t in
    let a1 = and_second (leb s.batch.items max_items) _ a in
    let a2 = and_second (leb s.batch.total max_total) _ a1 in
    let a3 = and_second (leb s.batch.accounts max_account) _ a2 in
    let a4 = and_second (leb s.before.sequence max_sequence) _ a3 in
    let a5 = and_second (leb s.batch.fixed max_fixed) _ a4 in
    record {
      items = leb-true _ max_items (and_first _ _ a);
      total = leb-true _ max_total (and_first _ _ a1);
      accounts = leb-true _ max_account (and_first _ _ a2);
      sequence = leb-true _ max_sequence (and_first _ _ a3);
      fixed = leb-true _ max_fixed (and_first _ _ a4);
      descriptions = leb-true _ max_descriptions (and_first _ _ a5);
      totals = bounded_facts s.totals (and_second (leb s.item.descriptions max_descriptions) _ a5);
    }

limited_test : (s : State) → Limited s → is_limited s ≡ true
unfolding is_limited
limited_test s k =
    rw (
      le-leb s.batch.items max_items k.items,
      le-leb s.batch.total max_total k.total,
      le-leb s.batch.accounts max_account k.accounts,
      le-leb s.before.sequence max_sequence k.sequence,
      le-leb s.batch.fixed max_fixed k.fixed,
      le-leb s.item.descriptions max_descriptions k.descriptions,
      bounded_test s.totals k.totals,
    )

pub limited_of : {b x : Bool} (s : State) → b ≡ are_within s.totals
    → x ≡ (leb s.batch.items max_items && (leb s.batch.total max_total && (leb s.batch.accounts max_account && (leb s.before.sequence max_sequence && (leb s.batch.fixed max_fixed && (leb s.item.descriptions max_descriptions && b))))))
    → x ≡ is_limited s
unfolding is_limited
limited_of s e h = rw (← e) h

-- within the other limits the line number decides
pub within_yes : (s : State) → Limited s → s.line ≤ 6999369995 → within s ≡ true
unfolding within
within_yes s k h = rw (le-leb s.line max_line h) (limited_test s k)

pub within_no : (s : State) → 6999369995 < s.line → within s ≡ false
unfolding within
within_no s h = rw (lt-leb s.line max_line h)

pub within_line : (s : State) → within s ≡ true → s.line ≤ 6999369995
unfolding within
within_line s h = leb-true s.line max_line (and_first _ _ h)

pub within_limited : {b : Bool} (s : State) → b ≡ within s → b ≡ true → Limited s
unfolding within
within_limited s e t = limited_facts s refl (and_second (leb s.line max_line) _ (sym e ∙ t))

unbounded : (s : State) → are_within s.totals ≡ false → within s ≡ false
unbounded s a = by (within s) refl
  where
    by : (q : Bool) → within s ≡ q → q ≡ false
    by true w = absurd (subst T (sym (bounded_test s.totals (within_limited s refl w).totals) ∙ a) tt)
    by false w = refl

pub within_going : {b : Bool} (s : State) → b ≡ within s → b ≡ true → Going s
within_going s e t = let k = within_limited s e t in record { limited = λ h. k; totals = λ h. bounded_test s.totals k.totals }

pub within_of : {b x : Bool} (s : State) → b ≡ is_limited s → x ≡ (leb s.line max_line && b) → x ≡ within s
unfolding within
within_of s e h = rw (← e) h

pub line_fits : {b : Bool} (s : State) → b ≡ within s → b ≡ true → Fits w64 (s.line + 1)
line_fits s e t = omega (arith, within_line s (sym e ∙ t))

-- ## What stops a run

pub over_yes : {b : Bool} (t : Totals) → b ≡ are_within t → b ≡ true → 0 ≡ over_by t
unfolding over_by pick
over_yes t e h = rw (← e, h)

pub over_no : {b : Bool} (t : Totals) → b ≡ are_within t → b ≡ false → 24 ≡ over_by t
unfolding over_by pick
over_no t e h = rw (← e, h)

-- a line too far
pub halt_line : (s : State) → 6999369995 < s.line → 24 ≡ halt_at s
unfolding halt_at pick
halt_line s h = rw (within_no s h)

-- where no batch has just been closed
elsewhere : (s : State) → Going s → s.line ≤ 6999369995 → (p : Stage) → s.stage ≡ p → is_stage p Closed ≡ false → within s ≡ true
elsewhere s g l p e c = within_yes s (g.limited (g.totals (ap (λ q. is_stage q Closed) e ∙ c))) l

pub halt_none : (s : State) → Going s → s.line ≤ 6999369995 → (p : Stage) → s.stage ≡ p → is_stage p Closed ≡ false → is_stage p Done ≡ false → 0 ≡ halt_at s
unfolding halt_at pick
halt_none s g l p e c d = rw (elsewhere s g l p e c, e, d)

pub halt_other : (s : State) → Going s → s.line ≤ 6999369995 → (s.stage ≡ Closed → ⊥) → (s.stage ≡ Done → ⊥) → 0 ≡ halt_at s
halt_other s g l c d = by s.stage refl c d
  where
    by : (p : Stage) → s.stage ≡ p → (p ≡ Closed → ⊥) → (p ≡ Done → ⊥) → 0 ≡ halt_at s
    by Start e c d = halt_none s g l Start e refl refl
    by Headed e c d = halt_none s g l Headed e refl refl
    by Opened e c d = halt_none s g l Opened e refl refl
    by Ordered e c d = halt_none s g l Ordered e refl refl
    by Item e c d = halt_none s g l Item e refl refl
    by Closed e c d = absurd (c refl)
    by Done e c d = absurd (d refl)

pub halt_done : (s : State) → Going s → s.line ≤ 6999369995 → s.stage ≡ Done → 11 ≡ halt_at s
unfolding halt_at pick
halt_done s g l e = rw (elsewhere s g l Done e refl, e)

pub halt_closed : {n : ℕ} (s : State) → Going s → s.line ≤ 6999369995 → s.stage ≡ Closed → n ≡ over_by s.totals → n ≡ halt_at s
unfolding over_by halt_at within is_limited pick
halt_closed s g l e h = h ∙ by (are_within s.totals) refl
  where
    by : (q : Bool) → are_within s.totals ≡ q → ◌≡◌ {A = ℕ} (pick q 0 24) (pick (within s) (pick (is_done s) 11 0) 24)
    by true a = rw (within_yes s (g.limited a) l, e)
    by false a = rw (unbounded s a)

-- where nothing stops it
module _ {n : ℕ} (s : State) (e : n ≡ halt_at s) (z : n ≡ 0) where
  pub going_on_lem : (within s ≡ true) × (is_done s ≡ false)
  unfolding halt_at pick
  going_on_lem = by (within s) (is_done s) (sym e ∙ z)
    where
      by : (a b : Bool) → ◌≡◌ {A = ℕ} (pick a (pick b 11 0) 24) 0 → (a ≡ true) × (b ≡ false)
      by true true h = absurd (omega arith)
      by true false h = (refl, refl)
      by false b h = absurd (omega arith)

  pub on_line : s.line ≤ 6999369995
  on_line = within_line s going_on_lem.0

  pub on_limited : Limited s
  on_limited = within_limited s refl going_on_lem.0
