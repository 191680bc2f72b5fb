-- The search after a line, from what calls answered. Assumes nothing.
use Prim.Native.Nat.{ℕ, ◌-◌}
use mathlib.Core.Path.{◌≡◌, refl}
use mathlib.Core.Bool.{Bool, true, false}
use borrow.Author.Tests.{ne_eqb}
use lib.Dec.{eqb}
use Rattle.machine.specs.Lists.{pick}
use Rattle.record.specs.declared.TransactionFields.{TransactionFields}
use Rattle.items.specs.Search.{with_item, searching, finding, headed, opened}
use Rattle.items.specs.declared.Found.{Found}
use Rattle.items.specs.declared.Search.{Search}

pub headed_is : {n : ℕ} (s : Search) → n ≡ s.batches - 1 → searching n s.items (eqb s.batches 1) false s.found ≡ headed s
headed_is s e = rw e

module _ (s : Search) (t : TransactionFields) where
  pub opened_here : {n : ℕ} {g : Found} {u : TransactionFields} → s.inside ≡ true → s.items ≡ 1 → n ≡ s.items - 1 → u ≡ t → g ≡ with_item s.found u
      → searching s.batches n s.inside true g ≡ opened s t
  unfolding opened pick
  opened_here w n d h e = rw (w, d, n, e, h)

  pub opened_on : {n : ℕ} → s.inside ≡ true → (s.items ≡ 1 → ⊥) → n ≡ s.items - 1 → searching s.batches n s.inside false s.found ≡ opened s t
  unfolding opened pick
  opened_on w z d = rw (w, ne_eqb s.items 1 z, d)

  pub opened_not : s.inside ≡ false → s ≡ opened s t
  unfolding opened pick
  opened_not w = rw w

-- what a line tells, where the batch or the item that it tells of is open
pub told_is : {q : Bool} {r : Search} (s : Search) (f : Found) → (q ≡ true → r ≡ finding s f) → (q ≡ false → r ≡ s) → r ≡ pick q (finding s f) s
unfolding pick
told_is {q} {r} s f on off = by q refl
  where
    by : (p : Bool) → q ≡ p → r ≡ pick p (finding s f) s
    by true h = on h
    by false h = off h
