-- The state after a record, from what calls answered. Assumes nothing.
use Prim.Native.Nat.{ℕ}
use mathlib.Core.Path.{◌≡◌, sym, ap, ◌∙◌}
use mathlib.Core.List.{List}
use mathlib.Core.Bool.{Bool, false}
use lib.ListN.{take, drop}
use Rattle.machine.proofs.Base.{true≢false}
use Rattle.format.specs.Rules.{is_unchecked_type}
use Rattle.format.specs.declared.Kind.{Kind}
use Rattle.format.specs.declared.Kind.TheVariants.{BatchHeaderB, Transaction}
use Rattle.format.specs.declared.Group.{Group}
use Rattle.field.specs.Leaf.{digits_of}
use Rattle.record.specs.Kinds.{is_transaction}
use Rattle.record.specs.Read.{values_of}
use Rattle.record.specs.Faults.{after_header}
use Rattle.record.specs.declared.Before.{Before}
use Rattle.record.specs.declared.Batch.{Batch}
use Rattle.record.specs.declared.Totals.{Totals}
use Rattle.record.specs.declared.TransactionFields.{TransactionFields}
use Rattle.reading.specs.Step.{onward, opened_batch, name_if, opened_item, after_text, texted, next_for}
use Rattle.reading.specs.declared.Stage.{Stage}
use Rattle.reading.specs.declared.Name.{Name}
use Rattle.reading.specs.declared.OpenItem.{OpenItem}
use Rattle.reading.specs.declared.State.{State}

pub header_via : {e : Before} {g h : Group} {n m : ℕ} (p : Before) → g ≡ h → n ≡ m → e ≡ after_header p g n → e ≡ after_header p h m
header_via p f k e = e ∙ rw (f, k)

pub onward_via : {x : State} {d e : Before} {b c : Batch} {t u : Totals} {i j : OpenItem} (s : State) (p : Stage) → d ≡ e → b ≡ c → t ≡ u → i ≡ j → x ≡ onward s p d b t i → x ≡ onward s p e c u j
onward_via s p e f g k h = h ∙ rw (e, f, g, k)

pub texted_via : {x : State} {n : Name} (s : State) (r : Bool) (d : ℕ) → n ≡ after_text s.item.name → x ≡ onward s s.stage s.before s.batch s.totals (record { name = n; reference = r; descriptions = d }) → x ≡ texted s r d
texted_via s r d e h = h ∙ rw e

pub opened_made : {a : ℕ} (line : List ℕ) → a ≡ (digits_of (take 10 (drop 7 line))).value → ◌≡◌ {A = Batch} (record { account = a; items = 0; total = 0; accounts = 0; fixed = 0 }) (opened_batch (values_of BatchHeaderB line))
opened_made line e = rw e

pub item_made : {u : Bool} {n : Name} (t : TransactionFields) → u ≡ is_unchecked_type t.kind → n ≡ name_if u → ◌≡◌ {A = OpenItem} (record { name = n; reference = false; descriptions = 0 }) (opened_item t)
item_made t e h = rw (h, e)

-- by the kind
pub next_via : {x : State} {k m : Kind} (s : State) (line : List ℕ) → k ≡ m → x ≡ next_for s m (values_of m line) → x ≡ next_for s k (values_of k line)
next_via s line e h = h ∙ ap (λ i. next_for s i (values_of i line)) (sym e)

-- a transaction has a function of its own
pub no_other : {x : State} {k : Kind} (s : State) (line : List ℕ) → k ≡ Transaction → is_transaction k ≡ false → x ≡ next_for s k (values_of k line)
no_other s line e h = absurd (true≢false (sym (ap is_transaction e) ∙ h))
