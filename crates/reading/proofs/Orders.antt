-- The order of records: what calls answered, put together. Assumes nothing.
use mathlib.Core.Path.{◌≡◌, refl, ap, ap₂, ◌∙◌}
use denote.Enum.Bare.{sameb}
use denote.Enum.Declared.{tag_of}
use lib.Dec.{eqb}
use mathlib.Core.Bool.{Bool, not, ◌||◌}
use borrow.Author.Rules.{rules}
use Rattle.machine.proofs.Tests.{tests}
use Rattle.format.specs.Rules.{same_group}
use Rattle.format.specs.contracts.Group as group
use Rattle.format.specs.declared.Kind.{Kind}
use Rattle.format.specs.declared.Group.{Group}
use Rattle.format.specs.declared.Group.TheVariants.{Payments, Debits}
use Rattle.record.specs.Faults.{nothing_before, empty_batch, no_totals}
use Rattle.record.specs.declared.Before.{Before}
use Rattle.record.specs.declared.Batch.{Batch}
use Rattle.record.specs.declared.Totals.{Totals}
use Rattle.reading.specs.State.{no_item, start_state}
use Rattle.record.proofs.Typing.{same_is}
use Rattle.reading.specs.Order.{stage_number, is_stage, name_number, is_name, texts_by, allowed, allowed_by}
use Rattle.reading.specs.contracts.Stage as stage
use Rattle.reading.specs.contracts.Name as name
use Rattle.reading.specs.declared.Stage.{Stage}
use Rattle.reading.specs.declared.Stage.TheVariants.{Start, Headed, Opened, Ordered, Item, Closed, Done}
use Rattle.reading.specs.declared.Name.{Name}
use Rattle.reading.specs.declared.Name.TheVariants.{Unwanted, Due, Read, Past}
use Rattle.reading.specs.declared.OpenItem.{OpenItem}
use Rattle.reading.specs.declared.State.{State}

-- what `==` says of two stages, names or groups

stage_tag : (p : Stage) → tag_of stage.the_type p ≡ stage_number p
stage_tag Start = refl
stage_tag Headed = refl
stage_tag Opened = refl
stage_tag Ordered = refl
stage_tag Item = refl
stage_tag Closed = refl
stage_tag Done = refl

name_tag : (n : Name) → tag_of name.the_type n ≡ name_number n
name_tag Unwanted = refl
name_tag Due = refl
name_tag Read = refl
name_tag Past = refl

pub stages : {x : Bool} (a b : Stage) → x ≡ sameb stage.the_type a b → x ≡ is_stage a b
stages a b e = e ∙ ap₂ eqb (stage_tag a) (stage_tag b)

pub names : {x : Bool} (a b : Name) → x ≡ sameb name.the_type a b → x ≡ is_name a b
names a b e = e ∙ ap₂ eqb (name_tag a) (name_tag b)

pub no_names : {x : Bool} (a b : Name) → x ≡ not (sameb name.the_type a b) → x ≡ not (is_name a b)
no_names a b e = e ∙ ap not (names a b refl)

pub groups : {x : Bool} (a b : Group) → x ≡ sameb group.the_type a b → x ≡ same_group a b
groups a b e = e ∙ same_is a b

pub ruleset orders = (stages, names, groups, tests, rules)

-- by cases on the group
pub texts_payments : {x : Bool} {g : Group} (n : Name) → g ≡ Payments → x ≡ (is_name n Unwanted || is_name n Due) → x ≡ texts_by g n
unfolding texts_by
texts_payments n e h = rw e h

pub texts_debits : {x : Bool} {g : Group} (n : Name) → g ≡ Debits → x ≡ not (is_name n Due) → x ≡ texts_by g n
unfolding texts_by
texts_debits n e h = rw e h

pub ruleset texts = (texts_payments, texts_debits, orders)

-- by the kind
pub allowed_via : {x : Bool} {k : Kind} (s : State) (m : Kind) → k ≡ m → x ≡ allowed_by s m → x ≡ allowed s k
unfolding allowed
allowed_via s m e h = rw e h

pub ruleset allowing = (allowed_via, stages)

pub started : {p : Before} {b : Batch} {t : Totals} {i : OpenItem} → p ≡ nothing_before → b ≡ empty_batch → t ≡ no_totals → i ≡ no_item → ◌≡◌ {A = State} (record { line = 0; stage = Start; before = p; batch = b; totals = t; item = i }) start_state
started e f g h = rw (e, f, g, h)
