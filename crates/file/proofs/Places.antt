-- The state of the code as a state of the reader that the language's theorem is proved of; and a record may stand in one exactly where it may stand in the other. Assumes nothing.
use Prim.Native.Nat.{ℕ, zero, suc, ◌-◌}
use mathlib.Core.Path.{◌≡◌, refl, sym, ap, ◌∙◌, subst}
use mathlib.Core.List.{List, [], ◌∷◌}
use mathlib.Core.Bool.{Bool, true, false, not, ◌&&◌}
use mathlib.Core.Option.{Option, none, some}
use native.Mathlib.Omega.{arith}
use borrow.Author.Tests.{ltb-true, ltb-false}
use lib.Dec.{T, ltb, eqb, eqb-suc-zero}
use Rattle.machine.specs.Lists.{same}
use Rattle.machine.proofs.Base.{and_l, and_r}
use Rattle.format.specs.Records.{code}
use Rattle.format.specs.Rules.{most_descriptions}
use Rattle.format.specs.Language.{is_some}
use Rattle.format.specs.declared.Kind.{Kind}
use Rattle.format.specs.declared.Kind.TheVariants.{FileHeader, BatchHeaderB, BatchHeaderC, FixedDescription, OrderingParty, Transaction, NamePayer, CityPayer, PaymentReference, Description, NameBeneficiary, CityBeneficiary, BatchTrailer, FileTrailer}
use Rattle.format.specs.declared.Group.{Group}
use Rattle.format.specs.declared.Group.TheVariants.{Payments, Debits}
use Rattle.format.proofs.Every.{kinds, every}
use Rattle.format.proofs.Reader.{Room, fresh, left, Phase, start, headed, opened, ordered, paying, paid, owing, owed, closed, done, Context, at, Place, Choice, choices, find}
use Rattle.format.proofs.Reader as the
use Rattle.format.proofs.Link.{find_code}
use Rattle.record.specs.Faults.{known_group}
use Rattle.record.specs.declared.Before.{Before}
use Rattle.record.specs.declared.Batch.{Batch}
use Rattle.record.proofs.Coding.{code_found, one_kind}
use Rattle.reading.specs.declared.Stage.{Stage}
use Rattle.reading.specs.declared.Stage.TheVariants.{Start, Headed, Opened, Ordered, Item, Closed, Done}
use Rattle.reading.specs.declared.Name.{Name}
use Rattle.reading.specs.declared.Name.TheVariants.{Unwanted, Due, Read, Past}
use Rattle.reading.specs.declared.State.{State}
use Rattle.reading.specs.Order.{is_stage, may_open, may_fix, may_end, may_pay, may_name, texts_by, may_text, may_refer, may_describe, allowed}

-- ## The place of a state

abbrev pub room_of : Bool → ℕ → Room
room_of true n = left (3 - n)
room_of false zero = fresh
room_of false (suc n) = left (3 - n)

abbrev pub item_phase : Group → Name → Room → Phase
item_phase Payments Unwanted r = paying false r
item_phase Payments Due r = paying true r
item_phase Payments Read r = paid true
item_phase Payments Past r = paid false
item_phase Debits Unwanted r = owed false r
item_phase Debits Due r = owing r
item_phase Debits Read r = owed true r
item_phase Debits Past r = owed false r

-- o: the group where it is known; f: the fixed descriptions that there may still be
abbrev pub phase_in : Stage → Option Group → Group → ℕ → Name → Room → Phase
phase_in Start o g f n r = start o
phase_in Headed o g f n r = headed o
phase_in Opened o g f n r = opened g f
phase_in Ordered o g f n r = ordered g
phase_in Item o g f n r = item_phase g n r
phase_in Closed o g f n r = closed o
phase_in Done o g f n r = done

abbrev pub phase_of : State → Phase
phase_of s = phase_in s.stage (known_group s.before) s.before.group (4 - s.batch.fixed) s.item.name (room_of s.item.reference s.item.descriptions)

abbrev pub context_of : Before → Batch → Context
context_of p b = record { account = b.account; before = record { sequence = p.sequence }; total = b.total; accounts = b.accounts; count = b.items }

abbrev pub place_of : State → the.State
place_of s = at (phase_of s) (context_of s.before s.batch)

-- ## Room for texts, and what is left of it

abbrev some_left : ℕ → Bool
some_left zero = false
some_left (suc n) = true

abbrev refers : Room → Bool
refers fresh = true
refers (left n) = false

abbrev describes : Room → Bool
describes fresh = true
describes (left n) = some_left n

some_left_lem : (a n : ℕ) (b : Bool) → ltb n a ≡ b → b ≡ some_left (a - n)
some_left_lem a n true h = let l = ltb-true n a h in let e : a - n ≡ suc (a - suc n) = omega arith in sym (ap some_left e)
some_left_lem a n false h = let l = ltb-false n a h in let e : a - n ≡ 0 = omega arith in sym (ap some_left e)

refers_in : (r : Bool) (n : ℕ) → (not r && eqb n 0) ≡ refers (room_of r n)
refers_in true n = refl
refers_in false zero = refl
refers_in false (suc n) = eqb-suc-zero n

describes_in : (r : Bool) (n : ℕ) → ltb n (most_descriptions r) ≡ describes (room_of r n)
describes_in true n = some_left_lem 3 n (ltb n 3) refl
describes_in false zero = refl
describes_in false (suc n) = let e : 4 - suc n ≡ 3 - n = omega arith in some_left_lem 4 (suc n) (ltb (suc n) 4) refl ∙ ap some_left e

-- ## The order of records by the phase

may_follow : Stage → Group → Name → Bool → Bool → Bool → Kind → Bool
may_follow p g n fixed reference description FileHeader = is_stage p Start
may_follow p g n fixed reference description BatchHeaderB = may_open p
may_follow p g n fixed reference description BatchHeaderC = may_open p
may_follow p g n fixed reference description FixedDescription = is_stage p Opened && fixed
may_follow p g n fixed reference description OrderingParty = is_stage p Opened
may_follow p g n fixed reference description Transaction = may_pay p n
may_follow p g n fixed reference description NamePayer = may_name Debits Due p g n
may_follow p g n fixed reference description CityPayer = may_name Debits Read p g n
may_follow p g n fixed reference description PaymentReference = may_text p g n && reference
may_follow p g n fixed reference description Description = may_text p g n && description
may_follow p g n fixed reference description NameBeneficiary = may_name Payments Due p g n
may_follow p g n fixed reference description CityBeneficiary = may_name Payments Read p g n
may_follow p g n fixed reference description BatchTrailer = may_end p n
may_follow p g n fixed reference description FileTrailer = is_stage p Closed

abbrev following : State → Kind → Bool
following s k =
    may_follow s.stage s.before.group s.item.name (some_left (4 - s.batch.fixed)) (refers (room_of s.item.reference s.item.descriptions)) (describes (room_of s.item.reference s.item.descriptions)) k

allowed_follows : (s : State) (k : Kind) → allowed s k ≡ following s k
unfolding allowed may_follow may_fix may_refer may_describe
allowed_follows s FileHeader = refl
allowed_follows s BatchHeaderB = refl
allowed_follows s BatchHeaderC = refl
allowed_follows s FixedDescription = ap (λ q. is_stage s.stage Opened && q) (some_left_lem 4 s.batch.fixed (ltb s.batch.fixed 4) refl)
allowed_follows s OrderingParty = refl
allowed_follows s Transaction = refl
allowed_follows s NamePayer = refl
allowed_follows s CityPayer = refl
allowed_follows s PaymentReference = ap (λ q. may_text s.stage s.before.group s.item.name && q) (refers_in s.item.reference s.item.descriptions)
allowed_follows s Description = ap (λ q. may_text s.stage s.before.group s.item.name && q) (describes_in s.item.reference s.item.descriptions)
allowed_follows s NameBeneficiary = refl
allowed_follows s CityBeneficiary = refl
allowed_follows s BatchTrailer = refl
allowed_follows s FileTrailer = refl

has_place : Phase → Kind → Bool
has_place p k = is_some (find (code k) (choices p))

-- two tests of kinds agree: on each of them
abbrev same_truth : Bool → Bool → Bool
same_truth true b = b
same_truth false b = not b

same_truth_lem : (a b : Bool) → T (same_truth a b) → a ≡ b
same_truth_lem true true t = refl
same_truth_lem true false t = absurd t
same_truth_lem false true t = absurd t
same_truth_lem false false t = refl

abbrev agree_on : (Kind → Bool) → (Kind → Bool) → List Kind → Bool
agree_on f g [] = true
agree_on f g (k ∷ ks) = same_truth (f k) (g k) && agree_on f g ks

abbrev OnEach : (Kind → Bool) → (Kind → Bool) → List Kind → Type 0
OnEach f g [] = Unit {0}
OnEach f g (k ∷ ks) = (f k ≡ g k) × OnEach f g ks

on_each : (f g : Kind → Bool) (ks : List Kind) → T (agree_on f g ks) → OnEach f g ks
on_each f g [] t = tt
on_each f g (k ∷ ks) t = (same_truth_lem (f k) (g k) (and_l (same_truth (f k) (g k)) (agree_on f g ks) t), on_each f g ks (and_r (same_truth (f k) (g k)) (agree_on f g ks) t))

on_every : (f g : Kind → Bool) → OnEach f g kinds → (k : Kind) → f k ≡ g k
on_every f g h = every (λ k. f k ≡ g k) h.0 h.1.0 h.1.1.0 h.1.1.1.0 h.1.1.1.1.0 h.1.1.1.1.1.0 h.1.1.1.1.1.1.0 h.1.1.1.1.1.1.1.0 h.1.1.1.1.1.1.1.1.0 h.1.1.1.1.1.1.1.1.1.0 h.1.1.1.1.1.1.1.1.1.1.0 h.1.1.1.1.1.1.1.1.1.1.1.0 h.1.1.1.1.1.1.1.1.1.1.1.1.0 h.1.1.1.1.1.1.1.1.1.1.1.1.1.0

same_order : (p : Stage) (o : Option Group) (g : Group) (f : ℕ) (n : Name) (r : Room) → T (agree_on (may_follow p g n (some_left f) (refers r) (describes r)) (has_place (phase_in p o g f n r)) kinds)
unfolding may_follow has_place same may_open may_end may_pay may_name texts_by may_text
same_order Start o g f n r = tt
same_order Headed o g f n r = tt
same_order Opened o g zero n r = tt
same_order Opened o g (suc f) n r = tt
same_order Ordered o g f n r = tt
same_order Item o Payments f Unwanted fresh = tt
same_order Item o Payments f Unwanted (left zero) = tt
same_order Item o Payments f Unwanted (left (suc m)) = tt
same_order Item o Payments f Due fresh = tt
same_order Item o Payments f Due (left zero) = tt
same_order Item o Payments f Due (left (suc m)) = tt
same_order Item o Payments f Read r = tt
same_order Item o Payments f Past r = tt
same_order Item o Debits f Unwanted fresh = tt
same_order Item o Debits f Unwanted (left zero) = tt
same_order Item o Debits f Unwanted (left (suc m)) = tt
same_order Item o Debits f Due r = tt
same_order Item o Debits f Read fresh = tt
same_order Item o Debits f Read (left zero) = tt
same_order Item o Debits f Read (left (suc m)) = tt
same_order Item o Debits f Past fresh = tt
same_order Item o Debits f Past (left zero) = tt
same_order Item o Debits f Past (left (suc m)) = tt
same_order Closed o g f n r = tt
same_order Done o g f n r = tt

-- a record is allowed exactly where it has a place
allowed_place : (s : State) (k : Kind) → allowed s k ≡ is_some (find (code k) (choices (phase_of s)))
unfolding has_place
allowed_place s k =
    let room = room_of s.item.reference s.item.descriptions in
    allowed_follows s k ∙ on_every (following s) (has_place (phase_of s)) (on_each (following s) (has_place (phase_of s)) kinds (same_order s.stage (known_group s.before) s.before.group (4 - s.batch.fixed) s.item.name room)) k

pub no_place : (s : State) (k : Kind) → allowed s k ≡ false → find (code k) (choices (phase_of s)) ≡ none
no_place s k h = by (find (code k) (choices (phase_of s))) (sym (allowed_place s k) ∙ h)
  where
    by : (o : Option (Choice (phase_of s))) → is_some o ≡ false → o ≡ none
    by none e = refl
    by (some o) e = absurd (subst T e tt)

pub its_place : (s : State) (k : Kind) → allowed s k ≡ true → Place (phase_of s) k
its_place s k h = by (find (code k) (choices (phase_of s))) refl (sym (allowed_place s k) ∙ h)
  where
    by : (o : Option (Choice (phase_of s))) → find (code k) (choices (phase_of s)) ≡ o → is_some o ≡ true → Place (phase_of s) k
    by none w e = absurd (subst T (sym e) tt)
    by (some o) w e = subst (Place (phase_of s)) (sym (one_kind k o.0 (code_found k) (find_code (code k) (choices (phase_of s)) o w))) o.1
