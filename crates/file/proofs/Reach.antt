-- What holds of every state of a run: its numbers are within the limits, and lines and totals are no more than the batches and items read can have. Assumes nothing.
use Prim.Native.Nat.{ℕ, zero, suc, ◌+◌, ◌-◌, ◌*◌, ◌≤◌, zero-le}
use mathlib.Core.Path.{◌≡◌, refl, sym, ap, ◌∙◌, subst}
use mathlib.Core.List.{List, [], ◌∷◌}
use mathlib.Core.Bool.{Bool, true, false, not, ◌&&◌, ◌||◌}
use native.Mathlib.Omega.{arith}
use lib.ListN.{get_or, take}
use lib.Dec.{T, eqb, ltb, ltb→lt, eqb→eq}
use Rattle.machine.specs.Lists.{pick, in_range}
use Rattle.machine.proofs.Base.{and_l, and_r, of_eq}
use Rattle.format.specs.Records.{Fields, sequence, unidentified}
use Rattle.format.specs.Rules.{max_sequence, most_descriptions, same_group, is_unchecked_type}
use Rattle.format.specs.Language.{Follows}
use Rattle.format.specs.Tests.{is_next}
use Rattle.format.specs.declared.Kind.{Kind}
use Rattle.format.specs.declared.Kind.TheVariants.{FileHeader, BatchHeaderB, BatchHeaderC, FixedDescription, OrderingParty, Transaction, NamePayer, CityPayer, PaymentReference, Description, NameBeneficiary, CityBeneficiary, BatchTrailer, FileTrailer}
use Rattle.format.specs.declared.Group.{Group}
use Rattle.format.specs.declared.Group.TheVariants.{Payments, Debits}
use Rattle.format.proofs.Sound.{in_range→In, is_next→Follows}
use Rattle.record.specs.Kinds.{is_batch_trailer}
use Rattle.record.specs.Faults.{fields_of, fault_of}
use Rattle.record.specs.Read.{transaction_for}
use Rattle.record.specs.declared.Batch.{Batch}
use Rattle.record.specs.declared.Totals.{Totals}
use Rattle.record.specs.declared.TransactionFields.{TransactionFields}
use Rattle.reading.specs.State.{start_state, within, Bounded, Limited}
use Rattle.reading.specs.Order.{stage_number, is_stage, is_name, may_open, may_fix, may_end, may_pay, may_name, texts_by, may_text, may_refer, may_describe, allowed}
use Rattle.reading.specs.Step.{with_batch, opened, with_fixed, paid, named, texted, next_for, name_if, after_text, judged_first}
use Rattle.reading.specs.declared.Stage.{Stage}
use Rattle.reading.specs.declared.Stage.TheVariants.{Start, Headed, Opened, Ordered, Item, Closed, Done}
use Rattle.reading.specs.declared.Name.{Name}
use Rattle.reading.specs.declared.Name.TheVariants.{Unwanted, Due, Read, Past}
use Rattle.reading.specs.declared.State.{State}
use Rattle.reading.specs.Step.{Judged}
use Rattle.reading.proofs.Limits.{within_yes}
use Rattle.reading.proofs.Verdicts.{next_totals, is_trailer, First, beyond, halted, moved, first}
use Rattle.reading.proofs.Judgements.{limited_first}
use Rattle.record.proofs.Faultless.{faultless}

-- a name and its city
abbrev name_lines : Name → ℕ
name_lines Unwanted = 0
name_lines Due = 0
name_lines Read = 1
name_lines Past = 2

abbrev reference_lines : Bool → ℕ
reference_lines true = 1
reference_lines false = 0

-- a batch has at most 700,007 lines: header, four fixed descriptions, ordering party, trailer, and seven for each of 100,000 items
abbrev Lines : Stage → ℕ → ℕ → Batch → Name → Bool → ℕ → Type 0
Lines Start n q b m r d = (n ≡ 0) × (q ≡ 0)
Lines Headed n q b m r d = (n ≡ 1) × (q ≡ 0)
Lines Opened n q b m r d = (n + 700007 ≤ 700007 * q + 2 + b.fixed) × (1 ≤ q) × (b.items ≡ 0)
Lines Ordered n q b m r d = (n + 700007 ≤ 700007 * q + 7) × (1 ≤ q) × (b.items ≡ 0)
Lines Item n q b m r d = (n + 700007 ≤ 700007 * q + 7 * b.items + 1 + reference_lines r + d + name_lines m) × (1 ≤ q) × (reference_lines r + d ≤ 4)
Lines Closed n q b m r d = (n ≤ 700007 * q + 1) × (1 ≤ q)
Lines Done n q b m r d = n ≤ 700007 * q + 2

-- totals of up to k batches: 100,000 items each, and the largest total of a batch
abbrev UpTo : ℕ → Totals → Type 0
UpTo k t = (t.items ≤ 100000 * k) × (t.amount ≤ 4537802160901 * k)

-- all before the open one are closed
abbrev UpToAt : Stage → ℕ → Totals → Type 0
UpToAt Start q t = UpTo 0 t
UpToAt Headed q t = UpTo 0 t
UpToAt Opened q t = UpTo (q - 1) t
UpToAt Ordered q t = UpTo (q - 1) t
UpToAt Item q t = UpTo (q - 1) t
UpToAt Closed q t = UpTo q t
UpToAt Done q t = UpTo q t

abbrev CountsAt : Stage → State → Type 0
CountsAt p s = Lines p s.line s.before.sequence s.batch s.item.name s.item.reference s.item.descriptions × UpToAt p s.before.sequence s.totals

abbrev pub Reach : State → Type 0
Reach s = Limited s × CountsAt s.stage s

pub reach_start : Reach start_state
reach_start = (
  record {
    items = zero-le;
    total = zero-le;
    accounts = zero-le;
    sequence = zero-le;
    fixed = zero-le;
    descriptions = zero-le;
    totals = record { items = zero-le; amount = zero-le };
  },
  ((refl, refl), (zero-le, zero-le)),
)

few_names : (m : Name) → name_lines m ≤ 2
few_names Unwanted = omega arith
few_names Due = omega arith
few_names Read = omega arith
few_names Past = omega arith

few_lines : (p : Stage) (s : State) → Limited s → CountsAt p s → s.line ≤ 6999369995
few_lines Start s k h = omega arith
few_lines Headed s k h = omega arith
few_lines Opened s k h = omega (arith, k.sequence, k.fixed)
few_lines Ordered s k h = omega (arith, k.sequence)
few_lines Item s k h = omega (arith, k.sequence, k.items, few_names s.item.name)
few_lines Closed s k h = omega (arith, k.sequence)
few_lines Done s k h = omega (arith, k.sequence)

pub reach_line : (s : State) → Reach s → s.line ≤ 6999369995
reach_line s i = few_lines s.stage s i.0 i.1

-- NO STATE OF A RUN IS ONE THAT ANSWER 24 IS FOR
pub reach_within : (s : State) → Reach s → within s ≡ true
reach_within s i = within_yes s i.0 (reach_line s i)

-- ## What an allowed record says of the state

stages : List Stage
stages = Start ∷ Headed ∷ Opened ∷ Ordered ∷ Item ∷ Closed ∷ Done ∷ []

stage_at : (p : Stage) → get_or stages (stage_number p) Done ≡ p
unfolding stages
stage_at Start = refl
stage_at Headed = refl
stage_at Opened = refl
stage_at Ordered = refl
stage_at Item = refl
stage_at Closed = refl
stage_at Done = refl

is_stage_lem : (p q : Stage) → T (is_stage p q) → p ≡ q
is_stage_lem p q t = sym (stage_at p) ∙ ap (λ n. get_or stages n Done) (eqb→eq (stage_number p) (stage_number q) t) ∙ stage_at q

is_due : (m : Name) → T (is_name m Due) → name_lines m ≡ 0
is_due Unwanted t = refl
is_due Due t = refl
is_due Read t = absurd t
is_due Past t = absurd t

is_read : (m : Name) → T (is_name m Read) → name_lines m ≡ 1
is_read Unwanted t = absurd t
is_read Due t = absurd t
is_read Read t = refl
is_read Past t = absurd t

either : {A : Type 0} (a b : Bool) → T (a || b) → (T a → A) → (T b → A) → A
either true b t f g = f tt
either false b t f g = g t

-- ## The lines after a record

new_name : (q : Bool) → name_lines (name_if q) ≡ 0
new_name true = refl
new_name false = refl

after_text_lem : (m : Name) → name_lines m ≤ name_lines (after_text m)
after_text_lem Unwanted = omega arith
after_text_lem Due = omega arith
after_text_lem Read = omega arith
after_text_lem Past = omega arith

referred : (r : Bool) (d : ℕ) → T (not r && eqb d 0) → reference_lines r + d ≡ 0
referred true d t = absurd t
referred false d t = omega (arith, eqb→eq d 0 t)

described : (r : Bool) (d : ℕ) → T (ltb d (most_descriptions r)) → reference_lines r + (d + 1) ≤ 4
described true d t = omega (arith, ltb→lt d 3 t)
described false d t = omega (arith, ltb→lt d 4 t)

following : (before n : ℕ) → 1 ≤ before → Follows before n → n ≡ before + 1
following zero n h f = absurd (omega arith)
following (suc p) n h f = omega (arith, f)

module _ (s : State) (limited : Limited s) (i : CountsAt s.stage s) where
  at_stage : (q : Stage) → T (is_stage s.stage q) → CountsAt q s
  at_stage q t = subst (λ p. CountsAt p s) (is_stage_lem s.stage q t) i

  as_stage : (q : Stage) (u : State) → T (is_stage s.stage q) → CountsAt q u → CountsAt s.stage u
  as_stage q u t h = subst (λ p. CountsAt p u) (sym (is_stage_lem s.stage q t)) h

  opened_lines : (x : Fields BatchHeaderB) → T (may_open s.stage) → T (in_range 1 max_sequence (sequence x)) → T (is_next s.before.sequence (sequence x)) → CountsAt Opened (opened s x)
  unfolding may_open
  opened_lines x a r t =
      let n = sequence x in
      let h = in_range→In 1 max_sequence n r in
      either (is_stage s.stage Headed) (is_stage s.stage Closed) a
      (λ p. let w = at_stage Headed p in omega arith)
      (λ p. let w = at_stage Closed p in omega (arith, following s.before.sequence n w.0.1 (is_next→Follows s.before.sequence n t)))

  paid_lines : (t : TransactionFields) → T (may_pay s.stage s.item.name) → CountsAt Item (paid s t)
  unfolding may_pay may_end
  paid_lines t a =
      let z = new_name (is_unchecked_type t.kind) in
      either (is_stage s.stage Ordered) (is_stage s.stage Item && not (is_name s.item.name Due)) a
      (λ p. let w = at_stage Ordered p in omega arith)
      (λ p. let w = at_stage Item (and_l (is_stage s.stage Item) (not (is_name s.item.name Due)) p) in omega (arith, few_names s.item.name))

  -- a name or a city, with n lines before it
  named_lines : (g : Bool) (m : Name) → name_lines m ≡ name_lines s.item.name + 1 → T (is_stage s.stage Item && g) → CountsAt s.stage (named s m)
  named_lines g m e a = let p = and_l (is_stage s.stage Item) g a in let w = at_stage Item p in as_stage Item (named s m) p (omega arith)

  due_lines : (g : Group) → T (is_stage s.stage Item && (same_group s.before.group g && is_name s.item.name Due)) → CountsAt s.stage (named s Read)
  due_lines g a =
      let b = same_group s.before.group g && is_name s.item.name Due in
      let e = is_due s.item.name (and_r (same_group s.before.group g) (is_name s.item.name Due) (and_r (is_stage s.stage Item) b a)) in
      named_lines b Read (omega arith) a

  read_lines : (g : Group) → T (is_stage s.stage Item && (same_group s.before.group g && is_name s.item.name Read)) → CountsAt s.stage (named s Past)
  read_lines g a =
      let b = same_group s.before.group g && is_name s.item.name Read in
      let e = is_read s.item.name (and_r (same_group s.before.group g) (is_name s.item.name Read) (and_r (is_stage s.stage Item) b a)) in
      named_lines b Past (omega arith) a

  texted_lines : (q : Bool) (r : Bool) (d : ℕ) → T ((is_stage s.stage Item && texts_by s.before.group s.item.name) && q)
      → reference_lines r + d ≡ reference_lines s.item.reference + s.item.descriptions + 1 → reference_lines r + d ≤ 4 → CountsAt s.stage (texted s r d)
  texted_lines q r d a e h =
      let p = and_l (is_stage s.stage Item) (texts_by s.before.group s.item.name) (and_l (is_stage s.stage Item && texts_by s.before.group s.item.name) q a) in
      let w = at_stage Item p in
      as_stage Item (texted s r d) p (omega (arith, after_text_lem s.item.name))

  counts_next : (k : Kind) (line : List ℕ) → T (allowed s k) → (fault_of s.before s.batch k line).number ≡ 0 → CountsAt (next_for s k (fields_of k line)).stage (next_for s k (fields_of k line))
  unfolding allowed may_fix may_name may_refer may_describe may_text may_end
  counts_next FileHeader line a f = let w = at_stage Start a in omega arith
  counts_next BatchHeaderB line a f = let h = (faultless s.before s.batch BatchHeaderB line f).1.1.1.0 in opened_lines (fields_of BatchHeaderB line) a h.0 h.1.0
  counts_next BatchHeaderC line a f = let h = (faultless s.before s.batch BatchHeaderC line f).1.1.1.0 in opened_lines (unidentified (fields_of BatchHeaderC line)) a h.0 h.1.0
  counts_next FixedDescription line a f =
      let p = and_l (is_stage s.stage Opened) (ltb s.batch.fixed 4) a in
      let w = at_stage Opened p in
      as_stage Opened (with_fixed s) p (omega arith)
  counts_next OrderingParty line a f = let w = at_stage Opened a in omega (arith, limited.fixed)
  counts_next Transaction line a f = paid_lines (transaction_for (fields_of Transaction line)) a
  counts_next NamePayer line a f = due_lines Debits a
  counts_next CityPayer line a f = read_lines Debits a
  counts_next PaymentReference line a f =
      let e = referred s.item.reference s.item.descriptions (and_r (may_text s.stage s.before.group s.item.name) _ a) in
      texted_lines (not s.item.reference && eqb s.item.descriptions 0) true s.item.descriptions a (omega arith) (omega arith)
  counts_next Description line a f =
      let r = s.item.reference in
      let e = described r s.item.descriptions (and_r (may_text s.stage s.before.group s.item.name) (ltb s.item.descriptions (most_descriptions r)) a) in
      texted_lines (ltb s.item.descriptions (most_descriptions r)) r (s.item.descriptions + 1) a (omega arith) e
  counts_next NameBeneficiary line a f = due_lines Payments a
  counts_next CityBeneficiary line a f = read_lines Payments a
  counts_next BatchTrailer line a f =
      let w = at_stage Item (and_l (is_stage s.stage Item) (not (is_name s.item.name Due)) a) in
      omega (arith, limited.items, few_names s.item.name)
  counts_next FileTrailer line a f = let w = at_stage Closed a in omega arith

-- ## A run

-- the totals after a record
bounded_next : (s : State) (k : Kind) (x : Fields k) → Reach s → T (allowed s k) → Bounded (next_for s k x).totals
unfolding pick allowed may_end
bounded_next s k x i a = subst Bounded (sym (next_totals s k x)) (by (is_batch_trailer k) refl)
  where
    by : (q : Bool) → is_batch_trailer k ≡ q → Bounded (pick q (with_batch s.totals s.batch) s.totals)
    by true e =
        let p : T (is_stage s.stage Item && not (is_name s.item.name Due)) = subst (λ m. T (allowed s m)) (is_trailer k e) a in
        let w = at_stage s i.0 i.1 Item (and_l (is_stage s.stage Item) (not (is_name s.item.name Due)) p) in
        record { items = omega (arith, i.0.items, i.0.sequence); amount = omega (arith, i.0.total, i.0.sequence) }
    by false e = i.0.totals

reach_first : {s : State} {xs : List ℕ} {j : Judged} → Reach s → First s xs j → CountsAt j.next.stage j.next × Bounded j.next.totals
reach_first i (beyond w) = (i.1, i.0.totals)
reach_first i (halted w c n z) = (i.1, i.0.totals)
reach_first {s} {xs} i (moved w k c a f) =
    let p = of_eq (allowed s k) a in
    (counts_next s i.0 i.1 k (take 50 xs) p f, bounded_next s k (fields_of k (take 50 xs)) i p)

pub reach_next : (s : State) (xs : List ℕ) → Reach s → Reach (judged_first s xs).next
reach_next s xs i = let w = reach_first i (first s xs) in (limited_first i.0 (first s xs) w.1, w.0)
