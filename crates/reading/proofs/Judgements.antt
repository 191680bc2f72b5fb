-- The judging of a line from what calls answered, and the limits after it. Assumes nothing.
use Rattle.std.specs.Prelude.{Some, None, Result, Ok, Err, ⊤}
use Prim.Native.Nat.{ℕ, ◌+◌, ◌≤◌, ◌<◌, zero-le}
use mathlib.Core.Path.{◌≡◌, refl, sym, ap, ◌∙◌, subst}
use mathlib.Core.List.{List}
use mathlib.Core.Bool.{Bool, true, false}
use native.Mathlib.Omega.{arith}
use borrow.Author.Tests.{eq-eqb, ne_eqb, ltb-true, eqb-true, eqb-false}
use lib.ListN.{take}
use lib.Dec.{eqb}
use Rattle.machine.specs.Lists.{pick}
use Rattle.machine.proofs.Base.{and_second, never, true≢false}
use Rattle.format.specs.Records.{Fields, Code}
use Rattle.format.specs.Rules.{max_fixed, max_descriptions, most_descriptions}
use Rattle.format.specs.Cutting.{is_open, cut_of}
use Rattle.format.specs.Answers.{number_of, number_in}
use Rattle.format.specs.contracts.Kind as kind
use Rattle.format.specs.declared.Refusal.{Refusal}
use Rattle.format.specs.declared.Kind.{Kind}
use Rattle.format.specs.declared.Kind.TheVariants.{FileHeader, BatchHeaderB, BatchHeaderC, FixedDescription, OrderingParty, Transaction, NamePayer, CityPayer, PaymentReference, Description, NameBeneficiary, CityBeneficiary, BatchTrailer, FileTrailer}
use Rattle.format.specs.declared.Cut.{Cut}
use Rattle.record.specs.Kinds.{is_transaction, is_batch_trailer, code_of}
use Rattle.record.specs.Faults.{fields_of, maxima_fault, fault_of, other_fault, fault_read}
use Rattle.record.specs.Read.{transaction_for, transaction_of, values_of, fields_read}
use Rattle.record.specs.declared.Before.{Before}
use Rattle.record.specs.declared.Batch.{Batch}
use Rattle.record.specs.Faults.{Fault}
use Rattle.record.specs.declared.Fault as code
use Rattle.record.specs.declared.TransactionFields.{TransactionFields}
use Rattle.record.specs.Read.{TransactionRead}
use Rattle.field.proofs.Results as Results
use Rattle.record.proofs.Reading.{valued}
use Rattle.format.proofs.Every.{every}
use Rattle.record.proofs.BatchFaults.{header_bounded, identified_bounded}
use Rattle.record.proofs.ItemFaults.{transaction_read, transaction_refused, transaction_taken, transaction_bounded, below_maxima}
use Rattle.reading.specs.State.{are_within, within, Bounded, Limited}
use Rattle.reading.specs.Bounds.{Small, Going, halt_at}
use Rattle.reading.specs.Order.{is_stage, may_fix, may_text, may_describe, allowed}
use Rattle.reading.specs.Step.{with_batch, next_for, paid, refused, taken, judged_by, judged_as, judged_kind, judged_code, judged_line, with_cut, is_done, judged_first, taken_with}
use Rattle.reading.specs.declared.Stage.TheVariants.{Opened, Closed}
use Rattle.reading.specs.declared.State.{State}
use Rattle.reading.specs.Step.{Judged}
use denote.Enum.Bare.{sameb}
use Rattle.reading.proofs.Limits.{bounded_facts, bounded_test, within_limited, going_on_lem, on_line, on_limited}
use Rattle.reading.proofs.Verdicts.{next_totals, is_trailer, First, beyond, halted, moved, first}

-- ## What is handed on by `?`

-- a fault that a call made is one
module _ {A : Type 0} {f : code.Fault} (g : Result A code.Fault) (w : g ≡ Err f) where
  number : (fault_read g).number ≡ number_of f.refusal
  number = ap (λ (r : Result A code.Fault). (fault_read r).number) w

  stops : (fault_read g).number ≡ 0 → ⊥
  stops z = Results.refused f.refusal (sym number ∙ z)

  there : (s : State) → refused s f.column (number_of f.refusal) ≡ refused s (fault_read g).column (fault_read g).number
  there s = ap (λ (h : Fault). refused s h.column h.number) (sym (ap fault_read w))

passed : {A : Type 0} {x : A} (g : Result A code.Fault) → g ≡ Ok x → (fault_read g).number ≡ 0
passed {A} g w = ap (λ (r : Result A code.Fault). (fault_read r).number) w

-- ## Any kind

-- but for a transaction
pub other_fault_lem : {f : Fault} (s : State) (k : Kind) (line : List ℕ) → is_transaction k ≡ false → f ≡ other_fault s.before s.batch k line → f ≡ fault_of s.before s.batch k line
unfolding other_fault pick
other_fault_lem s k line h e = e ∙ rw h

module _ {f : Fault} (s : State) (k : Kind) (line : List ℕ) (e : f ≡ fault_of s.before s.batch k line) where
  pub as_refused : {x : Judged} → (f.number ≡ 0 → ⊥) → x ≡ refused s f.column f.number → x ≡ judged_as s k line
  unfolding judged_as pick
  as_refused z h = h ∙ sym (ap (judged_by s k line) (sym e) ∙ rw (ne_eqb _ _ z))

  pub as_taken : {u : State} → f.number ≡ 0 → u ≡ next_for s k (values_of k line) → taken k u ≡ judged_as s k line
  unfolding judged_as pick
  as_taken z h =
      let v = valued s.before s.batch k line (ap (λ (g : Fault). g.number) (sym e) ∙ z) in
      ap (taken k) (h ∙ ap (next_for s k) v) ∙ sym (ap (judged_by s k line) (sym e) ∙ rw (eq-eqb _ _ z))

-- ## A transaction

module _ {r : TransactionRead} (s : State) (line : List ℕ) (e : r ≡ transaction_of s.before.group s.batch.account line) where
  pub pay_refused : {x : Judged} → (r.number ≡ 0 → ⊥) → x ≡ refused s r.column r.number → x ≡ judged_as s Transaction line
  pay_refused z h = as_refused s Transaction line (sym (transaction_refused s.before s.batch line e z)) z h

  module _ {f : Fault} (z : r.number ≡ 0) (m : f ≡ maxima_fault s.batch r.read.amount) where
    is_fault : f ≡ fault_of s.before s.batch Transaction line
    is_fault = m ∙ sym (transaction_taken s.before s.batch line e z)

    pub pay_above : {x : Judged} → (f.number ≡ 0 → ⊥) → x ≡ refused s f.column f.number → x ≡ judged_as s Transaction line
    pay_above y h = as_refused s Transaction line is_fault y h

    pub pay_taken : {u : State} → f.number ≡ 0 → u ≡ paid s r.read → taken Transaction u ≡ judged_as s Transaction line
    unfolding judged_as pick
    pay_taken y h = ap (taken Transaction) (h ∙ ap (λ t. paid s t) (transaction_read s.before s.batch line e z)) ∙ sym (ap (judged_by s Transaction line) (sym is_fault) ∙ rw (eq-eqb _ _ y))

  pub pay_bounded : Small r.read
  pay_bounded = let b = transaction_bounded s.before.group s.batch.account line e in record { amount = omega (arith, b.amount); payer = omega (arith, b.payer); beneficiary = omega (arith, b.beneficiary) }

module _ {x : Judged} (c : Cut) (j : Judged) where
  pub cut_stop : (s : State) (f : code.Fault) → x ≡ refused s f.column (number_of f.refusal) → refused s f.column (number_of f.refusal) ≡ j → x ≡ with_cut c j
  unfolding with_cut pick
  cut_stop s f e h = rw (← h, ne_eqb (number_of f.refusal) 0 (Results.refused f.refusal)) e

  pub cut_done : (k : Kind) (u : State) → x ≡ taken_with c (taken k u) → taken k u ≡ j → x ≡ with_cut c j
  unfolding with_cut pick
  cut_done k u e h = rw (← h) e

module _ (s : State) (line : List ℕ) (g : Result TransactionFields code.Fault) (e : fields_read g ≡ transaction_of s.before.group s.batch.account line) where
  pub fields_wrong : (f : code.Fault) → g ≡ Err f → refused s f.column (number_of f.refusal) ≡ judged_as s Transaction line
  fields_wrong f w =
      pay_refused s line e (λ z. Results.refused f.refusal (sym (ap (λ (q : Result TransactionFields code.Fault). (fields_read q).number) w) ∙ z)) (ap (λ (t : TransactionRead). refused s t.column t.number) (sym (ap fields_read w)))

  module _ {t : TransactionFields} (w : g ≡ Ok t) where
    nothing : (fields_read g).number ≡ 0
    nothing = ap (λ (q : Result TransactionFields code.Fault). (fields_read q).number) w

    read : (fields_read g).read ≡ t
    read = ap (λ (q : Result TransactionFields code.Fault). (fields_read q).read) w

    pub fields_small : Small t
    fields_small = subst Small read (pay_bounded s line e)

    module _ (h : Result ⊤ code.Fault) (m : fault_read h ≡ maxima_fault s.batch t.amount) where
      maxima : fault_read h ≡ maxima_fault s.batch (fields_read g).read.amount
      maxima = m ∙ ap (λ (q : TransactionFields). maxima_fault s.batch q.amount) (sym read)

      pub maxima_wrong : (f : code.Fault) → h ≡ Err f → refused s f.column (number_of f.refusal) ≡ judged_as s Transaction line
      maxima_wrong f v = pay_above s line e nothing maxima (stops h v) (there h v s)

      pub fields_paid : {o : ⊤} {u : State} → h ≡ Ok o → u ≡ paid s t → taken Transaction u ≡ judged_as s Transaction line
      fields_paid v q = pay_taken s line e nothing maxima (passed h v) (q ∙ ap (paid s) (sym read))

module _ (s : State) (k : Kind) (line : List ℕ) (o : is_transaction k ≡ false) (g : Result ⊤ code.Fault) (e : fault_read g ≡ other_fault s.before s.batch k line) where
  fault : fault_read g ≡ fault_of s.before s.batch k line
  fault = other_fault_lem s k line o e

  pub other_wrong : (f : code.Fault) → g ≡ Err f → refused s f.column (number_of f.refusal) ≡ judged_as s k line
  other_wrong f w = as_refused s k line fault (stops g w) (there g w s)

  pub other_taken : {x : ⊤} {u : State} → g ≡ Ok x → u ≡ next_for s k (values_of k line) → taken k u ≡ judged_as s k line
  other_taken w q = as_taken s k line fault (passed g w) q

-- ## Kinds and codes

is_transaction_lem : (k : Kind) → is_transaction k ≡ true → k ≡ Transaction
is_transaction_lem = every (λ k. is_transaction k ≡ true → k ≡ Transaction) never never never never never (λ h. refl) never never never never never never never never

-- what `==` says of a kind and a transaction
is_tag : (k : Kind) → sameb kind.the_type k Transaction ≡ is_transaction k
is_tag = every (λ k. sameb kind.the_type k Transaction ≡ is_transaction k) refl refl refl refl refl refl refl refl refl refl refl refl refl refl

pub no_transaction : {b : Bool} (k : Kind) → b ≡ sameb kind.the_type k Transaction → b ≡ false → is_transaction k ≡ false
no_transaction k e h = sym (is_tag k) ∙ sym e ∙ h

module _ {b : Bool} {x : Judged} (c : Cut) (s : State) (k : Kind) (line : List ℕ) (e : b ≡ allowed s k) where
  pub kind_pays : {t : Bool} → b ≡ true → t ≡ sameb kind.the_type k Transaction → t ≡ true → x ≡ with_cut c (judged_as s Transaction line) → x ≡ with_cut c (judged_kind s k line)
  unfolding judged_kind pick
  kind_pays h i j w = rw (← e, h) (w ∙ ap (λ m. with_cut c (judged_as s m line)) (sym (is_transaction_lem k (sym (is_tag k) ∙ sym i ∙ j))))

  pub kind_reads : b ≡ true → x ≡ with_cut c (judged_as s k line) → x ≡ with_cut c (judged_kind s k line)
  unfolding judged_kind pick
  kind_reads h w = rw (← e, h) w

  pub kind_stops : b ≡ false → x ≡ refused s 1 3 → x ≡ with_cut c (judged_kind s k line)
  unfolding judged_kind with_cut pick
  kind_stops h w = rw (← e, h) w

pub ruleset kinds = (kind_pays, kind_reads, kind_stops)

module _ {o : Code} {x : Judged} (c : Cut) (s : State) (line : List ℕ) (e : o ≡ code_of (take 5 line)) where
  pub code_known : {k : Kind} → o ≡ Some k → x ≡ with_cut c (judged_kind s k line) → x ≡ with_cut c (judged_line s line)
  unfolding judged_line
  code_known f h = h ∙ ap (λ q. with_cut c (judged_code s line q)) (sym f ∙ e)

  pub code_unknown : o ≡ None → x ≡ refused s 1 2 → x ≡ with_cut c (judged_line s line)
  unfolding judged_line with_cut pick
  code_unknown f h = rw (← e, f) h

pub ruleset codes = (code_known, code_unknown)

-- ## The first line

module _ (s : State) (xs : List ℕ) where
  pub first_beyond : {x : Judged} → within s ≡ false → x ≡ refused s 0 24 → x ≡ judged_first s xs
  unfolding judged_first pick
  first_beyond w h = rw w h

  module _ {n : ℕ} (e : n ≡ halt_at s) where
    first_halted : (n ≡ 0 → ⊥) → refused s 0 n ≡ judged_first s xs
    unfolding judged_first halt_at pick
    first_halted z = by (within s) (is_done s) e z
      where
        line : Judged
        line = pick (is_open s.before.ending (cut_of xs).ending) (with_cut (cut_of xs) (judged_line s (take 50 xs))) (refused s 0 1)

        by : (a b : Bool) → n ≡ pick a (pick b 11 0) 24 → (n ≡ 0 → ⊥) → refused s 0 n ≡ pick a (pick b (refused s 0 11) line) (refused s 0 24)
        by true true i z = ap (refused s 0) i
        by true false i z = absurd (z i)
        by false b i z = ap (refused s 0) i

  module _ (g : Result ⊤ Refusal) (e : number_in g ≡ halt_at s) where
    pub halt_stops : {x : Judged} (r : Refusal) → g ≡ Err r → x ≡ refused s 0 (number_of r) → x ≡ judged_first s xs
    halt_stops r w h = h ∙ first_halted (sym (ap number_in w) ∙ e) (Results.refused r)

    module _ (z : number_in g ≡ 0) where
      pub going_line : s.line ≤ 6999369995
      going_line = on_line s e z

      pub going_limited : Limited s
      going_limited = on_limited s e z

      module _ {x : Judged} {k : Cut} (i : k ≡ cut_of xs) {o : Bool} (f : o ≡ is_open s.before.ending k.ending) where
        pub first_judged : {p : List ℕ} → o ≡ true → p ≡ take 50 xs → x ≡ with_cut k (judged_line s p) → x ≡ judged_first s xs
        unfolding judged_first pick
        first_judged u q v = let w = going_on_lem s e z in rw (w.0, w.1, ← i, ← f, u) (v ∙ ap (λ l. with_cut k (judged_line s l)) q)

        pub first_broken : o ≡ false → x ≡ refused s 0 1 → x ≡ judged_first s xs
        unfolding judged_first pick
        first_broken u v = let w = going_on_lem s e z in rw (w.0, w.1, ← i, ← f, u) v

-- where a call refused nothing
pub no_fault : {o : ⊤} (g : Result ⊤ Refusal) → g ≡ Ok o → number_in g ≡ 0
no_fault g w = ap number_in w

-- ## The limits after a line

fix_room : (s : State) → allowed s FixedDescription ≡ true → s.batch.fixed < max_fixed
unfolding allowed may_fix
fix_room s a = ltb-true s.batch.fixed max_fixed (and_second (is_stage s.stage Opened) _ a)

pub four_at_most : (reference : Bool) → most_descriptions reference ≤ max_descriptions
four_at_most true = omega arith
four_at_most false = omega arith

text_room : (s : State) → allowed s Description ≡ true → s.item.descriptions < max_descriptions
unfolding allowed may_describe
text_room s a =
    let r = s.item.reference in
    omega (arith, ltb-true s.item.descriptions (most_descriptions r) (and_second (may_text s.stage s.before.group s.item.name) _ a), four_at_most r)

abbrev HasRoom : Batch → ℕ → Type 0
HasRoom b n = (b.items < 100000) × (b.total + n ≤ 4537802160901)

item_room : (p : Before) (b : Batch) (line : List ℕ) → (fault_of p b Transaction line).number ≡ 0 → HasRoom b (transaction_for (fields_of Transaction line)).amount
item_room p b line z = by (transaction_of p.group b.account line) refl (eqb (transaction_of p.group b.account line).number 0) refl
  where
    by : (r : TransactionRead) → r ≡ transaction_of p.group b.account line → (q : Bool) → eqb r.number 0 ≡ q → HasRoom b (transaction_for (fields_of Transaction line)).amount
    by r e true h =
        let y = eqb-true r.number 0 h in
        let m = ap (λ (f : Fault). f.number) (sym (transaction_taken p b line e y)) ∙ z in
        subst (λ t. HasRoom b t.amount) (transaction_read p b line e y) (below_maxima b r.read.amount m)
    by r e false h = absurd (eqb-false r.number 0 h (ap (λ (f : Fault). f.number) (sym (transaction_refused p b line e (eqb-false r.number 0 h))) ∙ z))

same_limited : {s u : State} → u.before.sequence ≡ s.before.sequence → u.batch ≡ s.batch → u.totals ≡ s.totals → u.item.descriptions ≡ s.item.descriptions → Limited s → Limited u
same_limited p b t d k =
    record {
      items = rw b k.items;
      total = rw b k.total;
      accounts = rw b k.accounts;
      sequence = rw p k.sequence;
      fixed = rw b k.fixed;
      descriptions = rw d k.descriptions;
      totals = rw t k.totals;
    }

limited_next : (s : State) (k : Kind) (line : List ℕ) → allowed s k ≡ true → (fault_of s.before s.batch k line).number ≡ 0 → Limited s → Bounded (next_for s k (fields_of k line)).totals → Limited (next_for s k (fields_of k line))
limited_next s FileHeader line a f k t = same_limited {s = s} refl refl refl refl k
limited_next s BatchHeaderB line a f k t =
    record { items = zero-le; total = zero-le; accounts = zero-le; sequence = header_bounded s.before s.batch line f; fixed = zero-le; descriptions = zero-le; totals = t }
limited_next s BatchHeaderC line a f k t =
    record { items = zero-le; total = zero-le; accounts = zero-le; sequence = identified_bounded s.before s.batch line f; fixed = zero-le; descriptions = zero-le; totals = t }
limited_next s FixedDescription line a f k t =
    let r = fix_room s a in
    record { items = k.items; total = k.total; accounts = k.accounts; sequence = k.sequence; fixed = omega arith; descriptions = k.descriptions; totals = t }
limited_next s OrderingParty line a f k t = same_limited {s = s} refl refl refl refl k
limited_next s Transaction line a f k t =
    let r = item_room s.before s.batch line f in
    record { items = omega arith; total = r.1; accounts = omega arith; sequence = k.sequence; fixed = k.fixed; descriptions = zero-le; totals = t }
limited_next s NamePayer line a f k t = same_limited {s = s} refl refl refl refl k
limited_next s CityPayer line a f k t = same_limited {s = s} refl refl refl refl k
limited_next s PaymentReference line a f k t = same_limited {s = s} refl refl refl refl k
limited_next s Description line a f k t =
    let r = text_room s a in
    record { items = k.items; total = k.total; accounts = k.accounts; sequence = k.sequence; fixed = k.fixed; descriptions = omega arith; totals = t }
limited_next s NameBeneficiary line a f k t = same_limited {s = s} refl refl refl refl k
limited_next s CityBeneficiary line a f k t = same_limited {s = s} refl refl refl refl k
limited_next s BatchTrailer line a f k t =
    record { items = zero-le; total = zero-le; accounts = zero-le; sequence = k.sequence; fixed = zero-le; descriptions = zero-le; totals = t }
limited_next s FileTrailer line a f k t = same_limited {s = s} refl refl refl refl k

-- where no batch is closed the totals stay
totals_stay : (s : State) (k : Kind) (x : Fields k) → is_stage (next_for s k x).stage Closed ≡ false → (next_for s k x).totals ≡ s.totals
unfolding pick
totals_stay s k x h = next_totals s k x ∙ by (is_batch_trailer k) refl
  where
    by : (q : Bool) → is_batch_trailer k ≡ q → pick q (with_batch s.totals s.batch) s.totals ≡ s.totals
    by true e = absurd (true≢false (sym (subst (λ m. (y : Fields m) → is_stage (next_for s m y).stage Closed ≡ true) (sym (is_trailer k e)) (λ y. refl) x) ∙ h))
    by false e = refl

-- the limits after a line, where its totals are within theirs
pub limited_first : {s : State} {xs : List ℕ} {j : Judged} → Limited s → First s xs j → Bounded j.next.totals → Limited j.next
limited_first k (beyond w) t = k
limited_first k (halted w c n z) t = k
limited_first {s} {xs} k (moved w m c a f) t = same_limited {s = next_for s m (fields_of m (take 50 xs))} refl refl refl refl (limited_next s m (take 50 xs) a f k t)

going_first : {s : State} {xs : List ℕ} {j : Judged} → Going s → First s xs j → Going j.next
going_first g (beyond w) = g
going_first g (halted w c n z) = g
going_first {s} {xs} g (moved w m c a f) =
    let k = within_limited s refl w in
    record {
      limited = λ h. limited_first {xs = xs} k (moved w m c a f) (bounded_facts _ h);
      totals = λ q. ap are_within (totals_stay s m (fields_of m (take 50 xs)) q) ∙ bounded_test s.totals k.totals;
    }

pub going_after : {j : Judged} (s : State) (xs : List ℕ) → j ≡ judged_first s xs → Going s → Going j.next
going_after s xs e g = subst (λ (i : Judged). Going i.next) (sym e) (going_first g (first s xs))
