-- The state that writes is behind the one that reads: fewer lines, where a city was passed the name still the last read, and an ending that is not 10 alone. What the one takes the other takes with 13, 10. Assumes nothing.
use Rattle.std.specs.Prelude.{Some}
use Rattle.format.specs.declared.LineEnd.TheVariants.{CrLf}
use Prim.Native.Nat.{ℕ, ◌+◌, ◌≤◌}
use mathlib.Core.Path.{◌≡◌, refl, sym, ap, ap₂, ◌∙◌, subst}
use mathlib.Core.List.{List}
use mathlib.Core.Bool.{true, false, not, ◌&&◌, ◌||◌}
use native.Mathlib.Omega.{arith}
use borrow.Author.Tests.{le-leb}
use lib.ListN.{take}
use lib.Seq.{take_all, take-take}
use lib.Dec.{eqb, leb, ltb}
use Rattle.machine.specs.Lists.{same}
use Rattle.machine.proofs.Base.{and_second, true≢false}
use Rattle.format.specs.Records.{Fields, code}
use Rattle.format.specs.Rules.{most_descriptions, same_group, is_unchecked_type}
use Rattle.format.specs.Language.{crlf}
use Rattle.format.specs.Cutting.{is_open, cut_of, next_line, EndingSoFar}
use Rattle.format.specs.declared.Cut.{Cut}
use Rattle.format.specs.declared.Kind.{Kind}
use Rattle.format.specs.declared.Kind.TheVariants.{FileHeader, BatchHeaderB, BatchHeaderC, FixedDescription, OrderingParty, Transaction, NamePayer, CityPayer, PaymentReference, Description, NameBeneficiary, CityBeneficiary, BatchTrailer, FileTrailer}
use Rattle.format.specs.declared.Group.{Group}
use Rattle.format.specs.declared.Group.TheVariants.{Payments, Debits}
use Rattle.format.proofs.Cutting.{next_fifty, line_cut}
use Rattle.format.proofs.Every.{every}
use Rattle.format.proofs.Link.{line_widths}
use Rattle.record.specs.Kinds.{is_city}
use Rattle.record.specs.Faults.{fields_of}
use Rattle.record.specs.Read.{transaction_for}
use Rattle.record.proofs.Coding.{code_is}
use Rattle.reading.specs.State.{is_limited, within}
use Rattle.reading.specs.Order.{is_stage, is_name, may_end, may_pay, may_name, texts_by, may_text, may_refer, may_describe, allowed}
use Rattle.reading.specs.Step.{name_if, after_text, before_ending, with_ending, next_for, judged_first}
use Rattle.reading.specs.declared.Stage.TheVariants.{Item}
use Rattle.reading.specs.declared.Name.{Name}
use Rattle.reading.specs.declared.Name.TheVariants.{Unwanted, Due, Read, Past}
use Rattle.reading.specs.declared.State.{State}
use Rattle.reading.proofs.Limits.{within_line}
use Rattle.rewriting.specs.Promises.{is_city_kind}
use Rattle.reading.proofs.Verdicts.{taken_as, Taken, taken_first}
use Rattle.reading.proofs.Endings.{ended_with, fifty_first, is_ended, taken_ended}

-- ## The two states

pub data NameLike (m n : Name) : Type 0 where
  alike : n ≡ m → NameLike m n
  unread : m ≡ Past → n ≡ Read → NameLike m n

abbrev pub behind : State → ℕ → Name → EndingSoFar → State
behind s l n y =
    record {
      line = l;
      stage = s.stage;
      before = before_ending y s.before;
      batch = s.batch;
      totals = s.totals;
      item = record { name = n; reference = s.item.reference; descriptions = s.item.descriptions };
    }

pub record Behind (s w : State) : Type 0 where
  pub line : ℕ
  pub name : Name
  pub ending : EndingSoFar
  pub is : w ≡ behind s line name ending
  pub small : line ≤ s.line
  pub like : NameLike s.item.name name
  pub still : is_open ending (Some CrLf) ≡ true

pub within_behind : (s : State) (l : ℕ) (n : Name) (y : EndingSoFar) → l ≤ s.line → within s ≡ true → within (behind s l n y) ≡ true
unfolding within is_limited
within_behind s l n y h w =
    let m = within_line s w in
    let k : is_limited s ≡ true = and_second (leb s.line 6999369995) (is_limited s) w in
    ap (λ q. q && is_limited (behind s l n y)) (le-leb l 6999369995 (omega arith)) ∙ k

-- ## What may stand

texts_like : (g : Group) → texts_by g Past ≡ texts_by g Read
unfolding texts_by
texts_like Payments = refl
texts_like Debits = refl

allowed_past : (s : State) (l : ℕ) (y : EndingSoFar) (k : Kind) → is_city_kind k ≡ false → allowed (behind s l Past y) k ≡ allowed (behind s l Read y) k
unfolding allowed may_pay may_end may_name may_refer may_describe may_text is_city same
allowed_past s l y FileHeader c = refl
allowed_past s l y BatchHeaderB c = refl
allowed_past s l y BatchHeaderC c = refl
allowed_past s l y FixedDescription c = refl
allowed_past s l y OrderingParty c = refl
allowed_past s l y Transaction c = refl
allowed_past s l y NamePayer c = refl
allowed_past s l y CityPayer c = absurd (true≢false c)
allowed_past s l y PaymentReference c = ap (λ q. (is_stage s.stage Item && q) && (not s.item.reference && eqb s.item.descriptions 0)) (texts_like s.before.group)
allowed_past s l y Description c = ap (λ q. (is_stage s.stage Item && q) && ltb s.item.descriptions (most_descriptions s.item.reference)) (texts_like s.before.group)
allowed_past s l y NameBeneficiary c = refl
allowed_past s l y CityBeneficiary c = absurd (true≢false c)
allowed_past s l y BatchTrailer c = refl
allowed_past s l y FileTrailer c = refl

allowed_same : (s : State) (l : ℕ) (y : EndingSoFar) (k : Kind) → allowed s k ≡ allowed (behind s l s.item.name y) k
unfolding allowed
allowed_same s l y = every (λ k. allowed s k ≡ allowed (behind s l s.item.name y) k) refl refl refl refl refl refl refl refl refl refl refl refl refl refl

allowed_like : (s : State) (l : ℕ) (n : Name) (y : EndingSoFar) → NameLike s.item.name n → (k : Kind) → is_city_kind k ≡ false → allowed s k ≡ true → allowed (behind s l n y) k ≡ true
allowed_like s l n y (alike e) k c a = ap (λ m. allowed (behind s l m y) k) e ∙ sym (allowed_same s l y k) ∙ a
allowed_like s l n y (unread p q) k c a =
    ap (λ m. allowed (behind s l m y) k) q ∙ sym (allowed_past s l y k c) ∙ ap (λ m. allowed (behind s l m y) k) (sym p) ∙ sym (allowed_same s l y k) ∙ a

-- ## The states after a line

text_like : {m n : Name} → NameLike m n → NameLike (after_text m) (after_text n)
text_like (alike e) = alike (ap after_text e)
text_like (unread p q) = alike (ap after_text q ∙ sym (ap after_text p))

-- after a city
read_name : (m : Name) → is_name m Read ≡ true → m ≡ Read
read_name Unwanted h = absurd (true≢false (sym h))
read_name Due h = absurd (true≢false (sym h))
read_name Read h = refl
read_name Past h = absurd (true≢false (sym h))

still_read : {m n : Name} → NameLike m n → m ≡ Read → n ≡ Read
still_read (alike e) h = e ∙ h
still_read (unread p q) h = q

module _ (s : State) (l : ℕ) (n : Name) (y : EndingSoFar) (h : l ≤ s.line) (e : NameLike s.item.name n) (o : is_open y (Some CrLf) ≡ true) where
  by : (u : State) (m : ℕ) (i : Name) → m ≤ u.line → NameLike u.item.name i → Behind u (behind u m i y)
  by u m i g d = record { line = m; name = i; ending = y; is = refl; small = g; like = d; still = o }

  next_behind : (k : Kind) → is_city_kind k ≡ false → (x : Fields k) → Behind (next_for s k x) (next_for (behind s l n y) k x)
  unfolding is_city same
  next_behind FileHeader c x = by (next_for s FileHeader x) (l + 1) n (omega arith) e
  next_behind BatchHeaderB c x = by (next_for s BatchHeaderB x) (l + 1) Unwanted (omega arith) (alike refl)
  next_behind BatchHeaderC c x = by (next_for s BatchHeaderC x) (l + 1) Unwanted (omega arith) (alike refl)
  next_behind FixedDescription c x = by (next_for s FixedDescription x) (l + 1) n (omega arith) e
  next_behind OrderingParty c x = by (next_for s OrderingParty x) (l + 1) n (omega arith) e
  next_behind Transaction c x = by (next_for s Transaction x) (l + 1) (name_if (is_unchecked_type (transaction_for x).kind)) (omega arith) (alike refl)
  next_behind NamePayer c x = by (next_for s NamePayer x) (l + 1) Read (omega arith) (alike refl)
  next_behind CityPayer c x = absurd (true≢false c)
  next_behind PaymentReference c x = by (next_for s PaymentReference x) (l + 1) (after_text n) (omega arith) (text_like e)
  next_behind Description c x = by (next_for s Description x) (l + 1) (after_text n) (omega arith) (text_like e)
  next_behind NameBeneficiary c x = by (next_for s NameBeneficiary x) (l + 1) Read (omega arith) (alike refl)
  next_behind CityBeneficiary c x = absurd (true≢false c)
  next_behind BatchTrailer c x = by (next_for s BatchTrailer x) (l + 1) Unwanted (omega arith) (alike refl)
  next_behind FileTrailer c x = by (next_for s FileTrailer x) (l + 1) n (omega arith) e

  city_behind : (k : Kind) → is_city_kind k ≡ true → allowed s k ≡ true → (x : Fields k) → Behind (next_for s k x) (behind s l n y)
  unfolding allowed may_name is_city same
  city_behind FileHeader c a x = absurd (true≢false (sym c))
  city_behind BatchHeaderB c a x = absurd (true≢false (sym c))
  city_behind BatchHeaderC c a x = absurd (true≢false (sym c))
  city_behind FixedDescription c a x = absurd (true≢false (sym c))
  city_behind OrderingParty c a x = absurd (true≢false (sym c))
  city_behind Transaction c a x = absurd (true≢false (sym c))
  city_behind NamePayer c a x = absurd (true≢false (sym c))
  city_behind CityPayer c a x =
      let r = read_name s.item.name (and_second (same_group s.before.group Debits) _ (and_second (is_stage s.stage Item) _ a)) in
      by (next_for s CityPayer x) l n (omega arith) (unread refl (still_read e r))
  city_behind PaymentReference c a x = absurd (true≢false (sym c))
  city_behind Description c a x = absurd (true≢false (sym c))
  city_behind NameBeneficiary c a x = absurd (true≢false (sym c))
  city_behind CityBeneficiary c a x =
      let r = read_name s.item.name (and_second (same_group s.before.group Payments) _ (and_second (is_stage s.stage Item) _ a)) in
      by (next_for s CityBeneficiary x) l n (omega arith) (unread refl (still_read e r))
  city_behind BatchTrailer c a x = absurd (true≢false (sym c))
  city_behind FileTrailer c a x = absurd (true≢false (sym c))

-- ## A line taken by both

-- after a line both have an ending, the writer's 13, 10
behind_ended : {s w : State} (y : EndingSoFar) → Behind s w → Behind (with_ending y s) (with_ending (Some CrLf) w)
behind_ended y b = record { line = b.line; name = b.name; ending = Some CrLf; is = ap (with_ending (Some CrLf)) b.is; small = b.small; like = b.like; still = refl }

module _ {s w : State} {xs : List ℕ} (b : Behind s w) (t : Taken s xs) where
  module _ (c : is_city_kind t.kind ≡ false) where
    -- the writer's state but for its ending takes the same line
    alike_taken : Taken (behind s b.line b.name s.before.ending) xs
    alike_taken =
        let u = behind s b.line b.name s.before.ending in
        let l = within_behind s b.line b.name s.before.ending b.small t.limits in
        let a = allowed_like s b.line b.name s.before.ending b.like t.kind c t.placed in
        record {
          limits = l;
          unended = t.unended;
          whole = t.whole;
          kind = t.kind;
          coded = t.coded;
          placed = a;
          faultless = t.faultless;
          is = taken_first u xs l t.unended t.whole t.kind t.coded a t.faultless;
        }

    pub taken_too : judged_first w (ended_with crlf xs) ≡ taken_as w t.kind (ended_with crlf xs)
    unfolding alike_taken
    taken_too =
        subst (λ u. judged_first u (ended_with crlf xs) ≡ taken_as u t.kind (ended_with crlf xs)) (sym b.is)
        (taken_ended s.before.ending (behind s b.line b.name b.ending) alike_taken crlf b.still)

    pub behind_too : Behind (taken_as s t.kind xs).next (taken_as w t.kind (ended_with crlf xs)).next
    behind_too =
        let x = fields_of t.kind (take 50 xs) in
        let n = subst (λ u. Behind (next_for s t.kind x) (next_for u t.kind x)) (sym b.is) (next_behind s b.line b.name b.ending b.small b.like b.still t.kind c x) in
        subst (λ v. Behind (taken_as s t.kind xs).next v)
        (ap₂ (λ e l. with_ending e (next_for w t.kind (fields_of t.kind l))) (ap (λ (k : Cut). k.ending) (sym (line_cut crlf (ended_with crlf xs) (is_ended t crlf)))) (sym (fifty_first t crlf)))
        (behind_ended (cut_of xs).ending n)

  pub behind_city : is_city_kind t.kind ≡ true → Behind (taken_as s t.kind xs).next w
  behind_city c =
      let x = fields_of t.kind (take 50 xs) in
      let n = subst (Behind (next_for s t.kind x)) (sym b.is) (city_behind s b.line b.name b.ending b.small b.like b.still t.kind c t.placed x) in
      record { line = n.line; name = n.name; ending = n.ending; is = n.is; small = n.small; like = n.like; still = n.still }

-- ## The code tells whether a line is a city

pub same_city : (a b : List ℕ) → take 5 a ≡ take 5 b → is_city a ≡ is_city b
unfolding is_city
same_city a b e = ap (λ c. same c (code CityPayer) || same c (code CityBeneficiary)) e

pub coded_city : (line : List ℕ) (k : Kind) → take 5 line ≡ code k → is_city line ≡ is_city_kind k
coded_city line k e = same_city line (code k) (e ∙ sym (take_all 5 (code k) (omega (arith, (line_widths k).0))))

pub city_kind : {s : State} (xs : List ℕ) (t : Taken s xs) → is_city (next_line xs) ≡ is_city_kind t.kind
city_kind xs t = coded_city (next_line xs) t.kind (sym (take-take 5 50 (next_line xs) (omega arith)) ∙ ap (take 5) (next_fifty xs) ∙ code_is (take 5 (take 50 xs)) t.kind t.coded)
