-- The line reader and the whole file over the lines judged. Assumes nothing.
use Rattle.format.specs.Records.{Code}
use Rattle.std.specs.Prelude.{Option, Some, None, Ok, Err, is_some}
use Prim.Native.Nat.{ℕ, zero, suc, ◌+◌, ◌≤◌, ◌<◌}
use mathlib.Core.Path.{◌≡◌, refl, sym, ap, ap₂, ◌∙◌, subst}
use mathlib.Core.List.{List, [], ◌∷◌}
use mathlib.Core.Bool.{Bool, true, false}
use native.Mathlib.Omega.{arith}
use borrow.Author.Tests.{eq-eqb, ne_eqb, eqb-true}
use lib.ListN.{length, take}
use lib.Dec.{T, eqb}
use mir.Val.{Fits}
use mir.Syntax.{w64}
use Rattle.machine.specs.Lists.{pick}
use Rattle.machine.proofs.Base.{true≢false}
use Rattle.format.specs.Cutting.{cut_of, next_line, lines_from, lines_in}
use Rattle.format.specs.Answers.{refusal, acceptance, number_of}
use Rattle.format.specs.declared.Refusal.{Refusal}
use Rattle.format.specs.declared.Refusal.TheVariants.{BrokenLine, UnknownRecord, MisplacedRecord, WrongForm, WrongValue, WrongAccount, Differs, AboveMaximum, WrongTrailer, EndsEarly, AfterTrailer, NoRoom, NoSuchItem, OrdinaryAccount, UntimelyDate, BeyondLimits}
use Rattle.record.specs.declared.Fault as code
use Rattle.field.proofs.Results as Results
use Rattle.reading.specs.declared.Judged as judged
use Rattle.reading.specs.declared.Accepted as accepted
use Rattle.format.specs.contracts.Refusal as which
use denote.Enum.Bare.{sameb}
use Rattle.format.specs.declared.Answer.{Answer}
use Rattle.format.specs.declared.Kind.{Kind}
use Rattle.format.proofs.Cutting.{lines_one}
use Rattle.record.specs.Faults.{fields_of, fault_of}
use Rattle.record.specs.Read.{record_for, text_for, values_of}
use Rattle.record.specs.declared.Record.{Record}
use Rattle.reading.specs.State.{start_state, within}
use Rattle.reading.specs.Step.{refused, judged_first, refusal_line, refusal_after, nothing_read, read_by, ended_at, step_at, number_by, column_by, bytes_by, code_by, judged_read, Last}
use Rattle.reading.specs.Check.{judged_after, judged_lines, answer_by, rest_of, check_of, totals_after, totals_of, read_after, read_of}
use Rattle.reading.specs.declared.State.{State}
use Rattle.reading.specs.Step.{Judged}
use Rattle.reading.specs.declared.LineRead.{LineRead}
use Rattle.reading.specs.declared.FileRead.{FileRead}
use Rattle.record.proofs.Reading.{valued}
use Rattle.reading.proofs.Limits.{within_line}
use Rattle.reading.proofs.Judgements.{first_beyond}
use Rattle.reading.proofs.Running.{first_own}
use Rattle.reading.proofs.Verdicts.{First, beyond, halted, moved, first}

-- ## The lines of a first line's bytes

either_way : (b : Bool) (j : Judged) → pick b j j ≡ j
unfolding pick
either_way true j = refl
either_way false j = refl

one_line : (s : State) (xs : List ℕ) → 0 < length xs → judged_lines s (next_line xs) ≡ judged_first s xs
unfolding judged_lines judged_after pick
one_line s xs h = by (within s) refl
  where
    by : (q : Bool) → within s ≡ q → pick q (judged_after (refused s 0 0) (lines_in (next_line xs))) (refused s 0 24) ≡ judged_first s xs
    by true w =
        let j = judged_first s (next_line xs) in
        ap (judged_after (refused s 0 0)) (lines_one xs h) ∙ either_way (eqb j.number 0) j ∙ first_own s xs
    by false w = first_beyond s xs w refl

pub step_first : (s : State) (xs : List ℕ) → 0 < length xs → step_at s xs ≡ read_by (take 50 xs) (judged_first s xs).code (judged_first s xs)
unfolding step_at
step_first s [] h = absurd (omega arith)
step_first s (x ∷ xs) h = refl

-- the number and the column of a line's answer are those that it is judged
pub step_judged : (s : State) (xs : List ℕ) → 0 < length xs → ((step_at s xs).answer.number ≡ (judged_first s xs).number) × ((step_at s xs).answer.column ≡ (judged_first s xs).column)
step_judged s xs h = rw (step_first s xs h) (by (first s xs))
  where
    by : {j : Judged} → First s xs j → ((read_by (take 50 xs) j.code j).answer.number ≡ j.number) × ((read_by (take 50 xs) j.code j).answer.column ≡ j.column)
    by (beyond w) = (refl, refl)
    by (halted w c n z) = (refl, refl)
    by (moved w k c a f) = (refl, refl)

-- the line that a refusal names
name_small : (n l : ℕ) → ((n ≡ 24 → ⊥) → l ≤ 6999369995) → refusal_line n l ≤ 6999369996
unfolding pick
name_small n l f = by (eqb n 24) refl
  where
    by : (q : Bool) → eqb n 24 ≡ q → pick q 0 (l + 1) ≤ 6999369996
    by true h = omega arith
    by false h = let k = f (λ e. subst T (sym (eq-eqb n 24 e) ∙ h) tt) in omega arith

-- what `==` says of a refusal and 24
is_beyond : {v : Bool} (r : Refusal) → sameb which.the_type r BeyondLimits ≡ v → eqb (number_of r) 24 ≡ v
is_beyond BrokenLine e = e
is_beyond UnknownRecord e = e
is_beyond MisplacedRecord e = e
is_beyond WrongForm e = e
is_beyond WrongValue e = e
is_beyond WrongAccount e = e
is_beyond Differs e = e
is_beyond AboveMaximum e = e
is_beyond WrongTrailer e = e
is_beyond EndsEarly e = e
is_beyond AfterTrailer e = e
is_beyond NoRoom e = e
is_beyond NoSuchItem e = e
is_beyond OrdinaryAccount e = e
is_beyond UntimelyDate e = e
is_beyond BeyondLimits e = e

module _ {b : Bool} (l : ℕ) (f : code.Fault) (e : b ≡ sameb which.the_type f.refusal BeyondLimits) where
  beyond_is : {v : Bool} → b ≡ v → eqb (number_of f.refusal) 24 ≡ v
  beyond_is h = is_beyond f.refusal (sym e ∙ h)

  pub named_fits : refusal_line (number_of f.refusal) l ≤ 6999369996 → b ≡ false → Fits w64 (l + 1)
  unfolding pick
  named_fits h n = let k : l + 1 ≤ 6999369996 = rw (beyond_is n) at h in omega (arith, k)

  pub named_none : {x : Answer} → b ≡ true → x ≡ refusal 24 0 f.column → x ≡ refusal_after l f
  unfolding pick
  named_none n h = rw (beyond_is n) (h ∙ ap (λ m. refusal m 0 f.column) (sym (eqb-true _ 24 (beyond_is n))))

  pub named_next : {x : Answer} {n : ℕ} → b ≡ false → n ≡ number_of f.refusal → x ≡ refusal n (l + 1) f.column → x ≡ refusal_after l f
  unfolding pick
  named_next n i h = rw (beyond_is n) (h ∙ ap (λ m. refusal m (l + 1) f.column) i)

-- what the judging says of a line that is taken, and of one that is refused
code_fault : {s : State} {xs : List ℕ} {j : Judged} → First s xs j → (k : Kind) → j.code ≡ Some k → (fault_of s.before s.batch k (take 50 xs)).number ≡ 0
code_fault (beyond w) k e = absurd (let z : ◌≡◌ {A = ℕ} 0 1 = cc in omega arith)
code_fault (halted w c n z) k e = absurd (let z : ◌≡◌ {A = ℕ} 0 1 = cc in omega arith)
code_fault {s} {xs} (moved w m c a f) k e = let q : m ≡ k = cc in subst (λ i. (fault_of s.before s.batch i (take 50 xs)).number ≡ 0) q f

refused_line : {s : State} {xs : List ℕ} {j : Judged} → First s xs j → j.code ≡ None → (j.number ≡ 24 → ⊥) → j.next.line ≤ 6999369995
refused_line {s} (beyond w) e n = absurd (n refl)
refused_line {s} (halted w c n z) e m = within_line s w
refused_line (moved w k c a f) e n = absurd (let z : ◌≡◌ {A = ℕ} 0 1 = cc in omega arith)

module _ {p : List ℕ} {j : Judged} (s : State) (xs : List ℕ) (some : 0 < length xs) (d : p ≡ next_line xs) (e : j ≡ judged_lines s p) where
  is_first : j ≡ judged_first s xs
  is_first = e ∙ ap (judged_lines s) d ∙ one_line s xs some

  by_first : First s xs j
  by_first = subst (First s xs) (sym is_first) (first s xs)

  pub line_named : {c : Code} → c ≡ j.code → c ≡ None → refusal_line j.number j.next.line ≤ 6999369996
  line_named u q = name_small j.number j.next.line (refused_line by_first (sym u ∙ q))

  step_is : step_at s xs ≡ read_by (take 50 xs) j.code j
  step_is = step_first s xs some ∙ ap (λ (i : Judged). read_by (take 50 xs) i.code i) (sym is_first)

  pub step_refused : {x : LineRead} {n : ℕ} {a : Answer} {c : Code} → c ≡ j.code → c ≡ None → n ≡ refusal_line j.number j.next.line → a ≡ refusal j.number n j.column → x ≡ nothing_read j.next a → x ≡ step_at s xs
  step_refused u q l f k = k ∙ ap (nothing_read j.next) (f ∙ ap (λ m. refusal j.number m j.column) l) ∙ sym (step_is ∙ ap (λ i. read_by (take 50 xs) i j) (sym u ∙ q))

  pub step_taken : {a : Answer} {r : Record} {t l : List ℕ} {c : Code} (k : Kind) → c ≡ j.code → c ≡ Some k → l ≡ take 50 xs → a ≡ acceptance j.next.line → r ≡ record_for k (values_of k l) → t ≡ text_for k (values_of k l)
      → ◌≡◌ {A = LineRead} (record { answer = a; next = j.next; bytes = j.bytes; read = r; text = t }) (step_at s xs)
  step_taken {r = r} {t = t} k u q v n f g =
      let w = ap (values_of k) v ∙ valued s.before s.batch k (take 50 xs) (code_fault by_first k (sym u ∙ q)) in
      let a : r ≡ record_for k (fields_of k (take 50 xs)) = f ∙ ap (record_for k) w in
      let b : t ≡ text_for k (fields_of k (take 50 xs)) = g ∙ ap (text_for k) w in
      (λ i. record { answer = n i; next = j.next; bytes = j.bytes; read = a i; text = b i })
      ∙ sym (step_is ∙ ap (λ i. read_by (take 50 xs) i j) (sym u ∙ q))

-- ### By what `lines` hands out

-- where nothing is refused of a line, it has a code
coded : {s : State} {xs : List ℕ} {j : Judged} → First s xs j → j.number ≡ 0 → j.code ≡ None → ⊥
coded (beyond w) z e = omega arith
coded (halted w c n y) z e = y z
coded (moved w k c a f) z e = let q : ◌≡◌ {A = ℕ} 0 1 = cc in omega arith

-- of no bytes
no_line : (s : State) → judged_lines s [] ≡ pick (within s) (refused s 0 0) (refused s 0 24)
unfolding judged_lines judged_after lines_from
no_line s = refl

no_bytes : next_line [] ≡ []
no_bytes = by (cut_of []).bytes
  where
    by : (n : ℕ) → ◌≡◌ {A = List ℕ} (take n []) []
    by zero = refl
    by (suc n) = refl

pub last_is : {x : Last} {o p : Option accepted.Accepted} → x ≡ Ok o → o ≡ p → x ≡ Ok p
last_is e h = e ∙ ap Ok h

module _ (s : State) (xs : List ℕ) {p : List ℕ} (j : judged.Judged) (d : p ≡ next_line xs) (e : judged_read j ≡ judged_lines s p) where
  of_none : xs ≡ [] → judged_read j ≡ pick (within s) (refused s 0 0) (refused s 0 24)
  of_none h = e ∙ ap (judged_lines s) (d ∙ ap next_line h ∙ no_bytes) ∙ no_line s

  pub last_named : {f : code.Fault} → j.last ≡ Err f → refusal_line (number_of f.refusal) j.next.line ≤ 6999369996
  unfolding pick step_at ended_at
  last_named {f} w = by xs refl
    where
      n : (judged_read j).number ≡ number_of f.refusal
      n = ap number_by w

      c : (judged_read j).code ≡ None
      c = ap code_by w

      by : (ys : List ℕ) → xs ≡ ys → refusal_line (number_of f.refusal) j.next.line ≤ 6999369996
      by [] h = name_small (number_of f.refusal) j.next.line (λ z. absurd (at (within s) (of_none h) z))
        where
          at : (q : Bool) → judged_read j ≡ pick q (refused s 0 0) (refused s 0 24) → (number_of f.refusal ≡ 24 → ⊥) → ⊥
          at true i z = Results.refused f.refusal (sym n ∙ ap (λ (k : Judged). k.number) i)
          at false i z = z (sym n ∙ ap (λ (k : Judged). k.number) i)
      by (y ∷ ys) h = subst (λ m. refusal_line m j.next.line ≤ 6999369996) n (line_named s xs (rw h (omega arith)) d e refl c)

  pub line_refused : {f : code.Fault} {a : Answer} {x : LineRead} → j.last ≡ Err f → a ≡ refusal_after j.next.line f → x ≡ nothing_read j.next a → x ≡ step_at s xs
  unfolding pick step_at ended_at
  line_refused {f} {a} {x} w h k = by xs refl
    where
      named : a ≡ refusal (judged_read j).number (refusal_line (judged_read j).number j.next.line) (judged_read j).column
      named = h ∙ sym (ap (λ l. refusal (number_by l) (refusal_line (number_by l) j.next.line) (column_by l)) w)

      by : (ys : List ℕ) → xs ≡ ys → x ≡ step_at s xs
      by [] i = k ∙ at (within s) refl (of_none i) ∙ ap (step_at s) (sym i)
        where
          at : (q : Bool) → within s ≡ q → judged_read j ≡ pick q (refused s 0 0) (refused s 0 24) → nothing_read j.next a ≡ step_at s []
          at true v u = absurd (Results.refused f.refusal (sym (ap number_by w) ∙ ap (λ (m : Judged). m.number) u))
          at false v u = rw v (ap₂ nothing_read (ap (λ (m : Judged). m.next) u) (named ∙ ap (λ (m : Judged). refusal m.number (refusal_line m.number m.next.line) m.column) u))
      by (y ∷ ys) i = step_refused s xs (rw i (omega arith)) d e refl (ap code_by w) refl named k

  pub line_none : {a : Answer} {x : LineRead} → j.last ≡ Ok None → a ≡ ended_at j.next → x ≡ nothing_read j.next a → x ≡ step_at s xs
  unfolding pick step_at ended_at
  line_none {a} {x} w h k = by xs refl
    where
      by : (ys : List ℕ) → xs ≡ ys → x ≡ step_at s xs
      by [] i = k ∙ at (within s) (of_none i) ∙ ap (step_at s) (sym i)
        where
          at : (q : Bool) → judged_read j ≡ pick q (refused s 0 0) (refused s 0 24) → nothing_read j.next a ≡ step_at s []
          at true u = ap₂ nothing_read (ap (λ (m : Judged). m.next) u) (h ∙ ap (λ (m : Judged). ended_at m.next) u)
          at false u = absurd (let z : ◌≡◌ {A = ℕ} 0 24 = sym (ap number_by w) ∙ ap (λ (m : Judged). m.number) u in omega arith)
      by (y ∷ ys) i = absurd (coded (by_first s xs (rw i (omega arith)) d e) (ap number_by w) (ap code_by w))

  pub line_taken : {l : accepted.Accepted} {a : Answer} {r : Record} {t q : List ℕ} → j.last ≡ Ok (Some l) → q ≡ take 50 xs → a ≡ acceptance j.next.line → r ≡ record_for l.kind (values_of l.kind q) → t ≡ text_for l.kind (values_of l.kind q)
      → ◌≡◌ {A = LineRead} (record { answer = a; next = j.next; bytes = l.bytes; read = r; text = t }) (step_at s xs)
  unfolding pick step_at ended_at
  line_taken {l} {a} {r} {t} w v n f g = by xs refl
    where
      by : (ys : List ℕ) → xs ≡ ys → ◌≡◌ {A = LineRead} (record { answer = a; next = j.next; bytes = l.bytes; read = r; text = t }) (step_at s xs)
      by [] i = absurd (at (within s) (of_none i))
        where
          at : (q : Bool) → judged_read j ≡ pick q (refused s 0 0) (refused s 0 24) → ⊥
          at true u = true≢false (ap is_some (sym (ap code_by w) ∙ ap (λ (m : Judged). m.code) u))
          at false u = let z : ◌≡◌ {A = ℕ} 0 24 = sym (ap number_by w) ∙ ap (λ (m : Judged). m.number) u in omega arith
      by (y ∷ ys) i =
          ap (λ b. record { answer = a; next = j.next; bytes = b; read = r; text = t }) (sym (ap bytes_by w))
          ∙ step_taken s xs (rw i (omega arith)) d e l.kind refl (ap code_by w) v n f g

-- ## The whole file

abbrev Named : Judged → Type 0
Named j = (j.number ≡ 0 → ⊥) → (j.number ≡ 24 → ⊥) → j.next.line ≤ 6999369995

first_named : {s : State} {xs : List ℕ} {j : Judged} → First s xs j → Named j
first_named (beyond w) z n = absurd (n refl)
first_named {s} (halted w c m y) z n = within_line s w
first_named (moved w k c a f) z n = absurd (z refl)

either_named : (q : Bool) (i j : Judged) → Named i → Named j → Named (pick q i j)
unfolding pick
either_named true i j a b = a
either_named false i j a b = b

lines_named : (j : Judged) (lines : List (List ℕ)) → Named j → Named (judged_after j lines)
unfolding judged_after
lines_named j [] p = p
lines_named j (line ∷ lines) p =
    let i = judged_first j.next line in
    let n = first_named (first j.next line) in
    either_named (eqb i.number 0) (judged_after i lines) i (lines_named i lines n) n

module _ {j : Judged} (s : State) (xs : List ℕ) (e : j ≡ judged_lines s xs) where
  is_named : Named j
  unfolding judged_lines
  is_named = subst Named (sym e) (either_named (within s) (judged_after (refused s 0 0) (lines_in xs)) (refused s 0 24) (lines_named (refused s 0 0) (lines_in xs) (λ z n. absurd (z refl))) (λ z n. absurd (n refl)))

  pub rest_named : (j.number ≡ 0 → ⊥) → refusal_line j.number j.next.line ≤ 6999369996
  rest_named z = name_small j.number j.next.line (is_named z)

  -- an answer of it, with the totals of the last state
  abbrev Reads : Answer → Type 0
  Reads a = ◌≡◌ {A = FileRead} (record { answer = a; totals = j.next.totals }) (read_after s xs)

  with_totals : {a : Answer} → a ≡ rest_of s xs → Reads a
  unfolding totals_after
  with_totals h = let t = ap (λ (i : Judged). i.next.totals) e in λ i. record { answer = h i; totals = t i }

  pub rest_stop : {l : ℕ} {a : Answer} → (j.number ≡ 0 → ⊥) → l ≡ refusal_line j.number j.next.line → a ≡ refusal j.number l j.column → Reads a
  unfolding rest_of pick
  rest_stop z h f = with_totals (f ∙ ap (λ n. refusal j.number n j.column) h ∙ sym (ap answer_by (sym e) ∙ rw (ne_eqb _ _ z)))

  pub rest_end : {a : Answer} → j.number ≡ 0 → a ≡ ended_at j.next → Reads a
  unfolding rest_of pick
  rest_end z h = with_totals (h ∙ sym (ap answer_by (sym e) ∙ rw (eq-eqb _ _ z)))

-- by what `lines` hands out
module _ (s : State) (xs : List ℕ) (j : judged.Judged) (e : judged_read j ≡ judged_lines s xs) where
  pub all_named : {f : code.Fault} → j.last ≡ Err f → refusal_line (number_of f.refusal) j.next.line ≤ 6999369996
  all_named {f} w = subst (λ n. refusal_line n j.next.line ≤ 6999369996) (ap number_by w) (rest_named s xs e (λ z. Results.refused f.refusal (sym (ap number_by w) ∙ z)))

  pub all_refused : {f : code.Fault} {a : Answer} → j.last ≡ Err f → a ≡ refusal_after j.next.line f → ◌≡◌ {A = FileRead} (record { answer = a; totals = j.next.totals }) (read_after s xs)
  all_refused {f} w h =
      rest_stop s xs e (λ z. Results.refused f.refusal (sym (ap number_by w) ∙ z)) refl (h ∙ sym (ap (λ l. refusal (number_by l) (refusal_line (number_by l) j.next.line) (column_by l)) w))

  pub all_taken : {l : Option accepted.Accepted} {a : Answer} → j.last ≡ Ok l → a ≡ ended_at j.next → ◌≡◌ {A = FileRead} (record { answer = a; totals = j.next.totals }) (read_after s xs)
  all_taken w h = rest_end s xs e (ap number_by w) h

-- of a state that a call gave as the start
pub checked : {r : FileRead} {s : State} (file : List ℕ) → s ≡ start_state → r ≡ read_after s file → r ≡ read_of file
unfolding check_of totals_of
checked file b e = e ∙ ap (λ u. read_after u file) b
