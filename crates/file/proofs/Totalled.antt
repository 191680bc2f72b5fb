-- THE TOTALS OF A WHOLE FILE'S ANSWER: those of the state before the line that is refused, or after the last. Assumes nothing.
use mathlib.Core.Path.{◌≡◌, refl, sym, ap, ◌∙◌, subst}
use mathlib.Core.Logic.{◌≢◌}
use mathlib.Core.List.{List, [], ◌∷◌, ◌++◌, append_assoc, append-nil}
use mathlib.Core.Bool.{Bool, true, false, cond}
use mathlib.Core.Option.{none, some}
use Prim.Native.Nat.{ℕ, suc, ◌+◌, ◌-◌, ◌≤◌, ◌<◌}
use native.Mathlib.Omega.{arith}
use borrow.Author.Tests.{eqb-true, eqb-false}
use lib.ListN.{length, take, take-append-drop, length-append}
use lib.Dec.{eqb}
use Rattle.machine.specs.Lists.{pick}
use Rattle.machine.specs.Lines.{first_of, front}
use Rattle.format.specs.Language.{Rec, File, file_recs, Ending, end_bytes, line_of, lines_of, Reads}
use Rattle.format.specs.Answers.{refusal, acceptance}
use Rattle.format.specs.Cutting.{cut_of, next_line, after_next, cut, turn, first_lines}
use Rattle.format.specs.declared.Answer.{Answer}
use Rattle.format.specs.declared.Cut.{Cut}
use Rattle.format.proofs.Reader.{State as Place, Path, end, go}
use Rattle.format.proofs.Link.{line_length}
use Rattle.format.proofs.Cutting.{cut_own, Lined, no_line, one_line, lined}
use Rattle.record.specs.Faults.{no_totals, fields_of}
use Rattle.format.specs.Rules.{max_file_items, max_file_amount}
use Rattle.reading.specs.State.{start_state, are_within, is_limited, within, Bounded}
use Rattle.reading.specs.Step.{refused, is_done, judged_first, read_by, ended_at, step_at}
use Rattle.reading.specs.Check.{judged_after, judged_lines, answer_by, rest_of, check_of, totals_after, totals_of, read_of}
use Rattle.reading.specs.declared.State.{State}
use Rattle.reading.specs.Step.{Judged}
use Rattle.reading.specs.declared.LineRead.{LineRead}
use Rattle.reading.specs.declared.FileRead.{FileRead}
use Rattle.reading.proofs.Limits.{within_limited}
use Rattle.reading.proofs.Verdicts.{next_line_lem, first, refused_next, taken_as, Taken, takes}
use Rattle.reading.proofs.Running.{first_own, going_on}
use Rattle.reading.proofs.Runs.{judged, ended_file}
use Rattle.reading.proofs.Answers.{step_first}
use Rattle.file.specs.Reached.{Reached, at_start, one_step}
use Rattle.file.specs.Totals.{Sums, SumsAfter, Totalled}
use Rattle.file.proofs.Meaning.{means, never_beyond}
use Rattle.file.proofs.Reached.{reached_within}
use Rattle.file.proofs.Totals.{add_all, whole_sums}
use Rattle.file.proofs.Along.{along, reached_sums}

-- ## The lines that are read: those before the one that is refused, or all

pub record Gone (lines b : List ℕ) (from : State) (j : Judged) : Type 0 where
  pub count : ℕ
  pub line : j.next.line ≡ from.line + count
  pub run : Reached (lines ++ front cut turn from.before.ending count b) j.next
  pub whole : j.number ≡ 0 → front cut turn from.before.ending count b ≡ b

none_gone : {lines : List ℕ} {s : State} {b : List ℕ} (j : Judged) → Reached lines s → j.next ≡ s → (j.number ≡ 0 → [] ≡ b) → Gone lines b s j
unfolding front
none_gone {lines} {s} j r e w =
    record {
      count = 0;
      line = omega (arith, ap (λ (u : State). u.line) e);
      run = subst (Reached (lines ++ [])) (sym e) (subst (λ l. Reached l s) (sym (append-nil lines)) r);
      whole = w;
    }

module _ {s : State} {b : List ℕ} (t : Taken s b) (lines : List ℕ) where
  read_on : 0 < length b → Reached lines s → Reached (lines ++ next_line b) (taken_as s t.kind b).next
  read_on h r =
      let e : step_at s b ≡ read_by (take 50 b) (taken_as s t.kind b).code (taken_as s t.kind b) = step_first s b h ∙ ap (λ (j : Judged). read_by (take 50 b) j.code j) t.is in
      subst (λ (q : LineRead). Reached (lines ++ take q.bytes b) q.next) e (one_step b r)

  first_front : (n : ℕ) → front cut turn s.before.ending (suc n) b ≡ next_line b ++ front cut turn (cut_of b).ending n (after_next b)
  unfolding front
  first_front n =
      let e = s.before.ending in
      ap (λ q. first_of (cond q (some (next_line b, after_next b)) none) b (λ c r. front cut turn (turn e c) n r)) t.whole
      ∙ ap (λ (c : Cut). next_line b ++ front cut turn c.ending n (after_next b)) (cut_own b)

  one_gone : {j : Judged} → Gone (lines ++ next_line b) (after_next b) (taken_as s t.kind b).next j → Gone lines b s j
  one_gone {j} g =
      let n = g.count in
      let rest = front cut turn (cut_of b).ending n (after_next b) in
      record {
        count = suc n;
        line = omega (arith, g.line, next_line_lem s t.kind (fields_of t.kind (take 50 b)));
        run = subst (λ l. Reached l j.next) (append_assoc lines (next_line b) rest ∙ ap (λ l. lines ++ l) (sym (first_front n))) g.run;
        whole = λ z. first_front n ∙ ap (λ l. next_line b ++ l) (g.whole z) ∙ take-append-drop (cut_of b).bytes b;
      }

-- a first line, and those after it
goes : (s : State) (b : List ℕ) (ls : List (List ℕ)) (lines : List ℕ) → 0 < length b → Reached lines s → ((t : Taken s b) → Gone (lines ++ next_line b) (after_next b) (taken_as s t.kind b).next (judged_after (taken_as s t.kind b) ls))
    → (q : Bool) → eqb (judged_first s b).number 0 ≡ q → Gone lines b s (pick q (judged_after (judged_first s b) ls) (judged_first s b))
unfolding pick
goes s b ls lines h r on true e = let t = takes s b (eqb-true (judged_first s b).number 0 e) in subst (λ i. Gone lines b s (judged_after i ls)) (sym t.is) (one_gone t lines (on t))
goes s b ls lines h r on false e = let z = eqb-false (judged_first s b).number 0 e in none_gone (judged_first s b) r (refused_next (first s b) z).0 (λ y. absurd (z y))

gone : (j : Judged) {b : List ℕ} {ls : List (List ℕ)} → Lined b ls → (lines : List ℕ) → Reached lines j.next → Gone lines b j.next (judged_after j ls)
unfolding judged_after
gone j no_line lines r = none_gone j r refl (λ z. refl)
gone j (one_line {x} {xs} {lines = ls} l) lines r =
    let s = j.next in
    let b = x ∷ xs in
    subst (λ i. Gone lines b s (going_on i ls)) (sym (first_own s b))
    (goes s b ls lines (omega arith) r (λ t. gone (taken_as s t.kind b) l (lines ++ next_line b) (read_on t lines (omega arith) r)) (eqb (judged_first s b).number 0) refl)

pub all_gone : (b : List ℕ) → Gone [] b start_state (judged b)
all_gone b = gone (refused start_state 0 0) (lined 0 b) [] at_start

-- ## The line that a refusal names is the one after them

named_line : (j : Judged) → (answer_by j).number ≢ 0 → (answer_by j).number ≢ 24 → (answer_by j).line ≡ j.next.line + 1
unfolding ended_at pick
named_line j = by (eqb j.number 0) (within j.next) (is_done j.next) (eqb j.number 24) refl
  where
    answer : Bool → Bool → Bool → Bool → Answer
    answer a b c d = pick a (pick b (pick c (acceptance j.next.line) (refusal 10 (j.next.line + 1) 0)) (refusal 24 0 0)) (refusal j.number (pick d 0 (j.next.line + 1)) j.column)

    by : (a b c d : Bool) → eqb j.number 24 ≡ d → (answer a b c d).number ≢ 0 → (answer a b c d).number ≢ 24 → (answer a b c d).line ≡ j.next.line + 1
    by true true true d e z n = absurd (z refl)
    by true true false d e z n = refl
    by true false c d e z n = absurd (n refl)
    by false b c true e z n = absurd (n (eqb-true j.number 24 e))
    by false b c false e z n = refl

-- ## Both

no_others : {u : Place} {rs : List Rec} → Path u rs → (z : Ending) → [] ≡ lines_of (end_bytes z) rs → rs ≡ []
unfolding lines_of
no_others end z e = refl
no_others (go {s = c} {rs = rs} k x pl o q) z e =
    absurd (omega (arith, ap length e, length-append (line_of (end_bytes z) (k, x)) (lines_of (end_bytes z) rs), line_length pl c x o (end_bytes z)))

whole_file : (b : List ℕ) {s : State} → Reached b s → (f : File) → Reads b f → Sums s.totals f.batches
unfolding Reads
whole_file b r f q =
    let z = q.1.0 in
    let a = along r f q.0 z [] (append-nil b ∙ q.1.1) in
    let all : file_recs f ≡ a.done = a.records ∙ ap (λ rs. a.done ++ rs) (no_others a.path z a.is_rest) ∙ append-nil a.done in
    subst (λ t. Sums t f.batches) (ap (add_all no_totals) all ∙ sym a.totals) (whole_sums f)

pub totals_are : (b : List ℕ) → (totals_of b ≡ (judged b).next.totals) × (check_of b ≡ answer_by (judged b))
unfolding check_of rest_of totals_of totals_after judged_lines within is_limited are_within pick
totals_are b = (refl, refl)

pub totalled : (b : List ℕ) → Totalled b (check_of b) (totals_of b)
totalled b =
    let g = all_gone b in
    let s = (judged b).next in
    let is = totals_are b in
    record {
      whole = λ f r.
          let z = (ended_file b ((means b).accepted_exactly.1 (f, r))).number in
          subst (λ t. Sums t f.batches) (sym is.0) (whole_file b (subst (λ l. Reached l s) (g.whole z) g.run) f r);
      before_refusal = λ z.
          let n = (check_of b).line - 1 in
          let line : (check_of b).line ≡ s.line + 1 = ap (λ (a : Answer). a.line) is.1
          ∙ named_line (judged b) (λ e. z (ap (λ (a : Answer). a.number) is.1 ∙ e)) (λ e. never_beyond b (ap (λ (a : Answer). a.number) is.1 ∙ e)) in
          let here : s.line ≡ n = omega arith in
          let count : g.count ≡ n = omega (arith, g.line) in
          subst (SumsAfter n (first_lines n b)) (sym is.0) (subst (λ m. SumsAfter n (first_lines m b) s.totals) count (subst (λ m. SumsAfter m (first_lines g.count b) s.totals) here (reached_sums g.run)));
    }

-- no answer comes with larger totals than 02's
pub none_larger : (b : List ℕ) → ((totals_of b).items ≤ max_file_items) × ((totals_of b).amount ≤ max_file_amount)
none_larger b =
    let k : Bounded (totals_of b) = subst Bounded (sym (totals_are b).0) (within_limited (judged b).next refl (reached_within (all_gone b).run)).totals in
    (k.items, k.amount)

-- of what a call gave
pub totals_meant : {r : FileRead} (b : List ℕ) → r ≡ read_of b → Totalled b r.answer r.totals
totals_meant b e = subst (λ (r : FileRead). Totalled b r.answer r.totals) (sym e) (totalled b)
