-- What a field cannot carry is refused: 4 at its column, or another answer further left. Assumes nothing.
use Prim.Native.Nat.{ℕ, ◌+◌, ◌-◌, ◌≤◌, ◌<◌}
use mathlib.Core.Path.{◌≡◌, refl, sym, ap, ap₂, ◌∙◌, subst}
use mathlib.Core.List.{List, [], ◌∷◌, ◌++◌}
use mathlib.Core.Bool.{Bool, true, false}
use native.Mathlib.Omega.{arith}
use borrow.Author.Tests.{eq-eqb, ne_eqb}
use lib.ListN.{length, take, drop}
use lib.Seq.{take_at, take-add, take-take, drop_at, drop-drop}
use lib.Dec.{T, eqb}
use Rattle.machine.specs.Lists.{pick}
use Rattle.machine.proofs.Base.{of_eq, true≢false}
use Rattle.format.specs.Fields.{Field, numeric, filled, optional, free, filler, width, widths, well_formed}
use Rattle.format.specs.Records.{layout}
use Rattle.format.specs.Tests.{Test, Tests}
use Rattle.format.specs.Cutting.{is_open, cut_of}
use Rattle.format.proofs.Link.{line_widths}
use Rattle.field.specs.Rows.{Row, part_at, first_answer, field_answer, rows_at, check_rows, first_or}
use Rattle.record.specs.Kinds.{code_of}
use Rattle.record.specs.Faults.{fault_at, no_fault, first_fault, fields_of, tests_for, maxima_for, fault_of}
use Rattle.record.specs.Faults.{Fault}
use Rattle.reading.specs.State.{within}
use Rattle.reading.specs.Order.{allowed}
use Rattle.reading.specs.Step.{next_for, refused, taken, judged_as, judged_kind, judged_code, judged_line, with_cut, is_done, judged_first, step_at}
use Rattle.reading.specs.declared.State.{State}
use Rattle.reading.specs.Step.{Judged}
use Rattle.writer.specs.Encoding.{Given, Givens, encode_field, encode_fields}
use Rattle.writer.specs.Entries.{kind_of, given_for, line_for}
use Rattle.writer.specs.Writing.{written_by, written_of}
use Rattle.writer.specs.Promises.{is_unfit, unfit_from, unfit_column, RefusedBy, RefusesUnfit}
use Rattle.writer.specs.declared.Entry.{Entry}
use Rattle.std.proofs.Common.{Result, IsErrAnd}
use Rattle.format.specs.declared.Answer.{Answer}
use Rattle.writer.proofs.Pasting.{answer_via}
use Rattle.reading.proofs.Answers.{step_judged}
use Rattle.record.proofs.Coding.{code_found}
use Rattle.writer.proofs.Back.{Sized, AllSized, field_long, field_back, sized, line_52, front_code, front_body}

-- ## Rows

-- what is well formed carries what was given
unfit_no : (f : Field) (ts : List Test) (g : Given f) → Sized f g → is_unfit f g ≡ true → field_answer f ts (encode_field f g) ≡ 4
unfolding field_answer pick
unfit_no f ts g h u = by (well_formed f (encode_field f g)) refl
  where
    by : (q : Bool) → well_formed f (encode_field f g) ≡ q → pick q (first_answer ts) 4 ≡ 4
    by true e = absurd (true≢false (sym u ∙ (field_back f g h (of_eq _ e)).0))
    by false e = refl

some_width : (f : Field) (g : Given f) → Sized f g → 0 < width f
some_width (numeric w) g h = h.0
some_width (filled w) g h = h.0.0
some_width (optional w) g h = h.0.0
some_width (free w) g h = h.0.0
some_width (filler w) g h = h.0

unfit_from_lem : (c : ℕ) (fs : List Field) (g : Givens fs) → (unfit_from c fs g ≡ 0 → ⊥) → c ≤ unfit_from c fs g
unfolding pick
unfit_from_lem c [] g z = absurd (z refl)
unfit_from_lem c (f ∷ fs) g z = by (is_unfit f g.0) (unfit_from_lem (c + width f) fs g.1) z
  where
    by : (q : Bool) → ((unfit_from (c + width f) fs g.1 ≡ 0 → ⊥) → c + width f ≤ unfit_from (c + width f) fs g.1) → (pick q c (unfit_from (c + width f) fs g.1) ≡ 0 → ⊥) → c ≤ pick q c (unfit_from (c + width f) fs g.1)
    by true h z = omega arith
    by false h z = omega (arith, h z)

-- a number and a column that refuse no later than that column
record Stopped (m n c : ℕ) : Type 0 where
  some : n ≡ 0 → ⊥
  no_later : c ≤ m
  there : c ≡ m → n ≡ 4

rows_unfit : (c : ℕ) (fs : List Field) (t : Tests fs) (g : Givens fs) (xs : List ℕ) (k : List Row) → AllSized fs g → 1 ≤ c → take (widths fs) (drop (c - 1) xs) ≡ encode_fields fs g → (unfit_from c fs g ≡ 0 → ⊥)
    → Stopped (unfit_from c fs g) (first_or fault_at (rows_at c fs t xs k) no_fault).number (first_or fault_at (rows_at c fs t xs k) no_fault).column
unfolding first_or pick
rows_unfit c [] t g xs k h p e z = absurd (z refl)
rows_unfit c (f ∷ fs) t g xs k h p e z =
    let w = field_long f g.0 h.0 in
    let d = drop (c - 1) xs in
    let q : (c - 1) + width f ≡ c + width f - 1 = omega arith in
    let a : part_at c (width f) xs ≡ encode_field f g.0 = sym (take-take (width f) (width f + widths fs) d (omega arith)) ∙ ap (take (width f)) e ∙ take_at (encode_field f g.0) (encode_fields fs g.1) (width f) w in
    let b : take (widths fs) (drop (c + width f - 1) xs) ≡ encode_fields fs g.1
    = sym (drop_at (encode_field f g.0) (take (widths fs) (drop (c + width f - 1) xs)) (width f) w)
    ∙ ap (drop (width f)) (sym (take-add (width f) (widths fs) d ∙ ap₂ ◌++◌ a (ap (take (widths fs)) (drop-drop (width f) (c - 1) xs ∙ ap (λ i. drop i xs) q))) ∙ e)
    ∙ drop_at (encode_field f g.0) (encode_fields fs g.1) (width f) w in
    by (is_unfit f g.0) refl (eqb no 0) refl a (rows_unfit (c + width f) fs t.1 g.1 xs k h.1 (omega arith) b) z
  where
    no : ℕ
    no = field_answer f t.0 (part_at c (width f) xs)

    later : ℕ
    later = unfit_from (c + width f) fs g.1

    rest : Fault
    rest = first_or fault_at (rows_at (c + width f) fs t.1 xs k) no_fault

    some_no : eqb no 0 ≡ false → no ≡ 0 → ⊥
    some_no y n = subst T (sym (eq-eqb no 0 n) ∙ y) tt

    four : is_unfit f g.0 ≡ true → part_at c (width f) xs ≡ encode_field f g.0 → no ≡ 4
    four u a = ap (field_answer f t.0) a ∙ unfit_no f t.0 g.0 h.0 u

    by : (u : Bool) → is_unfit f g.0 ≡ u → (v : Bool) → eqb no 0 ≡ v → part_at c (width f) xs ≡ encode_field f g.0 → ((later ≡ 0 → ⊥) → Stopped later rest.number rest.column) → (pick u c later ≡ 0 → ⊥)
        → Stopped (pick u c later) (pick v rest (fault_at c no)).number (pick v rest (fault_at c no)).column
    by true x true y a r z = absurd (subst T (sym y ∙ ne_eqb no 0 (λ n. let k = four x a in omega arith)) tt)
    by true x false y a r z = record { some = some_no y; no_later = omega arith; there = λ i. four x a }
    by false x true y a r z = r z
    by false x false y a r z =
        let l = unfit_from_lem (c + width f) fs g.1 z in
        let n = some_width f g.0 h.0 in
        record { some = some_no y; no_later = omega arith; there = λ i. absurd (omega arith) }

-- ## The line

module _ (s : State) (e : Entry) (t : List ℕ) (h : length t ≡ 35) (z : unfit_column s e t ≡ 0 → ⊥) where
  beyond_code : 6 ≤ unfit_column s e t
  beyond_code = unfit_from_lem 6 (layout (kind_of e)) (given_for s t e) z

  before : (n c : ℕ) → (n ≡ 0 → ⊥) → c ≤ 1 → Stopped (unfit_column s e t) n c
  before n c y l = let b = beyond_code in record { some = y; no_later = omega arith; there = λ i. absurd (omega arith) }

  abbrev line : List ℕ
  line = take 50 (line_for s e t)

  abbrev fault : Fault
  fault = fault_of s.before s.batch (kind_of e) line

  fault_stops : Stopped (unfit_column s e t) fault.number fault.column
  unfolding fault_of first_fault
  fault_stops =
      let x = fields_of (kind_of e) line in
      rows_unfit 6 (layout (kind_of e)) (tests_for s.before s.batch (kind_of e) x) (given_for s t e) line (check_rows (maxima_for s.batch (kind_of e) x)) (sized s t h e) (omega arith)
      (ap (λ n. take n (drop 5 line)) (line_widths (kind_of e)).1 ∙ front_body s e t h) z

  abbrev Stops : Judged → Type 0
  Stops j = Stopped (unfit_column s e t) j.number j.column

  as_stops : Stops (judged_as s (kind_of e) line)
  unfolding judged_as pick
  as_stops = let f = fault_stops in by (eqb fault.number 0) refl f
    where
      by : (q : Bool) → eqb fault.number 0 ≡ q → Stopped (unfit_column s e t) fault.number fault.column → Stops (pick q (taken (kind_of e) (next_for s (kind_of e) (fields_of (kind_of e) line))) (refused s fault.column fault.number))
      by true y f = absurd (subst T (sym y ∙ ne_eqb fault.number 0 f.some) tt)
      by false y f = f

  kind_stops : Stops (judged_kind s (kind_of e) line)
  unfolding judged_kind pick
  kind_stops = by (allowed s (kind_of e)) as_stops
    where
      by : (q : Bool) → Stops (judged_as s (kind_of e) line) → Stops (pick q (judged_as s (kind_of e) line) (refused s 1 3))
      by true f = f
      by false f = before 3 1 (λ i. omega arith) (omega arith)

  line_stops : Stops (judged_line s line)
  unfolding judged_line
  line_stops = subst (λ c. Stops (judged_code s line c)) (sym (ap code_of (front_code s e t h) ∙ code_found (kind_of e))) kind_stops

  cut_stops : Stops (judged_line s line) → Stops (with_cut (cut_of (line_for s e t)) (judged_line s line))
  unfolding with_cut pick
  cut_stops f = rw (ne_eqb (judged_line s line).number 0 f.some) f

  first_stops : Stops (judged_first s (line_for s e t))
  unfolding judged_first pick
  first_stops = by (within s) (is_done s) (is_open s.before.ending (cut_of (line_for s e t)).ending) line_stops
    where
      by : (a b c : Bool) → Stops (judged_line s line) → Stops (pick a (pick b (refused s 0 11) (pick c (with_cut (cut_of (line_for s e t)) (judged_line s line)) (refused s 0 1))) (refused s 0 24))
      by true true c f = before 11 0 (λ i. omega arith) (omega arith)
      by true false true f = cut_stops f
      by true false false f = before 1 0 (λ i. omega arith) (omega arith)
      by false b c f = before 24 0 (λ i. omega arith) (omega arith)

  step_stops : Stopped (unfit_column s e t) (step_at s (line_for s e t)).answer.number (step_at s (line_for s e t)).answer.column
  step_stops = let r = step_judged s (line_for s e t) (omega (arith, line_52 s e t h)) in rw (r.0, r.1) first_stops

  refused_by : (room : ℕ) → IsErrAnd (written_of s e t room) (RefusedBy (unfit_column s e t))
  unfolding written_of pick
  refused_by room =
      let f = step_stops in
      rw (ne_eqb (step_at s (line_for s e t)).answer.number 0 f.some) (record { refused = f.some; no_further = f.no_later; form_there = f.there })

pub unfit_via : {l : List ℕ} {w : Result State Answer} (s : State) (e : Entry) (t : List ℕ) (room : ℕ) → l ≡ line_for s e t → w ≡ written_by room (step_at s l) → length t ≡ 35 → RefusesUnfit s e t w
unfolding RefusesUnfit
unfit_via s e t room p a h = λ z. rw (answer_via s e t p room a) (refused_by s e t h z room)
