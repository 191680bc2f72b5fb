-- THE TOTALS OF A RUN: a state of a run goes along the records of every file that begins with the lines read, and its totals are the sums over the batches that these close. Assumes nothing.
use mathlib.Core.Path.{◌≡◌, refl, sym, ap, ◌∙◌, subst}
use mathlib.Core.List.{List, [], ◌∷◌, ◌++◌, append_assoc, append-nil}
use mathlib.Core.Bool.{Bool, true, false}
use mathlib.Core.Option.{none, some}
use Prim.Native.Nat.{ℕ}
use native.Mathlib.Omega.{arith}
use borrow.Author.Tests.{eq-eqb, eqb-true, eqb-false}
use lib.ListN.{length, take, length-append}
use lib.Seq.{take_at, take-take}
use lib.Dec.{eqb, eqb→eq}
use Rattle.machine.specs.Lists.{pick}
use Rattle.machine.specs.Lines.{Split}
use Rattle.machine.proofs.Base.{next}
use Rattle.format.specs.Records.{Fields, code}
use Rattle.format.specs.Language.{Rec, File, file_recs, Valid, Ending, end_bytes, line_of, lines_of, Reads}
use Rattle.format.specs.Cutting.{no_ending, cut_of, next_line, cut}
use Rattle.format.specs.declared.Answer.{Answer}
use Rattle.format.specs.declared.Kind.{Kind}
use Rattle.format.specs.declared.Kind.TheVariants.{FileHeader, BatchHeaderB, BatchHeaderC, FixedDescription, OrderingParty, Transaction, NamePayer, CityPayer, PaymentReference, Description, NameBeneficiary, CityBeneficiary, BatchTrailer, FileTrailer}
use Rattle.format.proofs.Reader.{Phase, Context, at, Place, batch_trailer, advance, step, Ok, Path, end, go}
use Rattle.format.proofs.Link.{line_code, is_line, line_is_taken}
use Rattle.format.proofs.Cutting.{Line, whole_line, next_fifty, all_open, cut_by_lem}
use Rattle.format.proofs.Complete.{complete}
use Rattle.record.specs.Faults.{no_totals, fields_of}
use Rattle.record.specs.Kinds.{is_batch_trailer}
use Rattle.record.specs.declared.Record.{Record}
use Rattle.record.proofs.Coding.{one_kind}
use Rattle.reading.specs.Step.{with_batch, next_for, taken, judged_as, judged_kind, judged_line, judged_first, refusal_by, nothing_read, read_by, step_at}
use Rattle.reading.specs.declared.State.{State}
use Rattle.reading.specs.Step.{Judged}
use Rattle.reading.specs.declared.LineRead.{LineRead}
use Rattle.reading.proofs.Verdicts.{next_line_lem, next_totals, first, refused_next, taken_as, Taken, takes}
use Rattle.file.specs.Reached.{Reached, at_start, one_step}
use Rattle.file.specs.Totals.{closed_by, Sums, SumsAfter}
use Rattle.file.proofs.Places.{context_of, place_of}
use Rattle.file.proofs.Lines.{Agrees, goes, stops, line_agrees}
use Rattle.file.proofs.Run.{step_next}
use Rattle.file.proofs.Totals.{add_for, add_all, add_then, first_sums}

-- ## A step of the reader

pub data Stepped (s : State) (b : List ℕ) : LineRead → Type 0 where
  stayed : (a : Answer) → Stepped s b (nothing_read s a)
  went : (t : Taken s b) (a : Answer) (r : Record) (x : List ℕ) → Stepped s b (record { answer = a; next = (taken_as s t.kind b).next; bytes = (cut_of b).bytes; read = r; text = x })

some_stepped : (s : State) (b : List ℕ) → Stepped s b (read_by (take 50 b) (judged_first s b).code (judged_first s b))
some_stepped s b = by (eqb (judged_first s b).number 0) refl
  where
    by : (q : Bool) → eqb (judged_first s b).number 0 ≡ q → Stepped s b (read_by (take 50 b) (judged_first s b).code (judged_first s b))
    by true e =
        let t = takes s b (eqb-true (judged_first s b).number 0 e) in
        subst (λ (j : Judged). Stepped s b (read_by (take 50 b) j.code j)) (sym t.is) (went t _ _ _)
    by false e =
        let j = judged_first s b in
        let w = refused_next (first s b) (eqb-false j.number 0 e) in
        subst (λ c. Stepped s b (read_by (take 50 b) c j)) (sym w.1) (subst (λ u. Stepped s b (nothing_read u (refusal_by j))) (sym w.0) (stayed _))

pub step_cases : (s : State) (b : List ℕ) → Stepped s b (step_at s b)
unfolding step_at
step_cases s [] = stayed _
step_cases s (x ∷ xs) = some_stepped s (x ∷ xs)

-- ## The first of the records that a reader still goes over

pair_of : Split → List ℕ × List ℕ
pair_of none = ([], [])
pair_of (some w) = w

record Next (p : Phase) (c : Context) (z : Ending) (line rest : List ℕ) (rs : List Rec) : Type 0 where
  kind : Kind
  fields : Fields kind
  place : Place p kind
  ok : Ok place c fields
  others : List Rec
  path : Path (advance place c fields) others
  records : rs ≡ (kind, fields) ∷ others
  is_record : line ≡ line_of (end_bytes z) (kind, fields)
  is_rest : rest ≡ lines_of (end_bytes z) others

-- by a line, whatever end it has by itself
next_of : {p : Phase} {c : Context} {rs : List Rec} → Path (at p c) rs → (y z : Ending) (line rest : List ℕ) → Line (end_bytes y) line → line ++ rest ≡ lines_of (end_bytes z) rs → Next p c z line rest rs
unfolding lines_of pair_of
next_of end y z line rest l e = absurd (omega (arith, ap length e, length-append line rest, l.long))
next_of (go {s = c} {rs = rs} k x pl o q) y z line rest l e =
    let one = line_of (end_bytes z) (k, x) in
    let others = lines_of (end_bytes z) rs in
    let w : ◌≡◌ {A = Split} (some (line, rest)) (some (one, others))
    = sym (cut_by_lem y line l rest no_ending (all_open y)).0 ∙ ap (cut no_ending) e ∙ (cut_by_lem z one (is_line pl c x o (end_bytes z)) others no_ending (all_open z)).0 in
    record {
      kind = k;
      fields = x;
      place = pl;
      ok = o;
      others = rs;
      path = q;
      records = refl;
      is_record = ap (λ o. (pair_of o).0) w;
      is_rest = ap (λ o. (pair_of o).1) w;
    }

-- ## What a record brings to the totals

-- a trailer that is right says what the batch has
says : (s : State) {p : Phase} (k : Kind) (pl : Place p k) (x : Fields k) → Ok pl (context_of s.before s.batch) x → pick (is_batch_trailer k) (with_batch s.totals s.batch) s.totals ≡ add_for s.totals k x
unfolding pick
says s FileHeader pl x o = refl
says s BatchHeaderB pl x o = refl
says s BatchHeaderC pl x o = refl
says s FixedDescription pl x o = refl
says s OrderingParty pl x o = refl
says s Transaction pl x o = refl
says s NamePayer pl x o = refl
says s CityPayer pl x o = refl
says s PaymentReference pl x o = refl
says s Description pl x o = refl
says s NameBeneficiary pl x o = refl
says s CityBeneficiary pl x o = refl
says s BatchTrailer (batch_trailer i) x o =
    let h = o.holds in
    rw (eqb→eq _ s.batch.total h.0.1.0, eqb→eq _ s.batch.items h.1.1.0.1.0)
says s FileTrailer pl x o = refl

-- ## Along a file

pub record Along (f : File) (z : Ending) (rest : List ℕ) (s : State) : Type 0 where
  pub done : List Rec
  pub others : List Rec
  pub records : file_recs f ≡ done ++ others
  pub count : length done ≡ s.line
  pub is_rest : rest ≡ lines_of (end_bytes z) others
  pub path : Path (place_of s) others
  pub totals : s.totals ≡ add_all no_totals done

-- what the code and the reader of the language make of a line
agreed : {s : State} {line : List ℕ} {j : Judged} → Agrees s line j → (k : Kind) (u : State) → j ≡ taken k u → step (place_of s) line ≡ next (place_of u)
agreed (goes m v e d) k u i = e ∙ ap (λ (j : Judged). next (place_of j.next)) i
agreed (stops c n h e) k u i = let z : n ≡ 0 = ap (λ (j : Judged). j.number) i in absurd (omega (arith, h.0))

line_taken : {s : State} {b : List ℕ} (t : Taken s b) → judged_line s (take 50 b) ≡ taken t.kind (next_for s t.kind (fields_of t.kind (take 50 b)))
unfolding judged_line judged_kind judged_as pick
line_taken t = rw (t.coded, t.placed, eq-eqb _ _ t.faultless)

one_along : {f : File} {z : Ending} {rest : List ℕ} {s : State} {b : List ℕ} (t : Taken s b) → Along f z (next_line b ++ rest) s → Along f z rest (taken_as s t.kind b).next
one_along {f} {z} {rest} {s} {b} t a =
    let w = whole_line s.before.ending b t.whole in
    let n = next_of a.path w.z z (next_line b) rest w.is a.is_rest in
    let r : Rec = (n.kind, n.fields) in
    let ctx = context_of s.before s.batch in
    let y = fields_of t.kind (take 50 b) in
    let u = next_for s t.kind y in
    let coded : take 5 (take 50 b) ≡ code n.kind = sym (ap (take 5) (next_fifty b)) ∙ take-take 5 50 (next_line b) (omega arith) ∙ ap (take 5) n.is_record ∙ line_code n.place ctx n.fields n.ok (end_bytes z) in
    let m : t.kind ≡ n.kind = one_kind t.kind n.kind t.coded coded in
    let here : next (place_of u) ≡ next (advance n.place ctx n.fields)
    = sym (agreed (line_agrees s (take 50 b)) t.kind u (line_taken t)) ∙ sym (step_next s b) ∙ ap (step (place_of s)) n.is_record ∙ line_is_taken n.place ctx n.fields n.ok (end_bytes z) in
    let place : place_of u ≡ advance n.place ctx n.fields = cc in
    let added : u.totals ≡ add_for s.totals n.kind n.fields
    = next_totals s t.kind y ∙ ap (λ k. pick (is_batch_trailer k) (with_batch s.totals s.batch) s.totals) m ∙ says s n.kind n.place n.fields n.ok in
    record {
      done = a.done ++ (r ∷ []);
      others = n.others;
      records = a.records ∙ ap (λ rs. a.done ++ rs) n.records ∙ sym (append_assoc a.done (r ∷ []) n.others);
      count = omega (arith, length-append a.done (r ∷ []), a.count, next_line_lem s t.kind y);
      is_rest = n.is_rest;
      path = subst (λ v. Path v n.others) (sym place) n.path;
      totals = added ∙ ap (λ v. add_for v n.kind n.fields) a.totals ∙ sym (add_then no_totals a.done (r ∷ []));
    }

-- the same bytes before, so the same records
along_step : (lines : List ℕ) {s : State} {b : List ℕ} {r : LineRead} → Stepped s b r → (f : File) (z : Ending) (rest : List ℕ) → ((q : List ℕ) → lines ++ q ≡ lines_of (end_bytes z) (file_recs f) → Along f z q s)
    → (lines ++ take r.bytes b) ++ rest ≡ lines_of (end_bytes z) (file_recs f) → Along f z rest r.next
along_step lines (stayed a) f z rest ih e = ih rest (ap (λ l. l ++ rest) (sym (append-nil lines)) ∙ e)
along_step lines {b = b} (went t a r x) f z rest ih e = one_along t (ih (next_line b ++ rest) (sym (append_assoc lines (next_line b) rest) ∙ e))

pub along : {lines : List ℕ} {s : State} → Reached lines s → (f : File) → Valid f → (z : Ending) (rest : List ℕ) → lines ++ rest ≡ lines_of (end_bytes z) (file_recs f) → Along f z rest s
unfolding pick
along at_start f v z rest e = record { done = []; others = file_recs f; records = refl; count = refl; is_rest = e; path = complete f v; totals = refl }
along (one_step {lines} {s} bytes r) f v z rest e = along_step lines (step_cases s bytes) f z rest (λ q h. along r f v z q h) e

-- OF EVERY STATE OF A RUN
pub reached_sums : {lines : List ℕ} {s : State} → Reached lines s → SumsAfter s.line lines s.totals
unfolding Reads
reached_sums {s = s} r f rest q =
    let a = along r f q.0 q.1.0 rest q.1.1 in
    let done : take s.line (file_recs f) ≡ a.done = ap (take s.line) a.records ∙ take_at a.done a.others s.line a.count in
    subst (λ t. Sums t (closed_by s.line f)) (ap (add_all no_totals) done ∙ sym a.totals) (first_sums f s.line)
