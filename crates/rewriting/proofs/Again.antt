-- A file without its cities is accepted again, and is what the writer writes. Assumes nothing.
use Rattle.std.specs.Prelude.{Some, None}
use Prim.Native.Nat.{ℕ, ◌*◌, ◌<◌}
use mathlib.Core.Path.{◌≡◌, refl, sym, ap, ap₂, ◌∙◌, subst}
use mathlib.Core.List.{List, [], ◌∷◌, ◌++◌}
use mathlib.Core.Bool.{Bool, true, false, not, ◌&&◌}
use mathlib.Core.Option.{Option, none, some}
use native.Mathlib.Omega.{arith}
use borrow.Author.Tests.{eq-eqb}
use lib.ListN.{length, take, drop}
use lib.Seq.{take_at, take-take}
use Rattle.machine.specs.Lists.{pick, same, pasted}
use Rattle.machine.proofs.Base.{true≢false}
use Rattle.format.specs.Answers.{refusal}
use Rattle.format.specs.declared.Answer.{Answer}
use Rattle.format.specs.Language.{File, Rec, file_recs, is_some, Valid, Ending, crlf, end_bytes, line_of, lines_of, Reads}
use Rattle.format.specs.Cutting.{cut_of, next_line, after_next, lines_from, lines_in, no_ending}
use Rattle.format.specs.Records.{Fields, type, amount, payer, beneficiary}
use Rattle.format.specs.Rules.{type_of, is_type, TypeRead}
use Rattle.format.specs.declared.Kind.{Kind}
use Rattle.format.specs.declared.Kind.TheVariants.{Transaction}
use Rattle.format.proofs.Every.{every}
use Rattle.format.proofs.Cutting.{next_fifty, lines_line}
use Rattle.format.proofs.Reader.{Phase, Context, Place, Ok, Path, end, go}
use Rattle.format.proofs.Reader as the
use Rattle.format.proofs.Link.{line_code, line_again, is_line}
use Rattle.format.proofs.Complete.{complete}
use Rattle.field.proofs.Putting.{pasted_front}
use Rattle.record.specs.Faults.{fields_of, fault_of}
use Rattle.record.specs.Read.{transaction_record, record_for, text_for}
use Rattle.record.specs.declared.Before.{Before}
use Rattle.record.specs.declared.Batch.{Batch}
use Rattle.record.proofs.ItemFaults.{type_known}
use Rattle.reading.specs.State.{start_state, are_within, is_limited, within}
use Rattle.reading.specs.Step.{refused, is_done, step_at}
use Rattle.reading.specs.Check.{judged_after, judged_lines, check_of, read_of, rest_of}
use Rattle.reading.specs.declared.Name.TheVariants.{Unwanted}
use Rattle.reading.specs.declared.State.{State}
use Rattle.reading.specs.Step.{Judged}
use Rattle.reading.specs.declared.LineRead.{LineRead}
use Rattle.reading.specs.declared.FileRead.{FileRead}
use Rattle.reading.proofs.Running.{going_on}
use Rattle.reading.proofs.Runs.{next_by, Runs, no_more, line, Ended, ended_zero, judged, ended_file, runs_file}
use Rattle.reading.proofs.Endings.{ended_with, fifty_first, is_ended}
use Rattle.reading.proofs.Verdicts.{taken_as, Taken}
use Rattle.writer.specs.Encoding.{line_end}
use Rattle.writer.specs.Entries.{line_for}
use Rattle.writer.specs.Writing.{written_of}
use Rattle.writer.specs.Promises.{entry_of}
use Rattle.writer.specs.declared.Entry.{Entry}
use Rattle.std.proofs.Common.{Ok as accepts}
use Rattle.writer.proofs.Accepting.{read_as, read_taken}
use Rattle.writer.proofs.Again.{written_again}
use Rattle.file.proofs.Meaning.{means}
use Rattle.record.specs.Kinds.{is_city}
use Rattle.rewriting.specs.Cities.{kept_line, kept_of, kept_count, without_cities}
use Rattle.rewriting.specs.Promises.{no_city, is_city_kind, kept_recs, Rewrites, ended, city, written, Again, Promised}
use Rattle.rewriting.specs.declared.Rewritten.{Rewritten}
use Rattle.rewriting.proofs.Copying.{kept_size}
use Rattle.rewriting.proofs.Behind.{Behind, alike, within_behind, taken_too, behind_too, behind_city, same_city, coded_city, city_kind}

-- ## The records of a file, its lines ended by 13, 10

module _ {p : Phase} {k : Kind} (pl : Place p k) (s : Context) (x : Fields k) (o : Ok pl s x) (z : List ℕ) where
  rec_city : is_city (line_of z (k, x)) ≡ is_city_kind k
  rec_city = coded_city (line_of z (k, x)) k (line_code pl s x o z)

  rec_line : kept_line (line_of z (k, x)) ≡ pick (is_city_kind k) [] (line_of line_end (k, x))
  unfolding kept_line
  rec_line = ap₂ (λ q l. pick q [] l) rec_city (line_again pl s x o z line_end)

  rec_kept : (rs : List Rec) → kept_line (line_of z (k, x)) ++ lines_of line_end (kept_recs rs) ≡ lines_of line_end (kept_recs ((k, x) ∷ rs))
  unfolding kept_recs lines_of pick
  rec_kept rs = ap (λ l. l ++ lines_of line_end (kept_recs rs)) rec_line ∙ by (is_city_kind k)
    where
      by : (q : Bool) → pick q [] (line_of line_end (k, x)) ++ lines_of line_end (kept_recs rs) ≡ lines_of line_end (pick q (kept_recs rs) ((k, x) ∷ kept_recs rs))
      by true = refl
      by false = refl

  rec_none : (lines : List (List ℕ)) (rs : List Rec) → no_city (line_of z (k, x) ∷ lines) ≡ true → (no_city lines ≡ true → kept_recs rs ≡ rs) → kept_recs ((k, x) ∷ rs) ≡ (k, x) ∷ rs
  unfolding no_city kept_recs pick
  rec_none lines rs n f = by (is_city_kind k) (ap (λ q. not q && no_city lines) (sym rec_city) ∙ n)
    where
      by : (q : Bool) → (not q && no_city lines) ≡ true → pick q (kept_recs rs) ((k, x) ∷ kept_recs rs) ≡ (k, x) ∷ rs
      by true n = absurd (true≢false (sym n))
      by false n = ap (λ r. (k, x) ∷ r) (f n)

path_kept : {s : the.State} {rs : List Rec} → Path s rs → (z : Ending) → kept_of (lines_in (lines_of (end_bytes z) rs)) ≡ lines_of line_end (kept_recs rs)
unfolding kept_of kept_recs lines_of lines_from
path_kept end z = refl
path_kept (go {s = s} {rs} k x pl o q) z =
    ap kept_of (lines_line z (line_of (end_bytes z) (k, x)) (lines_of (end_bytes z) rs) (is_line pl s x o (end_bytes z)))
    ∙ ap (λ r. kept_line (line_of (end_bytes z) (k, x)) ++ r) (path_kept q z) ∙ rec_kept pl s x o (end_bytes z) rs

path_none : {s : the.State} {rs : List Rec} → Path s rs → (z : Ending) → no_city (lines_in (lines_of (end_bytes z) rs)) ≡ true → kept_recs rs ≡ rs
unfolding kept_recs lines_of
path_none end z n = refl
path_none (go {s = s} {rs} k x pl o q) z n =
    let l = lines_line z (line_of (end_bytes z) (k, x)) (lines_of (end_bytes z) rs) (is_line pl s x o (end_bytes z)) in
    rec_none pl s x o (end_bytes z) (lines_in (lines_of (end_bytes z) rs)) rs (sym (ap no_city l) ∙ n) (λ m. path_none q z m)

pub only_ends : (file : List ℕ) (f : File) → Reads file f → without_cities file ≡ lines_of (end_bytes crlf) (kept_recs (file_recs f))
unfolding Reads without_cities
only_ends file f r = ap (λ b. kept_of (lines_in b)) r.1.1 ∙ path_kept (complete f r.0) r.1.0

pub same_file : (file : List ℕ) (f : File) → Valid f → file ≡ lines_of (end_bytes crlf) (file_recs f) → no_city (lines_in file) ≡ true → without_cities file ≡ file
unfolding Reads
same_file file f v e n =
    only_ends file f (v, (crlf, e))
    ∙ ap (lines_of (end_bytes crlf)) (path_none (complete f v) crlf (sym (ap (λ b. no_city (lines_in b)) e) ∙ n))
    ∙ sym e

-- ## Accepted again

-- a line and the same characters with 13, 10 have one code
ended_city : {s : State} (xs : List ℕ) (t : Taken s xs) → is_city (ended_with crlf xs) ≡ is_city (next_line xs)
ended_city xs t =
    let e = fifty_first t crlf ∙ sym (next_fifty xs) in
    same_city (ended_with crlf xs) (next_line xs) (sym (take-take 5 50 (ended_with crlf xs) (omega arith)) ∙ ap (take 5) e ∙ take-take 5 50 (next_line xs) (omega arith))

record Follows (s : State) (i : Judged) : Type 0 where
  pub number : i.number ≡ 0
  pub next : Behind s i.next

module _ {s : State} {xs : List ℕ} (t : Taken s xs) (i : Judged) (p : Follows s i) (rest : List ℕ) (u : State) (f : (v : Judged) → Follows (next_by s t.kind xs) v → Follows u (judged_after v (lines_in rest))) where
  line_on : (q : Bool) → is_city (next_line xs) ≡ q → Follows u (judged_after i (lines_in (pick q [] (take 50 (next_line xs) ++ line_end) ++ rest)))
  unfolding judged_after pick
  line_on true e = f i (record { number = p.number; next = behind_city p.next t (sym (city_kind xs t) ∙ e) })
  line_on false e =
      let c = sym (city_kind xs t) ∙ e in
      let l = ended_with crlf xs in
      subst (λ lines. Follows u (judged_after i lines)) (sym (ap (λ m. lines_in ((m ++ line_end) ++ rest)) (next_fifty xs) ∙ lines_line crlf l rest (is_ended t crlf)))
      (subst (λ (v : Judged). Follows u (going_on v (lines_in rest))) (sym (taken_too p.next t c))
      (f (taken_as i.next t.kind l) (record { number = refl; next = behind_too p.next t c })))

follows : {s u : State} {xs : List ℕ} {lines : List (List ℕ)} → Runs s xs lines u → (i : Judged) → Follows s i → Follows u (judged_after i (lines_in (kept_of lines)))
unfolding judged_after lines_from kept_of kept_line
follows no_more i p = p
follows {u = u} (line {x = x} {xs} {lines} t r) i p = line_on t i p (kept_of lines) u (λ v q. follows r v q) (is_city (next_line (x ∷ xs))) refl

-- ## The end

start_behind : Behind start_state start_state
start_behind = record { line = 0; name = Unwanted; ending = no_ending; is = refl; small = omega arith; like = alike refl; still = refl }

ended_behind : (j i : Judged) → Ended j → Follows j.next i → Ended i
ended_behind j i e p =
    let b = p.next in
    record {
      number = p.number;
      limits = subst (λ u. within u ≡ true) (sym b.is) (within_behind j.next b.line b.name b.ending b.small e.limits);
      done = subst (λ u. is_done u ≡ true) (sym b.is) e.done;
    }

pub accepted_again : (file : List ℕ) → (check_of file).number ≡ 0 → (check_of (without_cities file)).number ≡ 0
unfolding check_of rest_of judged_lines within is_limited are_within pick without_cities
accepted_again file z =
    let p = follows (runs_file file z) (refused start_state 0 0) (record { number = refl; next = start_behind }) in
    ended_zero (judged (kept_of (lines_in file))) (ended_behind (judged file) (judged (kept_of (lines_in file))) (ended_file file z) p)

-- ## No city is left

none_line : {s : State} {xs : List ℕ} (rest : List ℕ) → Taken s xs → (q : Bool) → is_city (next_line xs) ≡ q → no_city (lines_in rest) ≡ true → no_city (lines_in (pick q [] (take 50 (next_line xs) ++ line_end) ++ rest)) ≡ true
unfolding no_city pick
none_line rest t true e r = r
none_line {xs = xs} rest t false e r =
    ap (λ m. no_city (lines_in ((m ++ line_end) ++ rest))) (next_fifty xs) ∙ ap no_city (lines_line crlf (ended_with crlf xs) rest (is_ended t crlf)) ∙ ap₂ (λ p q. not p && q) (ended_city xs t ∙ e) r

none_left : {s u : State} {xs : List ℕ} {lines : List (List ℕ)} → Runs s xs lines u → no_city (lines_in (kept_of lines)) ≡ true
unfolding kept_of kept_line lines_from no_city
none_left no_more = refl
none_left (line {x = x} {xs} {lines} t r) = none_line (kept_of lines) t (is_city (next_line (x ∷ xs))) refl (none_left r)

pub without_cities_lem : (file : List ℕ) → (check_of file).number ≡ 0 → no_city (lines_in (without_cities file)) ≡ true
unfolding without_cities
without_cities_lem file z = none_left (runs_file file z)

-- ## What the writer writes

the_entry : (o : Option Entry) → is_some o ≡ true → (e : Entry) × (o ≡ some e)
the_entry none h = absurd (true≢false (sym h))
the_entry (some e) h = (e, refl)

no_entry : (o : Option Entry) → is_some o ≡ false → o ≡ none
no_entry none h = refl
no_entry (some e) h = absurd (true≢false h)

item_entry : (t : TypeRead) (n p b : ℕ) → is_type t ≡ true → is_some (entry_of (transaction_record t n p b)) ≡ true
item_entry (Some y) n p b h = refl
item_entry None n p b h = absurd (true≢false (sym h))

has_entry : (p : Before) (b : Batch) (k : Kind) (l : List ℕ) → (fault_of p b k l).number ≡ 0 → is_some (entry_of (record_for k (fields_of k l))) ≡ not (is_city_kind k)
unfolding is_city same
has_entry p b k l f =
    every (λ k. (fault_of p b k l).number ≡ 0 → is_some (entry_of (record_for k (fields_of k l))) ≡ not (is_city_kind k)) (λ f. refl) (λ f. refl) (λ f. refl) (λ f. refl) (λ f. refl)
    (λ f. let x = fields_of Transaction l in item_entry (type_of (type x)) (amount x) (payer x) (beneficiary x) (type_known p b l f)) (λ f. refl) (λ f. refl) (λ f. refl) (λ f. refl) (λ f. refl) (λ f. refl) (λ f. refl) (λ f. refl) k f

abbrev read_line : State → (k : Kind) → List ℕ → LineRead
read_line s k xs = read_as s (cut_of xs) k (fields_of k (take 50 xs))

wrote : (w : State) (e : Entry) (t : List ℕ) (r : LineRead) → step_at w (line_for w e t) ≡ r → r.answer.number ≡ 0 → written_of w e t 52 ≡ accepts r.next
unfolding written_of pick
wrote w e t r h z = rw (h, eq-eqb r.answer.number 0 z)

module _ {s : State} {x : ℕ} {xs : List ℕ} (tk : Taken s (x ∷ xs)) (w : State) (b : Behind s w) (rest : List ℕ) (f : (u : State) → Behind (next_by s tk.kind (x ∷ xs)) u → Rewrites (next_by s tk.kind (x ∷ xs)) u (after_next (x ∷ xs)) rest) where
  read_s : step_at s (x ∷ xs) ≡ read_line s tk.kind (x ∷ xs)
  read_s = read_taken s (x ∷ xs) tk.kind (omega arith) tk.is

  after : (u : State) → Behind (next_by s tk.kind (x ∷ xs)) u → Rewrites (step_at s (x ∷ xs)).next u (after_next (x ∷ xs)) rest
  after u c = subst (λ (r : LineRead). Rewrites r.next u (after_next (x ∷ xs)) rest) (sym read_s) (f u c)

  module _ (c : is_city_kind tk.kind ≡ false) where
    abbrev again : List ℕ
    again = ended_with crlf (x ∷ xs)

    not_empty : 0 < length again
    not_empty = omega (arith, (is_ended tk crlf).long)

    read_w : step_at w again ≡ read_line w tk.kind again
    read_w = read_taken w again tk.kind not_empty (taken_too b tk c)

    same_fields : fields_of tk.kind (take 50 again) ≡ fields_of tk.kind (take 50 (x ∷ xs))
    same_fields = ap (fields_of tk.kind) (fifty_first tk crlf)

    entry : (e : Entry) × (entry_of (record_for tk.kind (fields_of tk.kind (take 50 (x ∷ xs)))) ≡ some e)
    entry = the_entry (entry_of (record_for tk.kind (fields_of tk.kind (take 50 (x ∷ xs))))) (has_entry s.before s.batch tk.kind (take 50 (x ∷ xs)) tk.faultless ∙ ap not c)

    line_is : again ≡ line_for w entry.0 (step_at s (x ∷ xs)).text
    line_is =
        ap (λ l. l ++ line_end) (sym (fifty_first tk crlf))
        ∙ written_again w again not_empty (ap (λ (r : LineRead). r.answer.number) read_w) entry.0 (ap (λ (r : LineRead). entry_of r.read) read_w ∙ ap (λ y. entry_of (record_for tk.kind y)) same_fields ∙ entry.1)
        ∙ ap (line_for w entry.0) (ap (λ (r : LineRead). r.text) read_w ∙ ap (text_for tk.kind) same_fields ∙ sym (ap (λ (r : LineRead). r.text) read_s))

    writer_is : written_of w entry.0 (step_at s (x ∷ xs)).text 52 ≡ accepts (read_line w tk.kind again).next
    writer_is = wrote w entry.0 (step_at s (x ∷ xs)).text (read_line w tk.kind again) (ap (step_at w) (sym line_is) ∙ read_w) refl

    kept_written : Rewrites s w (x ∷ xs) (again ++ rest)
    kept_written =
        subst (λ l. Rewrites s w (x ∷ xs) (l ++ rest)) (sym line_is)
        (written entry.0 (ap (λ (r : LineRead). r.answer.number) read_s) (ap (λ (r : LineRead). entry_of r.read) read_s ∙ entry.1) writer_is
        (after (next_by w tk.kind again) (behind_too b tk c)))

  line_written : (q : Bool) → is_city (next_line (x ∷ xs)) ≡ q → Rewrites s w (x ∷ xs) (pick q [] (take 50 (next_line (x ∷ xs)) ++ line_end) ++ rest)
  unfolding pick
  line_written true e =
      let c = sym (city_kind (x ∷ xs) tk) ∙ e in
      let o = no_entry (entry_of (record_for tk.kind (fields_of tk.kind (take 50 (x ∷ xs))))) (has_entry s.before s.batch tk.kind (take 50 (x ∷ xs)) tk.faultless ∙ ap not c) in
      city (ap (λ (r : LineRead). r.answer.number) read_s) (ap (λ (r : LineRead). entry_of r.read) read_s ∙ o) (after w (behind_city b tk c))
  line_written false e = subst (λ m. Rewrites s w (x ∷ xs) ((m ++ line_end) ++ rest)) (sym (next_fifty (x ∷ xs))) (kept_written (sym (city_kind (x ∷ xs) tk) ∙ e))

rewrites : {s u : State} {xs : List ℕ} {lines : List (List ℕ)} → Runs s xs lines u → (w : State) → Behind s w → Rewrites s w xs (kept_of lines)
unfolding kept_of kept_line
rewrites {s} no_more w b = ended s w
rewrites (line {x = x} {xs} {lines} t r) w b = line_written t w b (kept_of lines) (λ v c. rewrites r v c) (is_city (next_line (x ∷ xs))) refl

pub by_writer : (file : List ℕ) → (check_of file).number ≡ 0 → Rewrites start_state start_state file (without_cities file)
unfolding without_cities
by_writer file z = rewrites (runs_file file z) start_state start_behind

-- ## Of the function's own result

all_again : (file : List ℕ) → (check_of file).number ≡ 0 → Again file (without_cities file)
all_again file z =
    record {
      same_file = same_file file;
      only_ends = only_ends file;
      accepted_again = accepted_again file z;
      in_language = (means (without_cities file)).accepted_exactly.0 (accepted_again file z);
      without_cities = without_cities_lem file z;
      by_writer = by_writer file z;
    }

module _ {r : FileRead} (file o : List ℕ) (w : Rewritten) (e : r ≡ read_of file) where
  pub promise_none : (r.answer.number ≡ 0 → ⊥) → w.answer ≡ r.answer → Promised file w o
  unfolding Promised
  promise_none z h = λ q. absurd (z (ap (λ (y : Answer). y.number) (sym h) ∙ q))

  pub promise_met : {m : ℕ} (out : List ℕ) → r.answer.number ≡ 0 → m ≡ kept_count (lines_in file) → w.written ≡ m * 52 → o ≡ pasted out 0 (without_cities file) → Promised file w o
  unfolding Promised
  promise_met out z k i h = λ q.
      let n : w.written ≡ length (without_cities file) = i ∙ kept_size file (ap (λ (x : FileRead). x.answer.number) (sym e) ∙ z) k in
      let b : take w.written o ≡ without_cities file = ap₂ take n (h ∙ pasted_front out (without_cities file)) ∙ take_at (without_cities file) (drop (length (without_cities file)) out) (length (without_cities file)) refl in
      subst (Again file) (sym b) (all_again file (ap (λ (x : FileRead). x.answer.number) (sym e) ∙ z))

pub promise_small : {line : ℕ} (file o : List ℕ) (w : Rewritten) → w.answer ≡ refusal 12 line 0 → Promised file w o
unfolding Promised
promise_small file o w h = λ q. absurd (let z : ◌≡◌ {A = ℕ} 12 0 = ap (λ (y : Answer). y.number) (sym h) ∙ q in omega arith)
