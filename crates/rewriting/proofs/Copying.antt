-- Lines that are no city's: counted and copied. Assumes nothing.
use Prim.Native.Nat.{ℕ, ◌+◌, ◌*◌, ◌/◌, ◌≤◌, ◌<◌}
use mathlib.Core.Path.{◌≡◌, refl, sym, ap, ap₂, ◌∙◌}
use mathlib.Core.List.{List, [], ◌∷◌, ◌++◌, append_assoc, append-nil}
use mathlib.Core.Bool.{Bool, true, false, not, cond}
use native.Mathlib.Omega.{arith}
use borrow.Author.Tests.{eq-eqb, ne_eqb, le-leb, lt-leb}
use lib.ListN.{length, take, drop, length-append, take-append-drop}
use Rattle.std.proofs.lemmas.List.Sums.{sum_by-cons}
use Rattle.machine.specs.Lists.{pick, pasted, put_in}
use Rattle.format.specs.Answers.{refusal}
use Rattle.format.specs.Cutting.{next_line, lines_in}
use Rattle.format.specs.declared.Answer.{Answer}
use Rattle.format.proofs.Cutting.{next_fifty, whole_fifty}
use Rattle.field.proofs.Putting.{put_both, put_fitting, put_long, length_pasted, pasted_both}
use Rattle.record.specs.Kinds.{is_city}
use Rattle.reading.specs.Check.{check_of, read_of}
use Rattle.reading.specs.declared.FileRead.{FileRead}
use Rattle.reading.specs.declared.State.{State}
use Rattle.reading.proofs.Runs.{Runs, no_more, line, runs_file}
use Rattle.writer.specs.Encoding.{line_end}
use Rattle.rewriting.specs.Cities.{kept_line, kept_of, kept_count, without_cities}
use Rattle.rewriting.specs.Rewriting.{answered, rewritten_by, room_by, rewritten_of, room_after}
use Rattle.rewriting.specs.declared.Rewritten.{Rewritten}

-- ## A line

pasted_nothing : (room : List ℕ) (at : ℕ) → pasted room at [] ≡ room
unfolding pasted
pasted_nothing room at =
    let e : at + 0 ≡ at = omega arith in
    ap₂ ◌++◌ (append-nil (take at room)) (ap (λ n. drop n room) e) ∙ take-append-drop at room

module _ {q : Bool} (line : List ℕ) (e : q ≡ is_city line) where
  no_line : q ≡ true → kept_line line ≡ []
  unfolding kept_line pick
  no_line h = rw (← e, h)

  pub nothing_after : (at : ℕ) → q ≡ true → at ≡ at + length (kept_line line)
  nothing_after at h = omega (arith, ap length (no_line h))

  pub nothing_put : (out : List ℕ) (at : ℕ) → q ≡ true → out ≡ pasted out at (kept_line line)
  nothing_put out at h = sym (ap (pasted out at) (no_line h) ∙ pasted_nothing out at)

  module _ {text : List ℕ} (h : q ≡ false) (t : text ≡ take 50 (drop 0 line)) where
    some_line : kept_line line ≡ text ++ line_end
    unfolding kept_line pick
    some_line = rw (← e, h) (ap (λ l. l ++ line_end) (sym t))

    pub some_long : length (kept_line line) ≡ length text + 2
    some_long = ap length some_line ∙ length-append text line_end

    pub line_after : {end : ℕ} (at : ℕ) → end ≡ at + length text → end + 2 ≡ at + length (kept_line line)
    line_after at d = omega (arith, some_long)

    pub line_put : {end : ℕ} {p o : List ℕ} (out : List ℕ) (at : ℕ) → at + length (kept_line line) ≤ length out → end ≡ at + length text → p ≡ put_in out at text → o ≡ put_in p end line_end → o ≡ pasted out at (kept_line line)
    line_put {p = p} out at r d f g = put_both out at text line_end (omega (arith, some_long)) f (g ∙ ap (λ n. put_in p n line_end) d) ∙ ap (pasted out at) (sym some_line)

pub ruleset line_puts = (nothing_after, nothing_put, line_after, line_put)

-- ## Copying

-- what is written so far, and with what is left all that is to be written
pub record Copying (file o out : List ℕ) (at : ℕ) (rest : List ℕ) : Type 0 where
  pub done : List ℕ
  pub long : length done ≡ at
  pub is : out ≡ pasted o 0 done
  pub left : done ++ kept_of (lines_in rest) ≡ without_cities file
  pub room : length (without_cities file) ≤ length o

pub copy_none : (file o : List ℕ) → length (without_cities file) ≤ length o → Copying file o o 0 file
unfolding without_cities pasted
copy_none file o h = record { done = []; long = refl; is = refl; left = refl; room = h }

module _ {file o out rest : List ℕ} {at : ℕ} (c : Copying file o out at rest) where
  done_in : at + length (kept_of (lines_in rest)) ≤ length o
  done_in = omega (arith, c.long, c.room, sym (length-append c.done (kept_of (lines_in rest))) ∙ ap length c.left)

  pub copy_kept : length out ≡ length o
  copy_kept = ap length c.is ∙ length_pasted o 0 c.done (omega (arith, c.long, done_in))

  pub copy_all : lines_in rest ≡ [] → out ≡ pasted o 0 (without_cities file)
  unfolding kept_of
  copy_all e = c.is ∙ ap (pasted o 0) (sym (append-nil c.done) ∙ ap (λ l. c.done ++ kept_of l) (sym e) ∙ c.left)

  -- the next line, and the bytes after it
  module _ {p : List ℕ} (after : List ℕ) (e : lines_in rest ≡ p ∷ lines_in after) where
    kept_next : kept_of (lines_in rest) ≡ kept_line p ++ kept_of (lines_in after)
    unfolding kept_of
    kept_next = ap kept_of e

    pub copy_room : at + length (kept_line p) ≤ length out
    copy_room = omega (arith, done_in, copy_kept, ap length kept_next ∙ length-append (kept_line p) (kept_of (lines_in after)))

    pub copy_more : {next : ℕ} {out' : List ℕ} → next ≡ at + length (kept_line p) → out' ≡ pasted out at (kept_line p) → Copying file o out' next after
    copy_more n q =
        let z : 0 + length c.done ≡ at = omega (arith, c.long) in
        record {
          done = c.done ++ kept_line p;
          long = length-append c.done (kept_line p) ∙ ap (λ m. m + length (kept_line p)) c.long ∙ sym n;
          is = q ∙ ap₂ (λ x m. pasted x m (kept_line p)) c.is (sym z) ∙ pasted_both o 0 c.done (kept_line p) (omega (arith, c.long, done_in));
          left = append_assoc c.done (kept_line p) (kept_of (lines_in after)) ∙ ap (λ x. c.done ++ x) (sym kept_next) ∙ c.left;
          room = c.room;
        }

-- ## Of an accepted file each line that is kept has 52 bytes

kept_52 : (xs : List ℕ) → length (take 50 (next_line xs)) ≡ 50 → (q : Bool) → length (pick q [] (take 50 (next_line xs) ++ line_end)) ≡ cond (not q) 1 0 * 52
unfolding pick
kept_52 xs h true = refl
kept_52 xs h false = length-append (take 50 (next_line xs)) line_end ∙ omega (arith, h)

kept_long : {s u : State} {xs : List ℕ} {lines : List (List ℕ)} → Runs s xs lines u → length (kept_of lines) ≡ kept_count lines * 52
unfolding kept_of kept_line
kept_long no_more = refl
kept_long (line {s = s} {x = x} {xs} {lines} t r) =
    let k = kept_52 (x ∷ xs) (ap length (next_fifty (x ∷ xs)) ∙ whole_fifty s.before.ending (x ∷ xs) t.whole) (is_city (next_line (x ∷ xs))) in
    let n = sum_by-cons (λ l. cond (not (is_city l)) 1 0) (next_line (x ∷ xs)) lines in
    length-append (kept_line (next_line (x ∷ xs))) (kept_of lines) ∙ omega (arith, k, kept_long r, n)

pub kept_size : {n : ℕ} (file : List ℕ) → (check_of file).number ≡ 0 → n ≡ kept_count (lines_in file) → n * 52 ≡ length (without_cities file)
unfolding without_cities
kept_size file z e = ap (λ m. m * 52) e ∙ sym (kept_long (runs_file file z))

-- ## The answer

module _ {r : FileRead} (file : List ℕ) (room : ℕ) (e : r ≡ read_of file) where
  pub by_refusal : {w : Rewritten} → (r.answer.number ≡ 0 → ⊥) → w ≡ answered r.answer 0 → w ≡ rewritten_of file room
  unfolding rewritten_of pick
  by_refusal z h = h ∙ sym (ap (λ (x : FileRead). rewritten_by x.answer (length (without_cities file)) room) (sym e) ∙ rw (ne_eqb _ _ z))

  module _ {n : ℕ} (z : r.answer.number ≡ 0) (f : n ≡ kept_count (lines_in file)) where
    size : n * 52 ≡ length (without_cities file)
    size = kept_size file (ap (λ (x : FileRead). x.answer.number) (sym e) ∙ z) f

    pub by_room : {w : Rewritten} {b : Answer} → room / 52 < n → b ≡ refusal 12 r.answer.line 0 → w ≡ answered b 0 → w ≡ rewritten_of file room
    unfolding rewritten_of pick
    by_room l g h =
        let m : room < n * 52 = omega arith in
        h ∙ ap (λ b. answered b 0) g ∙ sym (ap₂ (λ (x : FileRead) m. rewritten_by x.answer m room) (sym e) (sym size) ∙ rw (eq-eqb _ _ z, lt-leb (n * 52) room m))

    pub by_acceptance : {w : Rewritten} → n ≤ room / 52 → w ≡ answered r.answer (n * 52) → w ≡ rewritten_of file room
    unfolding rewritten_of pick
    by_acceptance l h =
        let m : n * 52 ≤ room = omega arith in
        h ∙ sym (ap₂ (λ (x : FileRead) m. rewritten_by x.answer m room) (sym e) (sym size) ∙ rw (eq-eqb _ _ z, le-leb (n * 52) room m))

    pub copy_asked : n ≤ room / 52 → length (without_cities file) ≤ room
    copy_asked l = omega (arith, size)

module _ {r : FileRead} {o : List ℕ} (file out : List ℕ) (e : r ≡ read_of file) where
  pub room_refused : (r.answer.number ≡ 0 → ⊥) → o ≡ out → o ≡ room_after file out
  unfolding room_after pick
  room_refused z h = h ∙ sym (ap (λ (x : FileRead). room_by x.answer (without_cities file) out) (sym e) ∙ rw (ne_eqb _ _ z))

  -- accepted: the bytes, where they fit
  accepted_room : r.answer.number ≡ 0 → o ≡ put_in out 0 (without_cities file) → o ≡ room_after file out
  unfolding room_after pick
  accepted_room z h = h ∙ sym (ap (λ (x : FileRead). room_by x.answer (without_cities file) out) (sym e) ∙ rw (eq-eqb _ _ z))

  pub room_small : {n : ℕ} → r.answer.number ≡ 0 → n ≡ kept_count (lines_in file) → length out / 52 < n → o ≡ out → o ≡ room_after file out
  room_small z f l h = accepted_room z (h ∙ put_long out 0 (without_cities file) (omega arith) (omega (arith, size file (length out) e z f)))

  pub room_filled : {n : ℕ} → r.answer.number ≡ 0 → n ≡ kept_count (lines_in file) → n ≤ length out / 52 → o ≡ pasted out 0 (without_cities file) → o ≡ room_after file out
  room_filled z f l h = accepted_room z (put_fitting out 0 (without_cities file) (omega arith) (omega (arith, size file (length out) e z f)) h)
