-- THE LANGUAGE THEOREM: what the reader accepts is the format's language; a file has one reading; what a refusal tells; what an acceptance counts.
use mathlib.Core.Path.{◌≡◌, refl, sym, ap, ap₂, ◌∙◌, subst}
use mathlib.Core.Logic.{◌↔◌}
use mathlib.Core.List.{List, [], ◌∷◌, ◌++◌}
use mathlib.Core.Option.{some}
use Prim.Native.Nat.{ℕ, suc, ◌-◌}
use native.Mathlib.Omega.{arith}
use lib.ListN.{length, drop, length-append}
use lib.Dec.{T}
use Rattle.machine.proofs.Base.{next, Result, accepted, refused, append_inj}
use Rattle.machine.proofs.Lines.{answer, Acc, stop, line, accepts, accepted_lines, refusal}
use Rattle.format.specs.Language.{Rec, File, Ending, end_bytes, line_of, lines_of, Reads}
use Rattle.format.specs.Cutting.{EndingSoFar, no_ending, cut, turn, first_lines, AreLines}
use Rattle.format.specs.Statements.{InLanguage, Completable, RefusalTells}
use Rattle.format.proofs.Reader.{Phase, start, headed, opened, ordered, paying, paid, owing, owed, closed, done, Context, State, at, begin, ended, is_end, advance, step, Path, end, go}
use Rattle.format.proofs.Link.{not_ended, taken, line_length, line_after, is_line, line_is_taken, line_one}
use Rattle.format.proofs.Cutting.{Open, ending_open, ending_only, all_open, an_ending, is_open_lem, end_one, cut_as, cut_by_lem, cuts}
use Rattle.format.proofs.Sound.{sound}
use Rattle.format.proofs.Complete.{complete}
use Rattle.format.proofs.Live.{Invariant, invariant_kept, live}
use Rattle.format.proofs.One.{one_file}

-- the reader, on the bytes of a file
unfoldable pub read_file : List ℕ → Result
read_file b = answer State step is_end cut turn begin no_ending b

abbrev Takes : State → EndingSoFar → List ℕ → Type 0
Takes = Acc State step is_end cut turn

-- ## A way over records is one over their lines

path→takes : {s : State} {e : EndingSoFar} {rs : List Rec} (z : Ending) → Open e z → Path s rs → Takes s e (lines_of (end_bytes z) rs)
unfolding lines_of
path→takes z i end = stop tt
path→takes {e = e} z i (go {s = s} {rs} k x pl o q) =
    let first = line_of (end_bytes z) (k, x) in
    let others = lines_of (end_bytes z) rs in
    let w = cut_by_lem z first (is_line pl s x o (end_bytes z)) others e i in
    line (advance pl s x) first others (not_ended pl) w.0 (line_is_taken pl s x o (end_bytes z)) (subst (λ y. Takes (advance pl s x) y others) (sym w.1) (path→takes z (ending_open z) q))

-- ## And back

at_end : (p : Phase) (s : Context) → T (ended p) → Path (at p s) []
at_end (start o) s t = absurd t
at_end (headed o) s t = absurd t
at_end (opened g n) s t = absurd t
at_end (ordered g) s t = absurd t
at_end (paying n r) s t = absurd t
at_end (paid c) s t = absurd t
at_end (owing r) s t = absurd t
at_end (owed c r) s t = absurd t
at_end (closed o) s t = absurd t
at_end done s t = end

Way : State → EndingSoFar → List ℕ → Type 0
Way s e b = (z : Ending) × Open e z × ((rs : List Rec) × Path s rs × (b ≡ lines_of (end_bytes z) rs))

way_end : (s : State) (e : EndingSoFar) → T (is_end s) → Way s e []
unfolding Way lines_of
way_end (at p s) e t = (an_ending e, is_open_lem e, ([], at_end p s t, refl))

way_front : (s s' : State) (e : EndingSoFar) (b c r : List ℕ) → cut e b ≡ some (c, r) → step s c ≡ next s' → Way s' (turn e c) r → Way s e b
unfolding Way lines_of
way_front (at p s) s' e b c r h g v =
    let w = cut_as e b c r h in
    let m = taken (end_bytes w.z) p s c s' w.is g in
    let q = subst (λ y. Way s' y r) w.after v in
    let l : r ≡ lines_of (end_bytes w.z) q.2.0 = q.2.2 ∙ ap (λ z. lines_of (end_bytes z) q.2.0) (sym (ending_only w.z q.0 q.1)) in (
      w.z,
      w.still,
      (
        (m.kind, m.fields_of) ∷ q.2.0,
        go m.kind m.fields_of m.place m.ok (subst (λ u. Path u q.2.0) (sym m.after) q.2.1),
        (cuts e).splits b c r h ∙ ap₂ ◌++◌ m.line l,
      ),
    )

takes→path : {s : State} {e : EndingSoFar} {b : List ℕ} → Takes s e b → Way s e b
takes→path {s} {e} (stop t) = way_end s e t
takes→path {s} {e} {b} (line s' c r t h g a) = way_front s s' e b c r h g (takes→path a)

takes→reads : (b : List ℕ) → Takes begin no_ending b → InLanguage b
unfolding Reads Way
takes→reads b a =
    let w = takes→path a in
    let q = w.2 in
    let f = sound q.0 q.1 in
    (f.0, (f.1, (w.0, q.2 ∙ ap (lines_of (end_bytes w.0)) f.2)))

reads→takes : (b : List ℕ) → InLanguage b → Takes begin no_ending b
unfolding Reads
reads→takes b (f, r) = subst (Takes begin no_ending) (sym r.1.1) (path→takes r.1.0 (all_open r.1.0) (complete f r.0))

-- ## ACCEPTED exactly when it is in the language

pub language : (b : List ℕ) → ((n : ℕ) × (read_file b ≡ accepted n)) ↔ InLanguage b
unfolding read_file
language b = let w = accepts State step is_end cut turn cuts begin no_ending b in (λ a. takes→reads b (w.0 a), λ r. w.1 (reads→takes b r))

-- ## ONE READING

paths_one : {s s' : State} {rs rs' : List Rec} → Path s rs → Path s' rs' → (z y : Ending) → lines_of (end_bytes z) rs ≡ lines_of (end_bytes y) rs' → rs ≡ rs'
unfolding lines_of
paths_one end end z y e = refl
paths_one end (go {s = s} k x pl o q) z y e = absurd (omega (arith, simp length-append at (ap length e), simp length-append at (line_length pl s x o (end_bytes y))))
paths_one (go {s = s} k x pl o q) end z y e = absurd (omega (arith, simp length-append at (ap length e), simp length-append at (line_length pl s x o (end_bytes z))))
paths_one (go {s = s} {rs} k x pl o q) (go {s = s'} {rs = rs'} k' x' pl' o' q') z y e =
    let i : z ≡ y = end_one z y (lines_of (end_bytes z) rs) (lines_of (end_bytes y) rs')
    (sym (line_after pl s x o (end_bytes z) (lines_of (end_bytes z) rs)) ∙ ap (drop 50) e ∙ line_after pl' s' x' o' (end_bytes y) (lines_of (end_bytes y) rs')) in
    let f : line_of (end_bytes z) (k, x) ++ lines_of (end_bytes z) rs ≡ line_of (end_bytes z) (k', x') ++ lines_of (end_bytes z) rs' = subst (λ y. line_of (end_bytes z) (k, x) ++ lines_of (end_bytes z) rs ≡ line_of (end_bytes y) (k', x') ++ lines_of (end_bytes y) rs') (sym i) e in
    let l : length (line_of (end_bytes z) (k, x)) ≡ length (line_of (end_bytes z) (k', x')) = line_length pl s x o (end_bytes z) ∙ sym (line_length pl' s' x' o' (end_bytes z)) in
    let w = append_inj (line_of (end_bytes z) (k, x)) (lines_of (end_bytes z) rs) (line_of (end_bytes z) (k', x')) (lines_of (end_bytes z) rs') l f in
    ap₂ {C = List Rec} (λ a b. a ∷ b) (line_one pl s x o pl' s' x' o' (end_bytes z) w.0) (paths_one q q' z z w.1)

pub one_reading : (b : List ℕ) (f g : File) → Reads b f → Reads b g → f ≡ g
unfolding Reads
one_reading b f g r q = one_file f g r.0 q.0 (paths_one (complete f r.0) (complete g q.0) r.1.0 q.1.0 (sym r.1.1 ∙ q.1.1))

-- ## WHAT A REFUSAL TELLS

invariant_step : (s s' : State) (e : EndingSoFar) (b c r : List ℕ) → cut e b ≡ some (c, r) → Invariant s → step s c ≡ next s' → Invariant s'
invariant_step (at p s) s' e b c r h i g =
    let w = cut_as e b c r h in
    let m = taken (end_bytes w.z) p s c s' w.is g in
    subst Invariant m.after (invariant_kept m.place s m.fields_of m.ok i)

live_bytes : (s : State) (e : EndingSoFar) → Invariant s → (q : List ℕ) × Takes s e q
live_bytes s e i = let r = live s i in (lines_of (end_bytes (an_ending e)) r.0, path→takes (an_ending e) (is_open_lem e) r.1)

pub refusals : (b : List ℕ) (number n column : ℕ) → read_file b ≡ refused number n column → RefusalTells b number n
unfolding read_file
refusals b number n column e =
    let r = refusal State step is_end cut turn cuts Invariant invariant_step live_bytes begin no_ending refl b number n column e in
    let j : r.0 ≡ n - 1 = omega (arith, r.1) in
    let i : suc r.0 ≡ n = omega (arith, r.1) in
    record {
      some_line = omega (arith, r.1);
      lines_before = subst (λ m. AreLines m (first_lines m b)) j r.2;
      completable = subst (λ m. Completable (first_lines m b)) j (r.3.0, takes→reads _ r.3.1);
      no_further = λ u v c. r.4 u v (c.0, reads→takes _ (subst (λ m. InLanguage (first_lines m b ++ c.0)) (sym i) c.1));
    }

-- ## AN ACCEPTANCE NAMES THE NUMBER OF LINES

pub lines_read : (b : List ℕ) (n : ℕ) → read_file b ≡ accepted n → AreLines n b
unfolding read_file
lines_read b n e = accepted_lines State step is_end cut turn cuts begin no_ending b n e
