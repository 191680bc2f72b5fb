-- The writer's promises, from its answer and the room after it. Assumes nothing.
use Rattle.std.specs.Prelude.{Some}
use Rattle.format.specs.declared.LineEnd.TheVariants.{CrLf}
use Prim.Native.Nat.{ℕ, ◌<◌}
use mathlib.Core.Path.{◌≡◌, refl, sym, ap, ap₂, ◌∙◌}
use mathlib.Core.List.{List, [], ◌∷◌, ◌++◌}
use mathlib.Core.Bool.{Bool, true, false}
use mathlib.Core.Option.{some}
use native.Mathlib.Omega.{arith}
use borrow.Author.Tests.{eq-eqb, eqb-true, le-leb}
use lib.ListN.{length, take, drop}
use Rattle.std.proofs.Common.{Result, Ok, Err}
use Rattle.format.specs.declared.Answer.{Answer}
use lib.Seq.{take_at}
use lib.Dec.{eqb, leb}
use Rattle.machine.specs.Lists.{pick}
use Rattle.machine.proofs.Base.{none≢some}
use Rattle.format.specs.Answers.{refusal, acceptance}
use Rattle.format.specs.Language.{crlf}
use Rattle.format.specs.Cutting.{is_open, cut_of, next_line, EndingSoFar}
use Rattle.format.proofs.Cutting.{line_cut, whole_is}
use Rattle.record.specs.Faults.{fields_of}
use Rattle.reading.specs.Step.{with_ending, step_at}
use Rattle.reading.specs.declared.State.{State}
use Rattle.reading.specs.declared.LineRead.{LineRead}
use Rattle.writer.specs.Entries.{line_for}
use Rattle.writer.specs.Writing.{answer_of, written_by, room_by, written_of, room_of}
use Rattle.writer.specs.Promises.{record_of, entry_of, ReadsBack, WritesAgain}
use Rattle.writer.specs.declared.Entry.{Entry}
use Rattle.writer.specs.declared.Entry.TheVariants.{FileHeader, BatchHeader, FixedDescription, OrderingParty, Transaction, NamePayer, PaymentReference, Description, NameBeneficiary, BatchTrailer, FileTrailer}
use Rattle.writer.proofs.Pasting.{answer_via, room_via}
use Rattle.reading.proofs.Answers.{step_judged}
use Rattle.reading.proofs.Verdicts.{Taken, takes}
use Rattle.reading.proofs.Endings.{next_ended, ended_with, fifty_first, is_ended, taken_ended}
use Rattle.writer.proofs.Accepting.{read_as, read_taken, accepts, step_on}
use Rattle.writer.proofs.Back.{line_52, read_line, read_back}
use Rattle.writer.proofs.Again.{written_again}

-- ## Accepted, with room

-- an acceptance is the reader's, and there was room
module _ (r : LineRead) (room : ℕ) where
  sorted : {next : State} → written_by room r ≡ Ok next → (eqb r.answer.number 0 ≡ true) × ((leb 52 room ≡ true) × (r.next ≡ next))
  unfolding pick
  sorted {next} = by (eqb r.answer.number 0) (leb 52 room)
    where
      by : (a b : Bool) → pick a (pick b (Ok r.next) (Err (refusal 12 r.answer.line 0))) (Err r.answer) ≡ Ok next → (a ≡ true) × ((b ≡ true) × (r.next ≡ next))
      by true true q = (refl, (refl, cc))
      by true false q = absurd cc
      by false b q = absurd cc

  taken : eqb r.answer.number 0 ≡ true → leb 52 room ≡ true → written_by room r ≡ Ok r.next
  unfolding pick
  taken a b = rw (a, b)

filled : (r : LineRead) (line out : List ℕ) → eqb r.answer.number 0 ≡ true → leb 52 (length out) ≡ true → room_by r line out ≡ line ++ drop 52 out
unfolding pick
filled r line out a b = rw (a, b)

-- ## What is read has some bytes

some_bytes : (s : State) (xs : List ℕ) (e : Entry) → entry_of (step_at s xs).read ≡ some e → 0 < length xs
unfolding step_at
some_bytes s [] e q = absurd (none≢some q)
some_bytes s (x ∷ xs) e q = omega arith

-- ## The line of a record does not look at the ending

line_ended : (y : EndingSoFar) (s : State) (e : Entry) (t : List ℕ) → line_for (with_ending y s) e t ≡ line_for s e t
unfolding line_for
line_ended y s (FileHeader d i c) t = refl
line_ended y s (BatchHeader g a n true) t = refl
line_ended y s (BatchHeader g a n false) t = refl
line_ended y s FixedDescription t = refl
line_ended y s (OrderingParty n d b) t = refl
line_ended y s (Transaction x) t = refl
line_ended y s NamePayer t = refl
line_ended y s PaymentReference t = refl
line_ended y s Description t = refl
line_ended y s NameBeneficiary t = refl
line_ended y s BatchTrailer t = refl
line_ended y s FileTrailer t = refl

-- ## The two promises

module _ (s : State) (e : Entry) (t : List ℕ) (h : length t ≡ 35) where
  pub reads_back : (out : List ℕ) → ReadsBack s e t (written_of s e t (length out)) (room_of s e t out)
  unfolding ReadsBack written_of room_of
  reads_back out next q =
      let l = line_for s e t in
      let r = step_at s (line_for s e t) in
      let p = sorted r (length out) q in
      let z = eqb-true r.answer.number 0 p.0 in
      let n = sym (ap (λ (v : State). v.line) p.1.1) ∙ read_line s e t h z in
      let o = ap (take 52) (filled r l out p.0 p.1.0) ∙ take_at l (drop 52 out) 52 (line_52 s e t h) in
      record {
        next_line = n;
        same_record = λ rest.
            ap (λ m. step_at s (m ++ rest)) o ∙ step_on (accepts s l (omega (arith, line_52 s e t h)) z) rest ∙ read_back s e t h z
            ∙ ap₂ (λ a u. record { answer = acceptance a; next = u; bytes = 52; read = record_of s e; text = t }) (sym n) p.1.1;
      }

  module _ (o : is_open s.before.ending (Some CrLf) ≡ true) (y : EndingSoFar) (xs : List ℕ) (z : (step_at (with_ending y s) xs).answer.number ≡ 0) (q : entry_of (step_at (with_ending y s) xs).read ≡ some e) (p : (step_at (with_ending y s) xs).text ≡ t) where
    not_empty : 0 < length xs
    not_empty = some_bytes (with_ending y s) xs e q

    line_taken : Taken (with_ending y s) xs
    line_taken = takes (with_ending y s) xs (sym (step_judged (with_ending y s) xs not_empty).0 ∙ z)

    line_is : ended_with crlf xs ≡ line_for s e t
    line_is = written_again (with_ending y s) xs not_empty z e q ∙ ap (line_for (with_ending y s) e) p ∙ line_ended y s e t

    -- the reader takes what is written, and goes on as after the line that was read
    step_again : (step_at s (line_for s e t)).answer ≡ (step_at (with_ending y s) xs).answer × (step_at s (line_for s e t)).next ≡ with_ending (Some CrLf) (step_at (with_ending y s) xs).next
    step_again =
        let k = line_taken.kind in
        let l = ended_with crlf xs in
        let h : 0 < length l = omega (arith, (is_ended line_taken crlf).long) in
        let r = read_taken (with_ending y s) xs k not_empty line_taken.is in
        let w =
        ap (step_at s) (sym line_is) ∙ read_taken s l k h (taken_ended y s line_taken crlf o)
        ∙ ap₂ (λ c m. read_as s c k (fields_of k m)) (line_cut crlf l (is_ended line_taken crlf)) (fifty_first line_taken crlf) in (
          ap (λ (v : LineRead). v.answer) w ∙ sym (ap (λ (v : LineRead). v.answer) r),
          ap (λ (v : LineRead). v.next) w ∙ ap (with_ending (Some CrLf)) (sym (next_ended y s k (fields_of k (take 50 xs)))) ∙ sym (ap (λ (v : LineRead). with_ending (Some CrLf) v.next) r),
        )

    same_line : (cut_of xs).ending ≡ (Some CrLf) → next_line xs ≡ ended_with crlf xs
    same_line c = whole_is y xs line_taken.whole crlf c

  pub writes_again : (out : List ℕ) → WritesAgain s e t (length out) (written_of s e t (length out)) (room_of s e t out)
  unfolding WritesAgain written_of room_of
  writes_again out n o y xs z q p =
      let l = line_for s e t in
      let m = line_is o y xs z q p in
      let r = step_again o y xs z q p in
      let k = ap (λ (v : Answer). v.number) r.0 ∙ z in
      let a : eqb (step_at s l).answer.number 0 ≡ true = eq-eqb (step_at s l).answer.number 0 k in
      let b = le-leb 52 (length out) n in
      let w = taken (step_at s l) (length out) a b in
      let f = ap (take 52) (filled (step_at s l) l out a b) ∙ take_at l (drop 52 out) 52 (line_52 s e t h) ∙ sym m in
      record {
        same_answer = ap answer_of w ∙ ap (λ m. acceptance m) (read_line s e t h k) ∙ sym (ap (λ (v : LineRead). v.answer) (read_back s e t h k)) ∙ r.0;
        same_state = w ∙ rw r.1 refl;
        same_characters = f;
        same_bytes = λ c. f ∙ sym (same_line o y xs z q p c);
      }

-- of the function's own result
module _ {l o : List ℕ} {w : Result State Answer} (s : State) (e : Entry) (t out : List ℕ) (p : l ≡ line_for s e t) (a : w ≡ written_by (length out) (step_at s l)) (b : o ≡ room_by (step_at s l) l out) where
  is_answer : w ≡ written_of s e t (length out)
  is_answer = answer_via s e t p (length out) a

  is_room : o ≡ room_of s e t out
  is_room = room_via s e t p out b

  pub reads_back_via : length t ≡ 35 → ReadsBack s e t w o
  reads_back_via h = rw (is_answer, is_room) (reads_back s e t h out)

  pub writes_again_via : length t ≡ 35 → WritesAgain s e t (length out) w o
  writes_again_via h = rw (is_answer, is_room) (writes_again s e t h out)
