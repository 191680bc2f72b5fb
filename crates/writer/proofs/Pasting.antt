-- A line into its room, and the writer's answer. Assumes nothing.
use Prim.Native.Nat.{ℕ, ◌≤◌, ◌<◌}
use mathlib.Core.Path.{◌≡◌, sym, ◌∙◌, ap}
use mathlib.Core.List.{List, ◌++◌}
use native.Mathlib.Omega.{arith}
use borrow.Author.Tests.{eq-eqb, ne_eqb, le-leb, lt-leb}
use lib.ListN.{length, drop}
use Rattle.std.proofs.Common.{Result, Ok, Err}
use Rattle.machine.specs.Lists.{pick, put_in}
use Rattle.format.specs.Answers.{refusal}
use Rattle.format.specs.declared.Answer.{Answer}
use Rattle.field.proofs.Putting.{put_front}
use Rattle.reading.specs.Step.{step_at}
use Rattle.reading.specs.declared.State.{State}
use Rattle.reading.specs.declared.LineRead.{LineRead}
use Rattle.writer.specs.Entries.{line_for}
use Rattle.writer.specs.Writing.{written_by, room_by, written_of, room_of}
use Rattle.writer.specs.declared.Entry.{Entry}

-- ## By what the reader says

module _ {r x : LineRead} (room : ℕ) (e : r ≡ x) where
  pub by_refusal : (r.answer.number ≡ 0 → ⊥) → Err r.answer ≡ written_by room x
  unfolding pick
  by_refusal z = sym (ap (written_by room) (sym e) ∙ rw (ne_eqb _ _ z))

  pub by_room : {a : Answer} → r.answer.number ≡ 0 → room < 52 → a ≡ refusal 12 r.answer.line 0 → Err a ≡ written_by room x
  unfolding pick
  by_room z l f = rw f (sym (ap (written_by room) (sym e) ∙ rw (eq-eqb _ _ z, lt-leb 52 room l)))

  pub by_acceptance : r.answer.number ≡ 0 → 52 ≤ room → Ok r.next ≡ written_by room x
  unfolding pick
  by_acceptance z l = sym (ap (written_by room) (sym e) ∙ rw (eq-eqb _ _ z, le-leb 52 room l))

module _ {r x : LineRead} {o : List ℕ} (line out : List ℕ) (e : r ≡ x) where
  pub room_refused : (r.answer.number ≡ 0 → ⊥) → o ≡ out → o ≡ room_by x line out
  unfolding pick
  room_refused z h = h ∙ sym (ap (λ y. room_by y line out) (sym e) ∙ rw (ne_eqb _ _ z))

  pub room_small : r.answer.number ≡ 0 → length out < 52 → o ≡ out → o ≡ room_by x line out
  unfolding pick
  room_small z l h = h ∙ sym (ap (λ y. room_by y line out) (sym e) ∙ rw (eq-eqb _ _ z, lt-leb 52 (length out) l))

  pub room_filled : length line ≡ 52 → r.answer.number ≡ 0 → 52 ≤ length out → o ≡ put_in out 0 line → o ≡ room_by x line out
  unfolding pick
  room_filled n z l h = put_front out line (omega arith) h ∙ ap (λ m. line ++ drop m out) n ∙ sym (ap (λ y. room_by y line out) (sym e) ∙ rw (eq-eqb _ _ z, le-leb 52 (length out) l))

-- ## The writer

module _ {l : List ℕ} (s : State) (e : Entry) (t : List ℕ) (p : l ≡ line_for s e t) where
  pub answer_via : {w : Result State Answer} (room : ℕ) → w ≡ written_by room (step_at s l) → w ≡ written_of s e t room
  unfolding written_of
  answer_via room h = h ∙ ap (λ m. written_by room (step_at s m)) p

  pub room_via : {o : List ℕ} (out : List ℕ) → o ≡ room_by (step_at s l) l out → o ≡ room_of s e t out
  unfolding room_of
  room_via out h = h ∙ ap (λ m. room_by (step_at s m) m out) p
