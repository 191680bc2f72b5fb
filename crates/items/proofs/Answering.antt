-- The answer to one who asks for an item, from what calls answered. Assumes nothing.
use Prim.Native.Nat.{ℕ, ◌≤◌, ◌<◌}
use mathlib.Core.Path.{◌≡◌, ◌∙◌, ap, ap₂}
use mathlib.Core.List.{List, ◌++◌}
use mathlib.Core.Bool.{Bool, true, false, not}
use native.Mathlib.Omega.{arith}
use borrow.Author.Tests.{eq-eqb, ne_eqb, le-leb, lt-leb}
use lib.ListN.{length, drop}
use Rattle.std.specs.Prelude.{Some, None}
use Rattle.std.specs.Option.{is_some}
use Rattle.machine.specs.Lists.{pick, put_in}
use Rattle.format.specs.Answers.{refusal, acceptance}
use Rattle.format.specs.declared.Answer.{Answer}
use Rattle.format.specs.Cutting.{lines_in}
use Rattle.format.specs.Rules.{most_descriptions, is_type, TypeRead}
use Rattle.field.proofs.Putting.{put_front}
use Rattle.reading.specs.Check.{read_of}
use Rattle.reading.specs.declared.FileRead.{FileRead}
use Rattle.descriptions.specs.Texts.{merged}
use Rattle.descriptions.specs.declared.Descriptions.{Descriptions}
use Rattle.items.specs.Search.{no_fields, started, after_lines}
use Rattle.items.specs.Answering.{answered, texts_found, answered_by, room_by, is_within, answered_at, room_at, item_of, room_after}
use Rattle.items.specs.declared.Found.{Found}
use Rattle.items.specs.declared.Search.{Search}
use Rattle.items.specs.declared.ItemRead.{ItemRead}

pub texts_via : {n : ℕ} {d : Descriptions} (f : Found) → n ≡ most_descriptions f.referred → d ≡ merged f.fixed f.own n → d.text ≡ texts_found f
unfolding texts_found
texts_via f e h = ap (λ (x : Descriptions). x.text) (h ∙ ap (merged f.fixed f.own) e)

-- an item has a type
typed : {q b : Bool} (k : TypeRead) → is_some k ≡ not q → q ≡ b → is_type k ≡ not b
typed (Some y) e f = e ∙ ap not f
typed None e f = e ∙ ap not f

module _ (s : Search) (a : Answer) (room : ℕ) where
  pub by_refusal : {w : ItemRead} → (a.number ≡ 0 → ⊥) → w ≡ answered a no_fields → w ≡ answered_by s a room
  unfolding answered_by pick
  by_refusal z h = h ∙ rw (ne_eqb _ _ z)

  pub by_none : {w : ItemRead} {b : Answer} {q : Bool} → a.number ≡ 0 → is_some s.found.fields.kind ≡ not q → q ≡ true → b ≡ refusal 13 a.line 0 → w ≡ answered b no_fields → w ≡ answered_by s a room
  unfolding answered_by pick
  by_none z e f g h = h ∙ ap (λ b. answered b no_fields) g ∙ rw (eq-eqb _ _ z, typed s.found.fields.kind e f)

  pub by_room : {w : ItemRead} {b : Answer} {q : Bool} → a.number ≡ 0 → is_some s.found.fields.kind ≡ not q → q ≡ false → room < 128 → b ≡ refusal 12 a.line 0 → w ≡ answered b no_fields → w ≡ answered_by s a room
  unfolding answered_by pick
  by_room z e f l g h = h ∙ ap (λ b. answered b no_fields) g ∙ rw (eq-eqb _ _ z, typed s.found.fields.kind e f, lt-leb 128 room l)

  pub by_item : {b : Answer} {q : Bool} → a.number ≡ 0 → is_some s.found.fields.kind ≡ not q → q ≡ false → 128 ≤ room → b ≡ acceptance a.line → answered b s.found.fields ≡ answered_by s a room
  unfolding answered_by pick
  by_item z e f l g = ap (λ b. answered b s.found.fields) g ∙ rw (eq-eqb _ _ z, typed s.found.fields.kind e f, le-leb 128 room l)

module _ (s : Search) (a : Answer) (out : List ℕ) where
  pub room_refused : (a.number ≡ 0 → ⊥) → out ≡ room_by s a out
  unfolding room_by pick
  room_refused z = rw (ne_eqb _ _ z)

  pub room_none : {q : Bool} → a.number ≡ 0 → is_some s.found.fields.kind ≡ not q → q ≡ true → out ≡ room_by s a out
  unfolding room_by pick
  room_none z e f = rw (eq-eqb _ _ z, typed s.found.fields.kind e f)

  pub room_small : {q : Bool} → a.number ≡ 0 → is_some s.found.fields.kind ≡ not q → q ≡ false → length out < 128 → out ≡ room_by s a out
  unfolding room_by pick
  room_small z e f l = rw (eq-eqb _ _ z, typed s.found.fields.kind e f, lt-leb 128 (length out) l)

  pub room_filled : {o t : List ℕ} {q : Bool} → a.number ≡ 0 → is_some s.found.fields.kind ≡ not q → q ≡ false → 128 ≤ length out → t ≡ texts_found s.found → length t ≡ 128 → o ≡ put_in out 0 t → o ≡ room_by s a out
  unfolding room_by pick
  room_filled {o} {t} z e f l g n h = put_front out t (omega (arith, n)) h ∙ ap (λ m. t ++ drop m out) n ∙ ap (λ y. y ++ drop 128 out) g ∙ rw (eq-eqb _ _ z, typed s.found.fields.kind e f, le-leb 128 (length out) l)

-- ## A search handed in

module _ {q : Bool} (s : Search) (a : Answer) (e : q ≡ is_within s.found) where
  pub at_within : {w : ItemRead} (room : ℕ) → q ≡ true → w ≡ answered_by s a room → w ≡ answered_at s a room
  unfolding answered_at pick
  at_within room f h = h ∙ rw (← e, f)

  pub at_beyond : {w : ItemRead} {b : Answer} (room : ℕ) → q ≡ false → b ≡ refusal 24 0 0 → w ≡ answered b no_fields → w ≡ answered_at s a room
  unfolding answered_at pick
  at_beyond room f g h = h ∙ ap (λ b. answered b no_fields) g ∙ rw (← e, f)

  pub room_within : {o : List ℕ} (out : List ℕ) → q ≡ true → o ≡ room_by s a out → o ≡ room_at s a out
  unfolding room_at pick
  room_within out f h = h ∙ rw (← e, f)

  pub room_beyond : (out : List ℕ) → q ≡ false → out ≡ room_at s a out
  unfolding room_at pick
  room_beyond out f = rw (← e, f)

-- ## The whole

module _ {s t : Search} {r : FileRead} (file : List ℕ) (batch item : ℕ) (e : r ≡ read_of file) (f : s ≡ started batch item) (g : t ≡ after_lines s (lines_in file)) where
  pub item_via : {w : ItemRead} (room : ℕ) → w ≡ answered_by t r.answer room → w ≡ item_of file batch item room
  unfolding item_of
  item_via room h = h ∙ ap₂ (λ x (y : FileRead). answered_by x y.answer room) (g ∙ ap (λ x. after_lines x (lines_in file)) f) e

  pub room_via : {o : List ℕ} (out : List ℕ) → o ≡ room_by t r.answer out → o ≡ room_after file batch item out
  unfolding room_after
  room_via out h = h ∙ ap₂ (λ x (y : FileRead). room_by x y.answer out) (g ∙ ap (λ x. after_lines x (lines_in file)) f) e
