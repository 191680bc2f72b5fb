-- WHAT ASKING FOR AN ITEM PROMISES, in the words of the language.
use Rattle.std.specs.Prelude.{◌≡◌, ◌≢◌, List, [], ◌∷◌, ◌++◌, ℕ, zero, suc, length, take, drop, leb}
use Rattle.std.proofs.Math.Option.{Option, none, some}
use Rattle.machine.specs.Lists.{pick, spaces}
use Rattle.format.specs.Answers.{accepted, no_room, no_such_item, refusal, acceptance}
use Rattle.format.specs.Rules.{most_descriptions, type_of}
use Rattle.format.specs.Language.{Name, Item, Batch, File, is_some, Reads}
use Rattle.format.specs.Cutting.{AreLines}
use Rattle.format.specs.Statements.{InLanguage}
use Rattle.reading.specs.Check.{check_of}
use Rattle.descriptions.specs.Texts.{merge_of, in_places}
use Rattle.items.specs.Search.{no_fields}
use Rattle.items.specs.Answering.{answered}
use Rattle.items.specs.declared.ItemFields.{ItemFields}
use Rattle.items.specs.declared.ItemRead.{ItemRead}

-- ## Item k of batch b of a file, each from 1

abbrev pub nth : {A : Type 0} → ℕ → List A → Option A
nth zero xs = none
nth (suc n) [] = none
nth (suc zero) (x ∷ xs) = some x
nth (suc (suc n)) (x ∷ xs) = nth (suc n) xs

-- an item, and the fixed descriptions of its batch
pub record ItemAt : Type 0 where
  pub fixed : List (List ℕ)
  pub item : Item

abbrev pub item_with : List (List ℕ) → Option Item → Option ItemAt
item_with fixed none = none
item_with fixed (some i) = some (record { fixed = fixed; item = i })

abbrev pub item_of_batch : Option Batch → ℕ → Option ItemAt
item_of_batch none k = none
item_of_batch (some b) k = item_with b.fixed (nth k b.items)

abbrev pub item_at : File → ℕ → ℕ → Option ItemAt
item_at f batch item = item_of_batch (nth batch f.batches) item

-- ## What is handed out of it

abbrev pub reference_for : Option (List ℕ) → List ℕ
reference_for none = spaces 16
reference_for (some t) = t

-- 'the name's first 24 characters'
abbrev pub name_for : Option Name → List ℕ
name_for none = spaces 24
name_for (some n) = take 24 n.text

abbrev pub fields_for : Item → ItemFields
fields_for i =
    record {
      kind = type_of i.type;
      amount = i.amount;
      payer = i.payer;
      beneficiary = i.beneficiary;
      reference = reference_for i.reference;
      name = name_for i.name;
    }

-- the merged descriptions in 128 bytes, 'unused places with spaces'
abbrev pub texts_for : ItemAt → List ℕ
texts_for x = (in_places (spaces 128) (merge_of (most_descriptions (is_some x.item.reference)) x.fixed x.item.descriptions)).text

-- the item's fields, 12 where the room is too small, 13 where there is no such item
abbrev pub handed_out : ℕ → Option ItemAt → ℕ → ItemRead
handed_out lines none room = answered (refusal no_such_item lines 0) no_fields
handed_out lines (some x) room = pick (leb 128 room) (answered (acceptance lines) (fields_for x.item)) (answered (refusal no_room lines 0) no_fields)

abbrev pub room_with : Option ItemAt → List ℕ → List ℕ
room_with none out = out
room_with (some x) out = pick (leb 128 (length out)) (texts_for x ++ drop 128 out) out

-- an answer to one who asks for an item of a file, and the room after it
pub record Promised (file : List ℕ) (batch item : ℕ) (out : List ℕ) (r : ItemRead) (after : List ℕ) : Type 0 where
  -- of a file of the language, by its reading: that item; the line is the number of lines
  pub handed : (f : File) → Reads file f → r ≡ handed_out r.answer.line (item_at f batch item) (length out)
  pub written : (f : File) → Reads file f → after ≡ room_with (item_at f batch item) out
  pub lines : InLanguage file → AreLines r.answer.line file
  -- of other bytes: the file's own refusal, and the room as it was
  pub refusal : (InLanguage file → ⊥) → (r.answer.number ≢ accepted) × (r ≡ answered (check_of file) no_fields)
  pub untouched : (InLanguage file → ⊥) → after ≡ out
