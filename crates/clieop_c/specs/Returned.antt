-- What the functions for other languages return, and what they leave in the numbers and bytes lent to them.
use Rattle.std.specs.Prelude.{ℕ, ◌+◌, ◌*◌, ◌/◌, ◌%◌, ◌≡◌, List, [], ◌∷◌, ◌++◌, length, get_or, take, drop, leb, eqb, Some, None}
use Rattle.machine.specs.Lists.{pick, pasted}
use Rattle.machine.specs.Digits.{value_of, decimal}
use Rattle.format.specs.Answers.{accepted, refusal}
use Rattle.format.specs.declared.Answer.{Answer}
use Rattle.format.specs.Rules.{type_text, type_of, TypeRead}
use Rattle.format.specs.Language.{File, Reads}
use Rattle.format.specs.declared.TransactionType.{TransactionType}
use Rattle.reading.specs.declared.FileRead.{FileRead}
use Rattle.file.specs.Totals.{Sums}
use Rattle.rewriting.specs.Rewriting.{answered}
use Rattle.rewriting.specs.declared.Rewritten.{Rewritten}
use Rattle.items.specs.Search.{no_fields}
use Rattle.items.specs.Answering.{answered as answeredItem, item_of, room_after as descriptionsAfter}
use Rattle.items.specs.Promises.{Promised}
use Rattle.items.specs.declared.ItemFields.{ItemFields}
use Rattle.items.specs.declared.ItemRead.{ItemRead}

-- ## Numbers

-- the answer in the lowest byte, the column in the next, the line above them
unfoldable pub packed : Answer → ℕ
packed a = a.number + 256 * a.column + 65536 * a.line

-- how a caller reads it: CLIEOP_ANSWER, CLIEOP_LINE and CLIEOP_COLUMN
unfoldable pub unpacked : ℕ → Answer
unpacked r = refusal (r % 256) (r / 65536) (r / 256 % 256)

-- a lent number after a call: with 0 only, the one handed out
unfoldable pub number_after : Answer → ℕ → ℕ → ℕ
number_after a n before = pick (eqb a.number accepted) n before

-- ## The totals of a file

-- how many items all its batches have, and their amounts in cents
abbrev pub items_after : FileRead → ℕ → ℕ
items_after r before = number_after r.answer r.totals.items before

abbrev pub amount_after : FileRead → ℕ → ℕ
amount_after r before = number_after r.answer r.totals.amount before

-- what a caller finds: of a file of the language the sums over its batches' items
unfoldable pub TotalsFound : List ℕ → ℕ → ℕ → Type 0
TotalsFound file items amount = (f : File) → Reads file f → Sums (record { items = items; amount = amount }) f.batches

-- ## A file written again

-- how many bytes were written
abbrev pub written_after : Rewritten → ℕ → ℕ
written_after w before = number_after w.answer w.written before

-- what a caller finds: the answer, and with 0 how many bytes
unfoldable pub rewrite_by : Answer → ℕ → Rewritten
rewrite_by a written = answered a (pick (eqb a.number accepted) written 0)

abbrev pub rewrite_found : ℕ → ℕ → Rewritten
rewrite_found r written = rewrite_by (unpacked r) written

-- ## An item

-- a type as a number; 'numbers are zero' where there is none
unfoldable pub number_of : TransactionType → ℕ
number_of t = value_of (type_text t)

abbrev pub type_number : TypeRead → ℕ
type_number (Some t) = number_of t
type_number None = 0

-- the answer to one who asks for an item; with room for its texts or its numbers lacking, that of one who has no room at all
unfoldable pub item_asked : List ℕ → ℕ → ℕ → ℕ → ℕ → ItemRead
item_asked file batch item room count = item_of file batch item (pick (leb 4 count) (pick (leb 168 room) room 0) 0)

unfoldable pub numbers_with : ItemFields → List ℕ → List ℕ
numbers_with f numbers = type_number f.kind ∷ f.amount ∷ f.payer ∷ f.beneficiary ∷ drop 4 numbers

-- the reference and the name behind the 128 bytes of the descriptions
unfoldable pub texts_with : ItemFields → List ℕ → List ℕ
texts_with f texts = pasted texts 128 (f.reference ++ f.name)

-- 'A refusal .. leaves .. buffer untouched'
unfoldable pub item_numbers : ItemRead → List ℕ → List ℕ
item_numbers r numbers = pick (eqb r.answer.number accepted) (numbers_with r.fields numbers) numbers

abbrev pub texts_by : ItemRead → List ℕ → List ℕ → List ℕ
texts_by r texts described = pick (eqb r.answer.number accepted) (texts_with r.fields described) texts

unfoldable pub item_texts : List ℕ → ℕ → ℕ → List ℕ → ℕ → List ℕ
item_texts file batch item texts count = texts_by (item_asked file batch item (length texts) count) texts (descriptionsAfter file batch item texts)

-- of the texts that a caller finds, the reference and the name
unfoldable pub fields_with : TypeRead → ℕ → ℕ → ℕ → List ℕ → ItemFields
fields_with kind amount payer beneficiary texts =
    record { kind = kind; amount = amount; payer = payer; beneficiary = beneficiary; reference = take 16 (drop 128 texts); name = take 24 (drop 144 texts) }

unfoldable pub fields_in : List ℕ → List ℕ → ItemFields
fields_in numbers texts = fields_with (type_of (decimal 4 (get_or numbers 0 0))) (get_or numbers 1 0) (get_or numbers 2 0) (get_or numbers 3 0) texts

-- what a caller finds: the answer, and with 0 the fields in the lent numbers and texts
unfoldable pub item_by : Answer → List ℕ → List ℕ → ItemRead
item_by a numbers texts = answeredItem a (pick (eqb a.number accepted) (fields_in numbers texts) no_fields)

abbrev pub item_found : ℕ → List ℕ → List ℕ → ItemRead
item_found r numbers texts = item_by (unpacked r) numbers texts

-- the room for descriptions: the first 128 bytes, and none where there is no room for everything
unfoldable pub described_room : List ℕ → ℕ → List ℕ
described_room texts count = pick (leb 4 count) (pick (leb 168 (length texts)) (take 128 texts) []) []

-- what `items::item` promises, of what a caller finds and with that room, before the call and after it
abbrev pub ItemPromised : List ℕ → ℕ → ℕ → List ℕ → ItemRead → List ℕ → ℕ → Type 0
ItemPromised file batch item texts found after count = Promised file batch item (described_room texts count) found (described_room after count)

-- ## Between the functions of this crate

-- an item's fields with the texts that a caller finds
unfoldable pub fields_back : ItemFields → List ℕ → ItemFields
fields_back f texts = fields_with f.kind f.amount f.payer f.beneficiary texts

-- of an item that is handed out they are its own
unfoldable pub Held : ItemRead → List ℕ → Type 0
Held r texts = r.answer.number ≡ accepted → fields_back r.fields texts ≡ r.fields
