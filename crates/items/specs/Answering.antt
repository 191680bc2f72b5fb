-- HOW THE ANSWER IS FOUND: what is answered to one who asks for an item after the search, and the lent room then. What to believe of the answer is said in Promises.antt.
use Rattle.std.specs.Prelude.{ℕ, List, ◌++◌, Bool, ◌&&◌, length, drop, leb, eqb}
use Rattle.machine.specs.Lists.{pick}
use Rattle.format.specs.Answers.{accepted, no_room, no_such_item, beyond_limits, refusal, acceptance}
use Rattle.format.specs.declared.Answer.{Answer}
use Rattle.format.specs.Cutting.{lines_in}
use Rattle.format.specs.Rules.{max_fixed, max_descriptions, most_descriptions, is_type}
use Rattle.reading.specs.Check.{check_of}
use Rattle.descriptions.specs.Texts.{merged}
use Rattle.items.specs.Search.{no_fields, started, after_lines}
use Rattle.items.specs.declared.ItemFields.{ItemFields}
use Rattle.items.specs.declared.Found.{Found}
use Rattle.items.specs.declared.Search.{Search}
use Rattle.items.specs.declared.ItemRead.{ItemRead}

abbrev pub answered : Answer → ItemFields → ItemRead
answered a fields = record { answer = a; fields = fields }

-- 'the fixed ones, then the item's own, cut to the first four, or three with a reference', in places
unfoldable pub texts_found : Found → List ℕ
texts_found f = (merged f.fixed f.own (most_descriptions f.referred)).text

-- after all lines of a file with this answer, with so much room: the file's own refusal, 13, 12, or the item
unfoldable pub answered_by : Search → Answer → ℕ → ItemRead
answered_by s a room =
    pick (eqb a.number accepted)
    (pick (is_type s.found.fields.kind)
    (pick (leb 128 room) (answered (acceptance a.line) s.found.fields)
    (answered (refusal no_room a.line 0) no_fields))
    (answered (refusal no_such_item a.line 0) no_fields))
    (answered a no_fields)

-- 'They fill the first 128 bytes of a lent buffer ..; bytes beyond stay'
unfoldable pub room_by : Search → Answer → List ℕ → List ℕ
room_by s a out =
    pick (eqb a.number accepted)
    (pick (is_type s.found.fields.kind)
    (pick (leb 128 (length out)) (texts_found s.found ++ drop 128 out)
    out)
    out)
    out

-- at most four descriptions of a kind; 24 is for a search beyond that. (No lines lead there from a start: a fifth is not kept.)
unfoldable pub is_within : Found → Bool
is_within f = leb f.fixed.count max_fixed && leb f.own.count max_descriptions

unfoldable pub answered_at : Search → Answer → ℕ → ItemRead
answered_at s a room = pick (is_within s.found) (answered_by s a room) (answered (refusal beyond_limits 0 0) no_fields)

unfoldable pub room_at : Search → Answer → List ℕ → List ℕ
room_at s a out = pick (is_within s.found) (room_by s a out) out

-- THE ANSWER to one who asks for an item of a file, with so much room
unfoldable pub item_of : List ℕ → ℕ → ℕ → ℕ → ItemRead
item_of file batch item room = answered_by (after_lines (started batch item) (lines_in file)) (check_of file) room

-- THE ROOM after it
unfoldable pub room_after : List ℕ → ℕ → ℕ → List ℕ → List ℕ
room_after file batch item out = room_by (after_lines (started batch item) (lines_in file)) (check_of file) out
