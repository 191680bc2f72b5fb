-- What to tell the sender, by the answer.
use Rattle.std.specs.Prelude.{ℕ, List, [], ◌∷◌, eqb}
use Rattle.std.specs.Borrow.{Bor}
use Prim.Native.String.{String}
use Rattle.machine.specs.Lists.{pick}
use Rattle.format.specs.Answers.{accepted, broken_line, unknown_record, misplaced_record, wrong_form, wrong_value, wrong_account, differs, above_maximum, wrong_trailer, ends_early, after_trailer, no_room, no_such_item, ordinary_account, beyond_limits}
use Rattle.machine.specs.Texts.{characters}

abbrev pub words : List (ℕ × String)
words =
    (broken_line, "the line is broken")
    ∷ (unknown_record, "this record does not exist")
    ∷ (misplaced_record, "this record may not stand here, or a name record is missing before it")
    ∷ (wrong_form, "the form is wrong: a letter in a number, a strange character, a space first, blank, or not blank")
    ∷ (wrong_value, "the value is not allowed: no such date or type, zero, or above its maximum")
    ∷ (wrong_account, "the account is wrong: eight digits, an ordering account of seven or fewer, or the eleven check fails")
    ∷ (differs, "it differs from what came before: group, sequence, own account, name code or day")
    ∷ (above_maximum, "the batch has one item too many, or its total is too large")
    ∷ (wrong_trailer, "the trailer's number is wrong")
    ∷ (ends_early, "the file ends before its file trailer")
    ∷ (after_trailer, "there is something after the file trailer")
    ∷ (no_room, "the room lent is too small")
    ∷ (no_such_item, "there is no such batch or item")
    ∷ (ordinary_account, "the types 0000, 0003 and 1002 are only for accounts of seven digits or fewer")
    ∷ (beyond_limits, "the state handed in is none that a file leads to")
    ∷ (accepted, "accepted")
    ∷ []

-- the words of an answer by a table, and none where it is not in it
abbrev pub words_by : List (ℕ × String) → ℕ → List ℕ
words_by [] number = []
words_by (row ∷ rows) number = pick (eqb number row.0) (characters row.1) (words_by rows number)

-- THE WORDS of an answer
unfoldable pub words_of : ℕ → List ℕ
words_of number = words_by words number

-- what a table of the code has for a number, and nothing where it does not have it
abbrev pub looked_up : List (ℕ × Bor (List ℕ)) → ℕ → List ℕ
looked_up [] number = []
looked_up (row ∷ rows) number = pick (eqb number row.0) row.1.now (looked_up rows number)
