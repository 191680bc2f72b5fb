-- The answers of 01 and 02 by name, and an answer with its line and column.
use Rattle.std.specs.Prelude.{Bool, ◌||◌, ℕ, leb, eqb, Result, Ok, Err}
use Rattle.format.specs.Rules.{untimely_date}
use Rattle.format.specs.declared.Answer.{Answer}
use Rattle.format.specs.declared.Refusal.{Refusal}
use Rattle.format.specs.declared.Refusal.TheVariants.{BrokenLine, UnknownRecord, MisplacedRecord, WrongForm, WrongValue, WrongAccount, Differs, AboveMaximum, WrongTrailer, EndsEarly, AfterTrailer, NoRoom, NoSuchItem, OrdinaryAccount, UntimelyDate, BeyondLimits}

abbrev pub accepted : ℕ
accepted = 0

-- 'given where neither ending fits' (02), or not the one that the first line fixed
abbrev pub broken_line : ℕ
broken_line = 1

-- 'code and variant not in the table'
abbrev pub unknown_record : ℕ
unknown_record = 2

-- 'record not allowed at this place, missing name included'
abbrev pub misplaced_record : ℕ
misplaced_record = 3

-- 'field's form, blank or not blank against the rule'
abbrev pub wrong_form : ℕ
wrong_form = 4

-- 'value, zero or above its maximum'
abbrev pub wrong_value : ℕ
wrong_value = 5

-- 'account: eight digits, eleven check, or ordering account of seven'
abbrev pub wrong_account : ℕ
wrong_account = 6

-- 'differs from what came before: group, sequence, own account, name code 2 in group 10, day'
abbrev pub differs : ℕ
differs = 7

-- 'item 100,001, column 1; batch total above its maximum, column 10'
abbrev pub above_maximum : ℕ
above_maximum = 8

-- 'trailer number is wrong'
abbrev pub wrong_trailer : ℕ
wrong_trailer = 9

-- 'no bytes remain before the file trailer'
abbrev pub ends_early : ℕ
ends_early = 10

-- 'a byte, or a record to write, after the file trailer'
abbrev pub after_trailer : ℕ
after_trailer = 11

-- 'lent room too small: under 52 bytes left to write, under 128 for descriptions'
abbrev pub no_room : ℕ
no_room = 12

-- 'no such batch or item; the line is the file's number of lines'
abbrev pub no_such_item : ℕ
no_such_item = 13

-- 'unchecked type with an account of nine or ten digits' (02)
abbrev pub ordinary_account : ℕ
ordinary_account = 14

-- 'a state handed in' beyond 01's limits
abbrev pub beyond_limits : ℕ
beyond_limits = 24

-- what a file can be answered: 0 to 11, and 14; the others are of rooms, items and states
abbrev pub is_of_file : ℕ → Bool
is_of_file number = leb number after_trailer || eqb number ordinary_account

abbrev pub refusal : ℕ → ℕ → ℕ → Answer
refusal number line column = record { number = number; line = line; column = column }

-- after so many lines
abbrev pub acceptance : ℕ → Answer
acceptance line = refusal accepted line 0

abbrev pub number_of : Refusal → ℕ
number_of BrokenLine = broken_line
number_of UnknownRecord = unknown_record
number_of MisplacedRecord = misplaced_record
number_of WrongForm = wrong_form
number_of WrongValue = wrong_value
number_of WrongAccount = wrong_account
number_of Differs = differs
number_of AboveMaximum = above_maximum
number_of WrongTrailer = wrong_trailer
number_of EndsEarly = ends_early
number_of AfterTrailer = after_trailer
number_of NoRoom = no_room
number_of NoSuchItem = no_such_item
number_of OrdinaryAccount = ordinary_account
number_of UntimelyDate = untimely_date
number_of BeyondLimits = beyond_limits

-- the number that a result stands for: 0 where nothing is refused
abbrev pub number_in : {A : Type 0} → Result A Refusal → ℕ
number_in (Ok x) = accepted
number_in (Err r) = number_of r
