-- How a program ends: 0, everything accepted and written; 1, something refused; 2, something not opened, read or written.
use Rattle.std.specs.Prelude.{ℕ, ◌≡◌, ◌⊎◌, ◌+◌, min, Bool, true, false, eqb, Result, Ok, Err}
use Rattle.std.specs.IoError.{error_kind}
use Rattle.std.specs.declared.io.Error.{Error}
use Rattle.std.specs.declared.io.ErrorKind.{ErrorKind}
use Rattle.std.specs.declared.io.ErrorKind.TheVariants.{BrokenPipe}
use Rattle.machine.specs.Lists.{pick}
use Rattle.streams.specs.declared.output.Printed.{Printed}
use Rattle.streams.specs.declared.output.Printed.TheVariants.{Whole, Failed, Unread}

-- of one file, by its answer and whether all was read and written
unfoldable pub status_of : ℕ → Bool → ℕ
status_of number done = pick done (pick (eqb number 0) 0 1) 2

-- as one digit
unfoldable pub status_digit : ℕ → ℕ
status_digit status = 48 + min status 2

-- of what was printed, by what writing it came to: nobody reads it any more where the pipe that it goes into is broken
abbrev pub failed_by : ErrorKind → Printed
failed_by BrokenPipe = Unread
failed_by _ = Failed

abbrev pub printed_of : {A : Type 0} → Result A Error → Printed
printed_of (Ok _) = Whole
printed_of (Err e) = failed_by (error_kind e)

-- all of it was written
abbrev pub is_whole : Printed → Bool
is_whole Whole = true
is_whole Failed = false
is_whole Unread = false

-- of one file, with what became of what was printed of it: 141 where nobody reads it any more, as of a program that the signal of a closed pipe kills
unfoldable pub status_after : ℕ → Bool → Printed → ℕ
status_after number done Whole = status_of number done
status_after number done Failed = status_of number false
status_after number done Unread = 141

-- of several files: one of theirs, or that of a file that was not opened
abbrev pub EndsAs : (ℕ → Type 0) → ℕ → Type 0
EndsAs ends status = ends status ⊎ (status ≡ 2)

-- what a program ends with
unfoldable pub exit_of : ℕ → ℕ
exit_of status = pick (eqb status 141) 141 (min status 2)
