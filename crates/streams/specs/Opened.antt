-- What an input is read from, and whether there is an argument that names it.
use Rattle.std.specs.Prelude.{◌≡◌, ℕ, Bool, true, false, Option, Some, None, Result, Ok, Err}
use Rattle.std.specs.declared.env.FillError.{FillError}
use Rattle.std.specs.declared.env.FillError.TheVariants.{NotPresent, TooLong}
use Rattle.streams.specs.declared.input.Input.{Input}
use Rattle.streams.specs.declared.reader.Reader.{Reader}
use Rattle.streams.specs.declared.reader.Reader.TheVariants.{StandardInput, OpenFile}

-- there is something
abbrev pub is_some_reader : Option Reader → Bool
is_some_reader None = false
is_some_reader (Some _) = true

abbrev pub is_open : Input → Bool
is_open i = is_some_reader i.reader

-- it is standard input itself
abbrev pub is_standard_reader : Option Reader → Bool
is_standard_reader None = false
is_standard_reader (Some (StandardInput _)) = true
is_standard_reader (Some (OpenFile _)) = false

abbrev pub is_standard : Input → Bool
is_standard i = is_standard_reader i.reader

-- there is an argument, by what an attempt to read it came to
abbrev pub is_given : Result ℕ FillError → Bool
is_given (Ok _) = true
is_given (Err NotPresent) = false
is_given (Err TooLong) = true

-- what stands for an input once more is open, and has its name
abbrev pub IsOnceMore : Input → Option Input → Type 0
IsOnceMore i None = Unit {0}
IsOnceMore i (Some again) = (is_open again ≡ true) × (again.name.now ≡ i.name.now)
