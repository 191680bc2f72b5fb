-- For functions that are not public: nobody has to read this file to believe the writer.
use Rattle.std.specs.Prelude.{ℕ, List, Bool, true, false}
use Rattle.machine.specs.Lists.{put_in}
use Rattle.format.specs.Records.{layout, code}
use Rattle.format.specs.Rules.{EUR, group_text}
use Rattle.format.specs.declared.Kind.TheVariants as kinds
use Rattle.format.specs.declared.Group.{Group}
use Rattle.writer.specs.Encoding.{number_in, encoded_line}
use Rattle.writer.specs.Entries.{batch_header_given}

-- the first four fields of a batch header, put into a line
abbrev pub header_start : List ℕ → Group → ℕ → ℕ → List ℕ
header_start line g account sequence = put_in (put_in (put_in (put_in line 5 (group_text g)) 7 (number_in 10 account)) 17 (number_in 4 sequence)) 21 EUR

abbrev pub batch_header_line : Bool → Group → ℕ → ℕ → List ℕ → List ℕ
batch_header_line true g a q t = encoded_line (code kinds.BatchHeaderC) (layout kinds.BatchHeaderC) (batch_header_given g a q t)
batch_header_line false g a q t = encoded_line (code kinds.BatchHeaderB) (layout kinds.BatchHeaderB) (batch_header_given g a q t)
