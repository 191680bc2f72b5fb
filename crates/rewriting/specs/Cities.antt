-- A file without its city records, its lines ended as the writer ends them.
use Rattle.std.specs.Prelude.{ℕ, List, [], ◌∷◌, ◌++◌, not, count_by, take}
use Rattle.machine.specs.Lists.{pick}
use Rattle.format.specs.Cutting.{lines_in}
use Rattle.record.specs.Kinds.{is_city}
use Rattle.writer.specs.Encoding.{line_end}

-- a line's characters with the writer's end, or nothing of a city's
unfoldable pub kept_line : List ℕ → List ℕ
kept_line line = pick (is_city line) [] (take 50 line ++ line_end)

-- of some lines those that are no city's, one after the other
unfoldable pub kept_of : List (List ℕ) → List ℕ
kept_of [] = []
kept_of (line ∷ lines) = kept_line line ++ kept_of lines

-- and how many these are
abbrev pub kept_count : List (List ℕ) → ℕ
kept_count lines = count_by (λ line. not (is_city line)) lines

-- THE BYTES WRITTEN: the file's own lines without those of cities, in their order, each ended by 13, 10
unfoldable pub without_cities : List ℕ → List ℕ
without_cities file = kept_of (lines_in file)
