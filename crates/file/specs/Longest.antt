-- The longest accepted file and the largest totals: none is longer, no answer comes with larger ones, and with each line end one file has both.
use Rattle.std.specs.Prelude.{◌≡◌, List, ℕ, ◌≤◌}
use Rattle.format.specs.Language.{File, file_recs, Ending, end_bytes, lines_of}
use Rattle.format.specs.Answers.{acceptance}
use Rattle.format.specs.Rules.{max_file_items, max_file_amount}
use Rattle.record.specs.declared.Totals.{Totals}
use Rattle.reading.specs.Check.{check_of, totals_of, read_of}

-- 'The largest total is 45,373,483,806,849,099 cents', and 999,900,000 items (02)
abbrev pub largest_totals : Totals
largest_totals = record { items = max_file_items; amount = max_file_amount }

pub record Longest (lines : ℕ) (t : Totals) : Type 0 where
  pub none_longer : (b : List ℕ) (n : ℕ) → check_of b ≡ acceptance n → n ≤ lines
  pub none_larger : (b : List ℕ) → ((totals_of b).items ≤ t.items) × ((totals_of b).amount ≤ t.amount)
  pub one_as_long : (z : Ending) → (f : File) × (read_of (lines_of (end_bytes z) (file_recs f)) ≡ record { answer = acceptance lines; totals = t })
