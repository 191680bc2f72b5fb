-- The state before the first line, and the limits of a state.
use Rattle.std.specs.Prelude.{ℕ, ◌≤◌, Bool, false, ◌&&◌, leb}
use Rattle.format.specs.Rules.{max_items, max_total, max_file_items, max_file_amount, max_account, max_sequence, max_fixed, max_descriptions}
use Rattle.record.specs.Faults.{nothing_before, empty_batch, no_totals}
use Rattle.record.specs.declared.Totals.{Totals}
use Rattle.reading.specs.declared.Stage.TheVariants.{Start}
use Rattle.reading.specs.declared.Name.TheVariants.{Unwanted}
use Rattle.reading.specs.declared.OpenItem.{OpenItem}
use Rattle.reading.specs.declared.State.{State}

abbrev pub no_item : OpenItem
no_item = record { name = Unwanted; reference = false; descriptions = 0 }

abbrev pub start_state : State
start_state = record { line = 0; before = nothing_before; batch = empty_batch; totals = no_totals; stage = Start; item = no_item }

-- the lines of the longest accepted file
abbrev pub max_line : ℕ
max_line = 6999369995

-- 'a state handed in above that total, or above 999,900,000 items, is 24' (02)
unfoldable pub are_within : Totals → Bool
are_within t = leb t.items max_file_items && leb t.amount max_file_amount

-- the same as facts
pub record Bounded (t : Totals) : Type 0 where
  pub items : t.items ≤ max_file_items
  pub amount : t.amount ≤ max_file_amount

-- the limits of a state but for its line number
unfoldable pub is_limited : State → Bool
is_limited s =
    leb s.batch.items max_items
    && (leb s.batch.total max_total
    && (leb s.batch.accounts max_account
    && (leb s.before.sequence max_sequence
    && (leb s.batch.fixed max_fixed
    && (leb s.item.descriptions max_descriptions
    && are_within s.totals)))))

-- answer 24 is for a state beyond these
unfoldable pub within : State → Bool
within s = leb s.line max_line && is_limited s

-- those but for its line number as facts
pub record Limited (s : State) : Type 0 where
  pub items : s.batch.items ≤ max_items
  pub total : s.batch.total ≤ max_total
  pub accounts : s.batch.accounts ≤ max_account
  pub sequence : s.before.sequence ≤ max_sequence
  pub fixed : s.batch.fixed ≤ max_fixed
  pub descriptions : s.item.descriptions ≤ max_descriptions
  pub totals : Bounded s.totals
