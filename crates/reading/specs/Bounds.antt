-- What the sums of a batch and a run's loop rely on. (No definitions of 01's: only functions that are not public ask it.)
use Rattle.std.specs.Prelude.{ℕ, ◌≤◌, ◌≡◌, true, false}
use Rattle.machine.specs.Lists.{pick}
use Rattle.format.specs.Answers.{accepted, after_trailer, beyond_limits}
use Rattle.format.specs.Rules.{max_items, max_total, max_account}
use Rattle.record.specs.declared.Batch.{Batch}
use Rattle.record.specs.declared.Totals.{Totals}
use Rattle.record.specs.declared.TransactionFields.{TransactionFields}
use Rattle.reading.specs.State.{are_within, within, Limited}
use Rattle.reading.specs.Order.{is_stage}
use Rattle.reading.specs.Step.{is_done}
use Rattle.reading.specs.declared.Stage.TheVariants.{Closed}
use Rattle.reading.specs.declared.State.{State}

-- sums that fit a u64
pub record Roomy (b : Batch) : Type 0 where
  pub items : b.items ≤ max_items
  pub total : b.total ≤ max_total
  pub accounts : b.accounts ≤ max_account

pub record Small (t : TransactionFields) : Type 0 where
  pub amount : t.amount ≤ 1000000000000000000
  pub payer : t.payer ≤ 1000000000000000000
  pub beneficiary : t.beneficiary ≤ 1000000000000000000

-- the states of a run's loop, whatever state it began with: within the limits but for the line number, and but for totals that the batch just closed has brought above theirs
pub record Going (s : State) : Type 0 where
  pub limited : are_within s.totals ≡ true → Limited s
  pub totals : is_stage s.stage Closed ≡ false → are_within s.totals ≡ true

-- 24 for totals above their limits
unfoldable pub over_by : Totals → ℕ
over_by t = pick (are_within t) accepted beyond_limits

-- what stops a run before a line is looked at: 24, 11
unfoldable pub halt_at : State → ℕ
halt_at s = pick (within s) (pick (is_done s) after_trailer accepted) beyond_limits
