use Rattle.record.proofs.ItemFaults.{too_many, too_much, within_maxima, above_at}
use Rattle.record.proofs.faults.item.maxima_fault.Goals as goal

pub returns-then-batch-ge-MAX_ITEMS : goal.returns-then-batch-ge-MAX_ITEMS
returns-then-batch-ge-MAX_ITEMS c = search (too_many, above_at) depth 2

pub returns-then-saturating_add-gt-MAX_TOTAL : goal.returns-then-saturating_add-gt-MAX_TOTAL
returns-then-saturating_add-gt-MAX_TOTAL c = search (too_much, above_at) depth 2

pub returns : goal.returns
returns c = search within_maxima depth 1
