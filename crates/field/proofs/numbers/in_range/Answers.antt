-- What numbers::in_range ensures, by the laws of Results.
use Rattle.field.proofs.Picks.{pick_yes, pick_no}
use Rattle.field.proofs.Results.{tested}
use Rattle.field.proofs.numbers.in_range.Goals as goal

pub returns-then-low-value : goal.returns-then-low-value
returns-then-low-value c = search (tested, pick_yes) depth 2

pub returns : goal.returns
returns c = search (tested, pick_no) depth 2
