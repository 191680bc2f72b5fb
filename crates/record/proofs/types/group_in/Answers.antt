-- What types::group_in ensures, by the laws of field's Forms and field's Picks.
use Rattle.field.proofs.Forms.{same_part}
use Rattle.field.proofs.Picks.{pick_yes, pick_no}
use Rattle.record.proofs.types.group_in.Goals as goal

pub returns-then-is_same : goal.returns-then-is_same
returns-then-is_same c = search (pick_yes, same_part) depth 2

pub returns-else-is_same : goal.returns-else-is_same
returns-else-is_same c = search (pick_no, same_part) depth 2
