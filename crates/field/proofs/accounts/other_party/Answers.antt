use Rattle.field.proofs.Elevens.{seven, seven_not}
use Rattle.field.proofs.Picks.{pick_yes, pick_no}
use Rattle.field.proofs.accounts.other_party.Goals as goal

pub returns-then-unchecked-is_seven_digits : goal.returns-then-unchecked-is_seven_digits
returns-then-unchecked-is_seven_digits c = search (pick_no, seven_not) depth 2

pub returns : goal.returns
returns c = search (pick_yes, seven) depth 2
