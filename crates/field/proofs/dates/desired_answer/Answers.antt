use Rattle.field.proofs.Days.{desired}
use Rattle.field.proofs.Picks.{pick_yes, pick_no}
use Rattle.field.proofs.Results.{no_passed}
use Rattle.field.proofs.dates.desired_answer.Goals as goal

pub returns-then-date-is_date : goal.returns-then-date-is_date
returns-then-date-is_date c = search (no_passed, pick_yes, desired, c.in_ok-date.was) depth 3

pub returns : goal.returns
returns c = search (no_passed, pick_no, desired, c.in_ok-date.was) depth 3
