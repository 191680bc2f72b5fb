use Rattle.reading.specs.Check.{judged_lines}
use Rattle.field.proofs.Picks.{pick_yes, pick_no, by_call}
use Rattle.reading.proofs.Limits.{within_going}
use Rattle.reading.proofs.State.lines.Goals as goal

pub run-requires : goal.run-requires
unfolding judged_lines
run-requires c = search within_going

pub returns-then-is_within : goal.returns-then-is_within
unfolding judged_lines
returns-then-is_within c = search (pick_yes, by_call) depth 3

pub returns-else-is_within : goal.returns-else-is_within
unfolding judged_lines
returns-else-is_within c = search (pick_no, by_call) depth 3
