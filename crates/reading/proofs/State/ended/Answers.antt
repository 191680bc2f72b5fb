-- What State::ended ensures, by the laws of field's Picks and Limits.
use borrow.Author.Rules.{rules}
use Rattle.field.proofs.Picks.{pick_yes, pick_no, by_call}
use Rattle.reading.proofs.Limits.{line_fits}
use Rattle.reading.specs.Step.{ended_at}
use Rattle.reading.proofs.State.ended.Goals as goal

pub returns-then-is_done : goal.returns-then-is_done
unfolding ended_at
returns-then-is_done c = search (pick_yes, by_call, rules) depth 4

pub overflow_add-line : goal.overflow_add-line
overflow_add-line c = search (line_fits, rules) depth 4

pub returns-then-is_within : goal.returns-then-is_within
unfolding ended_at
returns-then-is_within c = search (pick_yes, pick_no, by_call, rules) depth 4

pub returns : goal.returns
unfolding ended_at
returns c = search (pick_no, by_call, rules) depth 3
