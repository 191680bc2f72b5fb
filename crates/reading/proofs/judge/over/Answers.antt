use Rattle.reading.proofs.Limits.{over_yes, over_no}
use Rattle.reading.proofs.judge.over.Goals as goal

pub returns-then-are_within : goal.returns-then-are_within
returns-then-are_within c = search over_yes depth 3

pub returns : goal.returns
returns c = search over_no depth 3
