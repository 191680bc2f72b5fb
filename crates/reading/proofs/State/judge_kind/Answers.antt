use Rattle.reading.proofs.Judgements.{kinds, no_transaction}
use Rattle.reading.proofs.State.judge_kind.Goals as goal

pub returns-then-not-allows : goal.returns-then-not-allows
returns-then-not-allows c = search kinds depth 2

pub returns-then-eq : goal.returns-then-eq
returns-then-eq c = search kinds depth 2

pub returns : goal.returns
returns c = search kinds depth 2

pub judge_as-requires-clause-other : goal.judge_as-requires-clause-other
judge_as-requires-clause-other c = search no_transaction depth 2
