use Rattle.reading.proofs.Answers.{named_fits, named_none, named_next}
use Rattle.reading.proofs.line.refused_after.Goals as goal

pub returns-then-eq : goal.returns-then-eq
returns-then-eq c = search named_none depth 2

pub overflow_add-line : goal.overflow_add-line
overflow_add-line c = search named_fits depth 2

pub returns : goal.returns
returns c = search named_next depth 2
