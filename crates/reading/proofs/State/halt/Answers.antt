use Rattle.reading.proofs.Limits.{halt_line, halt_other, halt_done, halt_closed}
use Rattle.reading.proofs.State.halt.Goals as goal

pub returns-then-self-gt-MAX_LINE : goal.returns-then-self-gt-MAX_LINE
returns-then-self-gt-MAX_LINE c = search halt_line depth 3

pub returns-in-Closed : goal.returns-in-Closed
returns-in-Closed c = search halt_closed depth 3

pub returns-in-Done : goal.returns-in-Done
returns-in-Done c = search halt_done depth 3

pub returns-in_default : goal.returns-in_default
returns-in_default c = search (halt_other, c.in_default.not-Closed, c.in_default.not-Done) depth 2
