use Rattle.reading.proofs.Judgements.{halt_stops, no_fault, going_line, going_limited, first_judged, first_broken}
use Rattle.reading.proofs.State.judge_first.Goals as goal

pub returns-in-Err : goal.returns-in-Err
returns-in-Err c = search halt_stops depth 2

pub returns-then-not-is_open : goal.returns-then-not-is_open
returns-then-not-is_open c = search (first_broken, no_fault) depth 3

pub judge-requires-clause-line : goal.judge-requires-clause-line
judge-requires-clause-line c = search (going_line, no_fault) depth 3

pub judge-requires-clause-limited : goal.judge-requires-clause-limited
judge-requires-clause-limited c = search (going_limited, no_fault) depth 3

pub returns : goal.returns
returns c = search (first_judged, no_fault) depth 3
