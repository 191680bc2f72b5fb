use Rattle.reading.proofs.Answers.{line_none, line_taken, line_refused, last_named, last_is}
use Rattle.reading.proofs.State.line.Goals as goal

pub refused_after-requires : goal.refused_after-requires
refused_after-requires c = search last_named depth 2

pub returns-in-Some : goal.returns-in-Some
returns-in-Some c = search (line_taken, last_is) depth 2

pub returns-in-None : goal.returns-in-None
returns-in-None c = search (line_none, last_is) depth 2

pub returns-in-Err : goal.returns-in-Err
returns-in-Err c = search line_refused depth 2
