use Rattle.reading.proofs.Answers.{all_named, all_refused, all_taken}
use Rattle.reading.proofs.State.rest.Goals as goal

pub refused_after-requires : goal.refused_after-requires
refused_after-requires c = search all_named depth 2

pub returns-in-Err : goal.returns-in-Err
returns-in-Err c = search all_refused depth 2

pub returns : goal.returns
returns c = search all_taken depth 2
