use Rattle.reading.proofs.Judgements.{cut_done, cut_stop, other_taken, other_wrong}
use Rattle.reading.proofs.State.judge_as.Goals as goal

pub returns-in-Ok : goal.returns-in-Ok
returns-in-Ok c = search (cut_done, other_taken) depth 3

pub returns-in-Err : goal.returns-in-Err
returns-in-Err c = search (cut_stop, other_wrong) depth 3
