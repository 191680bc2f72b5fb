use borrow.Author.Rules.{rules}
use Rattle.reading.proofs.Answers.{last_is}
use Rattle.reading.proofs.Judgements.{going_after}
use Rattle.reading.proofs.Running.{run_all, loop_refused, loop_none, loop_inside, loop_less, loop_more}
use Rattle.reading.proofs.judge.run.Goals as goal

pub overflow_add-at : goal.overflow_add-at
overflow_add-at c =
    let inside = loop_inside c.loop-at.invariant.1 c.loop-at-test.true _ c.judge_first-judged.ensures (last_is c.in-Ok.is c.in-Some.is) in
    search rules

pub loop-at-smaller : goal.loop-at-smaller
loop-at-smaller c = search (loop_less, last_is) depth 3

pub loop-at-preserved : goal.loop-at-preserved
loop-at-preserved c = (going_after _ _ c.judge_first-judged.ensures c.loop-at.invariant.0, search (loop_more, last_is) depth 3)

pub returns-in-None : goal.returns-in-None
returns-in-None c = search (loop_none, last_is) depth 3

pub returns-in-Err : goal.returns-in-Err
returns-in-Err c = search loop_refused depth 2

pub returns : goal.returns
returns c = search run_all depth 2
