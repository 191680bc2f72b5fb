-- What looked_up ensures and its loop keeps, by the laws of Telling.
use Rattle.telling.proofs.Telling.{lefts}
use Rattle.telling.proofs.looked_up.Goals as goal

pub returns-then-row-number : goal.returns-then-row-number
returns-then-row-number c = search lefts depth 2

pub loop-row-init : goal.loop-row-init
loop-row-init c = search lefts depth 2

pub loop-row-preserved : goal.loop-row-preserved
loop-row-preserved c = search lefts depth 2

pub returns : goal.returns
returns c = search lefts depth 2
