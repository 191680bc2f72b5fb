-- One line more, by the laws of Turning.
use Rattle.streams.proofs.Turning.{took_none, took_more, took_again, took_some}
use Rattle.streams.proofs.lines.Lines.each.Goals as goal

pub loop-turn-init : goal.loop-turn-init
loop-turn-init g c = search took_none

pub loop-turn-preserved : goal.loop-turn-preserved
loop-turn-preserved g c = search took_again

pub returns-then-not-take : goal.returns-then-not-take
returns-then-not-take g c = search took_more

pub returns : goal.returns
returns g c = search took_some
