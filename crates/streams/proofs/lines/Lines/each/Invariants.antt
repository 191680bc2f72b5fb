-- Before the first line nothing was taken; then the last one was.
use Rattle.format.specs.Cutting.{next_line}
use Rattle.streams.specs.Taking.{left_in}
use Rattle.streams.proofs.Turning.{TookSo}
use Rattle.streams.proofs.lines.Lines.each.Given as goal

abbrev pub invariant-loop-turn : goal.invariant-loop-turn
invariant-loop-turn g l = TookSo g.T.TakesLines.takes l.fn.turns l._turn (next_line (left_in l.lines l.buffer)) l.turns
