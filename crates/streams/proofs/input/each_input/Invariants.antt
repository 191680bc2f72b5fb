-- The status is one of those so far.
use Rattle.streams.specs.Status.{EndsAs}
use Rattle.streams.proofs.input.each_input.Given as goal

abbrev pub invariant-loop-i : goal.invariant-loop-i
invariant-loop-i g l = EndsAs g.P.Program.ends l.status
