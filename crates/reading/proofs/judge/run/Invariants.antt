use lib.ListN.{length}
use Prim.Native.Nat.{◌-◌}
use Rattle.reading.specs.Bounds.{Going}
use Rattle.reading.specs.Step.{judged_read}
use Rattle.reading.proofs.Running.{Running}
use Rattle.reading.proofs.judge.run.Given as goal

abbrev pub invariant-loop-at : goal.invariant-loop-at
invariant-loop-at l = Going l.judged.next × Running l.initial.judged.next l.bytes (judged_read l.judged) l.at

abbrev pub decreases-loop-at : goal.decreases-loop-at
decreases-loop-at l = length l.bytes - l.at
