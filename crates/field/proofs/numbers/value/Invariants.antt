-- What the loop of numbers::value keeps.
use Rattle.field.proofs.Numerics.{Reading}
use Rattle.field.proofs.numbers.value.Given as goal

abbrev pub invariant-loop-c : goal.invariant-loop-c
invariant-loop-c l = Reading l.s l.v l.c-index
