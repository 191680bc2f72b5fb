-- What the loop of numbers::spelt keeps.
use Rattle.field.proofs.Spelling.{Digiting}
use Rattle.field.proofs.numbers.spelt.Given as goal

abbrev pub invariant-loop-i : goal.invariant-loop-i
invariant-loop-i l = Digiting l.n l.digits l.rest l.i
