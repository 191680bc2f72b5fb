-- So many bytes of the text stand.
use Rattle.field.proofs.Putting.{Putting}
use Rattle.field.proofs.bytes.copy.Given as goal

abbrev pub invariant-loop-i : goal.invariant-loop-i
invariant-loop-i l = Putting l.fn.room l.text l.room l.at l.i
