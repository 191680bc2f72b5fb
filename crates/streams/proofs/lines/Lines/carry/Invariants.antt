-- So many bytes of what is left stand at the front.
use Rattle.streams.proofs.Carrying.{Carrying}
use Rattle.streams.proofs.lines.Lines.carry.Given as goal

abbrev pub invariant-loop-i : goal.invariant-loop-i
invariant-loop-i l = Carrying l.self l.fn.buffer l.count l.buffer l.i
