-- What the loop of looked_up keeps: the rows that are left have what the whole table has.
use Rattle.telling.proofs.Telling.{Left}
use Rattle.telling.proofs.looked_up.Given as goal

abbrev pub invariant-loop-row : goal.invariant-loop-row
invariant-loop-row l = Left l.table l.number l.row-index
