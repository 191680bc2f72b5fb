-- What put_number ensures, by the laws of Packing.
use Rattle.clieop_c.proofs.Packing.{number_handed, number_kept}
use Rattle.clieop_c.proofs.put_number.Goals as goal

pub returns-then-a-eq0 : goal.returns-then-a-eq0
returns-then-a-eq0 c = search number_handed depth 2

pub returns-else-a-eq0 : goal.returns-else-a-eq0
returns-else-a-eq0 c = search number_kept depth 2
