-- What totals::clieop_totals asks and ensures, by the laws of Packing.
use Rattle.clieop_c.proofs.Packing.{line_packs, check_totals}
use Rattle.clieop_c.proofs.totals.clieop_totals.Goals as goal

pub pack-requires : goal.pack-requires
pack-requires c = search line_packs depth 2

pub returns-clause-totals : goal.returns-clause-totals
returns-clause-totals c = search check_totals depth 2
