-- What clieop_check asks and ensures, by the laws of Packing.
use Rattle.clieop_c.proofs.Packing.{line_packs}
use Rattle.clieop_c.proofs.clieop_check.Goals as goal

pub pack-requires : goal.pack-requires
pack-requires c = search line_packs depth 2
