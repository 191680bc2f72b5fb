-- What item::clieop_item asks and ensures, by the laws of Handing.
use Rattle.clieop_c.proofs.Handing.{whole_line, whole_found, whole_promised}
use Rattle.clieop_c.proofs.item.clieop_item.Goals as goal

pub pack-requires : goal.pack-requires
pack-requires c = search whole_line depth 2

pub returns-clause-found : goal.returns-clause-found
returns-clause-found c = search whole_found depth 2

pub returns-clause-meaning : goal.returns-clause-meaning
returns-clause-meaning c = search whole_promised depth 2
