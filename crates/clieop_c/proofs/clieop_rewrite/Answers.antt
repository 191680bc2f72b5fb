-- What clieop_rewrite asks and ensures, by the laws of Writing.
use Rattle.clieop_c.proofs.Writing.{again_line, again_found, again_promised}
use Rattle.clieop_c.proofs.clieop_rewrite.Goals as goal

pub pack-requires : goal.pack-requires
pack-requires c = search again_line depth 2

pub returns-clause-found : goal.returns-clause-found
returns-clause-found c = search again_found depth 2

pub returns-clause-again : goal.returns-clause-again
returns-clause-again c = search again_promised depth 2
