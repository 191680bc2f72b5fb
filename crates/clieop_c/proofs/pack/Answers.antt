-- What pack ensures, by the laws of Packing.
use Rattle.clieop_c.proofs.Packing.{packs, packs_read}
use Rattle.clieop_c.proofs.pack.Goals as goal

pub returns-clause-number : goal.returns-clause-number
returns-clause-number c = search packs depth 2

pub returns-clause-read : goal.returns-clause-read
returns-clause-read c = search packs_read depth 2
