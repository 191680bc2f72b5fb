-- What item::put_numbers ensures, by the laws of Handing.
use Rattle.clieop_c.proofs.Handing.{numbers_put}
use Rattle.clieop_c.proofs.item.put_numbers.Goals as goal

pub returns : goal.returns
returns c = search numbers_put depth 2
