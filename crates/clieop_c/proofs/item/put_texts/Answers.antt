-- What item::put_texts ensures, by the laws of Handing.
use Rattle.clieop_c.proofs.Handing.{texts_put, put_found}
use Rattle.clieop_c.proofs.item.put_texts.Goals as goal

pub returns-clause-texts : goal.returns-clause-texts
returns-clause-texts c = search texts_put depth 2

pub returns-clause-found : goal.returns-clause-found
returns-clause-found c = search put_found depth 2
