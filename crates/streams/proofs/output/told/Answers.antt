-- What told answers, by the law of Telling.
use Rattle.streams.proofs.Telling.{written_so}
use Rattle.streams.proofs.output.told.Goals as goal

pub returns : goal.returns
returns c = search written_so
