-- What words ensures: its table is the definition's.
use Rattle.telling.specs.Words.{words_of}
use Rattle.telling.proofs.words.Goals as goal

pub returns : goal.returns
unfolding words_of
returns c = search c.looked_up.ensures depth 1
