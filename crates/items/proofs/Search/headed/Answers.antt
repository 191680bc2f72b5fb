-- What Search::headed ensures, by the laws of Searching.
use Rattle.items.proofs.Searching.{headed_is}
use Rattle.items.proofs.Search.headed.Goals as goal

pub returns : goal.returns
returns c = search headed_is depth 2
