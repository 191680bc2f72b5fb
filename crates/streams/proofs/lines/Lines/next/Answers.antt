-- After the line that stands next, by the laws of Taking.
use Rattle.streams.proofs.Taking.{next_pulled}
use Rattle.streams.proofs.lines.Lines.next.Goals as goal

pub returns : goal.returns
returns c = search next_pulled
