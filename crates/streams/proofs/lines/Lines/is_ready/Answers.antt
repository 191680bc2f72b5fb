-- What is_ready answers, by the laws of Taking.
use Rattle.streams.proofs.Taking.{ready_by}
use Rattle.streams.proofs.lines.Lines.is_ready.Goals as goal

pub returns : goal.returns
returns c = search ready_by depth 4
