-- What outcome answers, by the laws of Telling.
use Rattle.streams.proofs.Telling.{printed_whole, printed_unread, printed_failed}
use Rattle.streams.proofs.output.outcome.Goals as goal

pub returns-in-Ok : goal.returns-in-Ok
returns-in-Ok c = search printed_whole depth 2

pub returns-in-BrokenPipe : goal.returns-in-BrokenPipe
returns-in-BrokenPipe c = search printed_unread depth 2

pub returns-in_default : goal.returns-in_default
returns-in_default c = search printed_failed depth 2
