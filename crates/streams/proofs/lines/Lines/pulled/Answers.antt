-- What is left stands at the front, whether it is read on or not.
use Rattle.streams.proofs.Taking.{pulled_ready, pulled_anew}
use Rattle.streams.proofs.lines.Lines.pulled.Goals as goal

pub returns-then-is_ready : goal.returns-then-is_ready
returns-then-is_ready c = search pulled_ready

pub returns : goal.returns
returns c = search pulled_anew
