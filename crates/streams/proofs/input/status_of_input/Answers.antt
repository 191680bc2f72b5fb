-- The program's status, or that of a file that was not opened, by the laws of Ending.
use Rattle.streams.proofs.Ending.{ends_so, ends_unopened}
use Rattle.streams.proofs.input.status_of_input.Goals as goal

pub returns-then-is_open : goal.returns-then-is_open
returns-then-is_open g c = search ends_so

pub returns : goal.returns
returns g c = search ends_unopened
