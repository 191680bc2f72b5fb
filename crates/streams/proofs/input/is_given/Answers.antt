-- What is_given answers where there is no such argument, by the laws of Telling.
use Rattle.streams.proofs.Telling.{given_not}
use Rattle.streams.proofs.input.is_given.Goals as goal

pub returns-in-NotPresent : goal.returns-in-NotPresent
returns-in-NotPresent c = search given_not depth 2
