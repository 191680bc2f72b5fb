-- What is_within ensures, by the laws of Putting.
use Rattle.std.proofs.Common.{arith}
use Rattle.writer.proofs.Putting.{below_power, below_every}
use Rattle.writer.proofs.fields.is_within.Goals as goal

pub returns-in-Some : goal.returns-in-Some
returns-in-Some c = below_power c.args.n c.args.digits c.in-Some.ensures.1

pub returns-in-None : goal.returns-in-None
returns-in-None c = below_every c.args.n c.args.digits (omega arith) c.in-None.ensures
