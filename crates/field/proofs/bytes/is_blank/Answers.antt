-- What bytes::is_blank ensures.
use Rattle.std.proofs.Common.{rules}
use Rattle.machine.specs.Lists.{is_space}
use Rattle.field.proofs.bytes.is_blank.Goals as goal

pub returns : goal.returns
returns c = search (c.every.ensures is_space, rules)
