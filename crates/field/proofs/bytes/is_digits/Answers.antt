-- What bytes::is_digits ensures.
use Rattle.std.proofs.Common.{rules}
use Rattle.machine.specs.Lists.{is_digit}
use Rattle.field.proofs.bytes.is_digits.Goals as goal

pub returns : goal.returns
returns c = search (c.every.ensures is_digit, rules)
