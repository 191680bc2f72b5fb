-- What bytes::is_printable ensures.
use Rattle.std.proofs.Common.{rules}
use Rattle.format.specs.Fields.{printable}
use Rattle.field.proofs.bytes.is_printable.Goals as goal

pub returns : goal.returns
returns c = search (c.every.ensures printable, rules)
