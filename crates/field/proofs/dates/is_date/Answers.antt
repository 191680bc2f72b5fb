-- What dates::is_date ensures.
use Rattle.std.proofs.Common.{rules}
use Rattle.format.specs.Rules.{is_date}
use Rattle.field.proofs.dates.is_date.Goals as goal

pub returns : goal.returns
unfolding is_date
returns c = search rules
