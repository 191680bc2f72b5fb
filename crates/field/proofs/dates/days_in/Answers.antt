-- What dates::days_in ensures.
use Rattle.std.proofs.Common.{rules}
use Rattle.machine.specs.Lists.{pick}
use Rattle.format.specs.Rules.{days_in}
use Rattle.field.proofs.dates.days_in.Goals as goal

pub returns-then-year-eq0 : goal.returns-then-year-eq0
unfolding days_in pick
returns-then-year-eq0 c = search rules

pub returns-else-year-eq0 : goal.returns-else-year-eq0
unfolding days_in pick
returns-else-year-eq0 c = search rules

pub returns-in-4 : goal.returns-in-4
unfolding days_in pick
returns-in-4 c = search rules

pub returns-in_default : goal.returns-in_default
unfolding days_in pick
returns-in_default c = search rules
