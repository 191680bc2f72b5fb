-- What Descriptions::with ensures, by the laws of Adding.
use Rattle.std.proofs.Common.{rules}
use Rattle.descriptions.proofs.Adding.{with_more, with_four}
use Rattle.descriptions.proofs.Descriptions.with.Goals as goal

pub returns-then-self-lt-PLACES : goal.returns-then-self-lt-PLACES
returns-then-self-lt-PLACES c = search (with_more, rules) depth 3

pub returns-else-self-lt-PLACES : goal.returns-else-self-lt-PLACES
returns-else-self-lt-PLACES c = search (with_four, rules) depth 3
