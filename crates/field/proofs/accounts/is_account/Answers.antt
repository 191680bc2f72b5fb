-- What accounts::is_account ensures.
use Rattle.std.proofs.Common.{rules}
use Rattle.format.specs.Rules.{is_account}
use Rattle.field.proofs.accounts.is_account.Goals as goal

pub returns-then-is_ordering_account : goal.returns-then-is_ordering_account
unfolding is_account
returns-then-is_ordering_account c = search rules

pub returns : goal.returns
unfolding is_account
returns c = search rules
