use Rattle.field.proofs.Elevens.{tens}
use Rattle.field.proofs.accounts.account_number.Goals as goal

pub returns-then-account-eq0 : goal.returns-then-account-eq0
returns-then-account-eq0 c = search (tens, c.in_ok-account.was) depth 4 fits 10000

pub returns : goal.returns
returns c = search (tens, c.in_ok-account.was) depth 4 fits 10000
