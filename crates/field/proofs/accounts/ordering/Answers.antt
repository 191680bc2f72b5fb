use Rattle.field.proofs.Picks.{pick_yes, pick_no, by_call}
use Rattle.field.proofs.Results.{of_passed}
use Rattle.field.proofs.Elevens.{ten_digits_lem}
use Rattle.field.proofs.accounts.ordering.Goals as goal

pub is_ordering_account-requires : goal.is_ordering_account-requires
is_ordering_account-requires c = search (ten_digits_lem, c.in_ok-account.was)

pub returns-then-is_ordering_account : goal.returns-then-is_ordering_account
returns-then-is_ordering_account c = search (of_passed, pick_yes, by_call, c.in_ok-account.was) depth 3

pub returns : goal.returns
returns c = search (of_passed, pick_no, by_call, c.in_ok-account.was) depth 3
