use Rattle.field.proofs.Picks.{pick_yes, pick_no, by_call}
use Rattle.field.proofs.Results.{of_passed}
use Rattle.field.proofs.Elevens.{ten_digits_lem, is_own, is_other}
use Rattle.field.proofs.accounts.party.Goals as goal

pub is_account-requires : goal.is_account-requires
is_account-requires c = search (ten_digits_lem, c.in_ok-account.was)

pub returns-then-not-is_account : goal.returns-then-not-is_account
returns-then-not-is_account c = search (of_passed, pick_no, by_call, c.in_ok-account.was) depth 3

pub returns-then-mine : goal.returns-then-mine
returns-then-mine c = search (of_passed, pick_yes, by_call, is_own, c.in_ok-account.was) depth 3

pub returns : goal.returns
returns c = search (of_passed, pick_yes, by_call, is_other, c.in_ok-account.was) depth 3
