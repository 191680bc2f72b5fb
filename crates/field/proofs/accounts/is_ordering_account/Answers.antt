-- What accounts::is_ordering_account ensures, by the laws of Elevens.
use Rattle.field.proofs.Elevens.{ordering_yes, ordering_no}
use Rattle.field.proofs.accounts.is_ordering_account.Goals as goal

pub returns-then-v-ge-NINE_DIGITS : goal.returns-then-v-ge-NINE_DIGITS
returns-then-v-ge-NINE_DIGITS c = search ordering_yes depth 2

pub returns-else-v-ge-NINE_DIGITS : goal.returns-else-v-ge-NINE_DIGITS
returns-else-v-ge-NINE_DIGITS c = search ordering_no depth 2
