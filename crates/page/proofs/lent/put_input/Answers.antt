-- What lent::put_input ensures, by the laws of field's Picks.
use Rattle.field.proofs.Picks.{pick_yes, pick_no}
use Rattle.page.proofs.lent.put_input.Goals as goal

pub returns-then-several : goal.returns-then-several
returns-then-several c = search pick_yes depth 1

pub returns : goal.returns
returns c = search pick_no depth 1
