-- What lent::put_text ensures, by the laws of Pasting.
use Rattle.page.proofs.Pasting.{text_put, text_left}
use Rattle.page.proofs.lent.put_text.Goals as goal

pub returns-then-has_room : goal.returns-then-has_room
returns-then-has_room c = search text_put depth 1

pub returns : goal.returns
returns c = search text_left depth 1
