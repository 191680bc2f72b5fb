-- What lent::put_line ensures, by the laws of Pasting.
use Rattle.page.proofs.Pasting.{line_put, line_left}
use Rattle.page.proofs.lent.put_line.Goals as goal

pub returns-then-has_room : goal.returns-then-has_room
returns-then-has_room c = search line_put depth 1

pub returns : goal.returns
returns c = search line_left depth 1
