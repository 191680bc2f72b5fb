use Rattle.reading.proofs.Orders.{texts_debits, no_names}
use Rattle.reading.proofs.order.texts_by.Goals as goal

pub returns-in-Debits : goal.returns-in-Debits
returns-in-Debits c = search (texts_debits, no_names) depth 2
