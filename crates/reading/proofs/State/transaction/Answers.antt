use Rattle.reading.proofs.Judgements.{cut_done, cut_stop, fields_paid, fields_small, fields_wrong, maxima_wrong}
use Rattle.reading.proofs.State.transaction.Goals as goal

pub paid-requires-clause-transaction : goal.paid-requires-clause-transaction
paid-requires-clause-transaction c = fields_small c.args.self c.args.line.now _ c.transaction_in.ensures c.in-Ok.is

pub returns-in-Ok-maxima_fault : goal.returns-in-Ok-maxima_fault
returns-in-Ok-maxima_fault c = search (cut_done, fields_paid) depth 3

pub returns-in-Err-maxima_fault : goal.returns-in-Err-maxima_fault
returns-in-Err-maxima_fault c = search (cut_stop, maxima_wrong) depth 3

pub returns-in-Err : goal.returns-in-Err
returns-in-Err c = search (cut_stop, fields_wrong) depth 3
