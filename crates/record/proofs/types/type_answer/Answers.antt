use Rattle.field.proofs.Results.{forms}
use Rattle.record.proofs.types.type_answer.Goals as goal

pub returns-in_err-filled_answer : goal.returns-in_err-filled_answer
returns-in_err-filled_answer c = search (forms, c.in_err-filled_answer.was) depth 3

pub returns : goal.returns
returns c = search (forms, c.in_ok-filled_answer.was) depth 3
