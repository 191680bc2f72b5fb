use Rattle.field.proofs.Results.{by_form}
use Rattle.field.proofs.texts.filler_answer.Goals as goal

pub returns : goal.returns
returns c = search by_form depth 2
