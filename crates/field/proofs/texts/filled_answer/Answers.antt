use Rattle.field.proofs.Results.{by_form}
use Rattle.field.proofs.Picks.{both_by}
use Rattle.field.proofs.texts.filled_answer.Goals as goal

pub returns : goal.returns
returns c = search (by_form, both_by) depth 2
