use Rattle.record.proofs.Reading.{value_or}
use Rattle.record.proofs.read.value_at.Goals as goal

pub returns : goal.returns
returns c = search value_or depth 1
