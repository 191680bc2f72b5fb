-- What read::text_in ensures, by the laws of Reading.
use Rattle.record.proofs.Reading.{text_put}
use Rattle.record.proofs.read.text_in.Goals as goal

pub returns : goal.returns
returns c = search text_put depth 2
