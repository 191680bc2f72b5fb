-- What Line::coded ensures, by the laws of Building.
use Rattle.writer.proofs.Building.{code_put}
use Rattle.writer.proofs.fields.Line.coded.Goals as goal

pub returns : goal.returns
returns c = search code_put depth 2
