-- What Found::texts ensures, by the laws of Answering.
use Rattle.items.proofs.Answering.{texts_via}
use Rattle.items.proofs.Found.texts.Goals as goal

pub returns : goal.returns
returns c = search texts_via depth 2
