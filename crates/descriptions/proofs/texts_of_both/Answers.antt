-- What texts_of_both ensures, by the laws of Merging.
use Rattle.descriptions.proofs.Merging.{both_put}
use Rattle.descriptions.proofs.texts_of_both.Goals as goal

pub returns : goal.returns
returns c = both_put c.args.before.now c.args.after.now c.requires c.put.ensures c.put-2.ensures
