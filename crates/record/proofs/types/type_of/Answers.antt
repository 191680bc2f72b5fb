use Rattle.format.specs.Rules.{type_of}
use Rattle.field.proofs.Picks.{pick_no, by_call}
use Rattle.record.proofs.types.type_of.Goals as goal

pub returns : goal.returns
unfolding type_of
returns c = search (pick_no, by_call) depth 8
