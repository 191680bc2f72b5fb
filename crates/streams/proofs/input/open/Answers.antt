-- The name is a part of the buffer.
use borrow.Author.Rules.{rules}
use Rattle.streams.proofs.Telling.{prefix_length, part_fits}
use Rattle.streams.proofs.input.open.Goals as goal

pub slice_bounds-named-end : goal.slice_bounds-named-end
slice_bounds-named-end c = search prefix_length depth 2

pub returns-in-Ok : goal.returns-in-Ok
returns-in-Ok c = search (part_fits, rules) depth 3
