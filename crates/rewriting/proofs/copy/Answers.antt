-- What copy ensures and its loop keeps, by the laws of Copying.
use Rattle.std.proofs.Common.{rules}
use Rattle.rewriting.proofs.Copying.{copy_none, copy_room, copy_more, copy_all}
use Rattle.rewriting.proofs.copy.Goals as goal

pub loop-line-init : goal.loop-line-init
loop-line-init c = search (copy_none, rules) depth 3

pub put_line-at-requires : goal.put_line-at-requires
put_line-at-requires c = copy_room c.loop-line.invariant _ c.in-Some.ensures.steps

pub loop-line-preserved : goal.loop-line-preserved
loop-line-preserved c = copy_more c.loop-line.invariant _ c.in-Some.ensures.steps c.put_line-at.ensures.next c.put_line-at.ensures.bytes

pub returns : goal.returns
returns c = copy_all c.loop-line.invariant c.in-None.ensures.steps.0
