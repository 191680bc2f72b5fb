-- What the next line of some bytes is, and what is left after it, by the laws of FirstLine and of format's Cutting.
use Rattle.std.proofs.Common.{◌<◌, length, rules}
use Rattle.format.proofs.Cutting.{lines_none, line_inside}
use Rattle.field.proofs.FirstLine.{first_line}
use Rattle.field.proofs.lines.LinesIterator.next.Goals as goal

pub returns-then-is_empty-clause-steps : goal.returns-then-is_empty-clause-steps
returns-then-is_empty-clause-steps c =
    let none = lines_none c.args.self.now.rest.now 0 (search rules) in
    (none, none)

pub returns-clause-steps : goal.returns-clause-steps
returns-clause-steps c =
    let some : 0 < length c.args.self.now.rest.now = search rules in
    search first_line depth 2

pub returns-clause-goes : goal.returns-clause-goes
returns-clause-goes c =
    let inside = line_inside c.args.self.now.rest.now 0 (search rules) c.next_line-line.ensures in
    search rules
