-- What Search::lines ensures: the search after each line in turn.
use Rattle.std.proofs.Common.{ap, rules}
use Rattle.std.proofs.lemmas.Iterator.Consumers.{YieldsList-from_first, fold_from_yields_List}
use Rattle.format.specs.Cutting.{lines_in}
use Rattle.items.specs.Search.{after_line, after_lines}
use Rattle.items.proofs.Search.lines.Goals as goal

pub returns : goal.returns
unfolding after_lines
returns c =
    let lines = lines_in c.args.bytes.now in
    let given = YieldsList-from_first (λ x. x.now) (λ s. lines_in s.rest.now) lines (ap lines_in c.lines_in.ensures) in
    fold_from_yields_List _ after_line c.args.self c.fold.result c.fold.ensures.ran given (λ s line t q k. search rules depth 2)
