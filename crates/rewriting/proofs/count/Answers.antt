-- What count ensures: of the lines of a file those that its test lets through, counted.
use Rattle.std.proofs.Common.{ap, not, rules, ◌∙◌}
use Rattle.std.proofs.lemmas.Iterator.Consumers.{YieldsList-from_first, YieldsList-from_filter, YieldsList-at, count_from_yields_List}
use Rattle.std.proofs.lemmas.List.Sums.{length-filter}
use Rattle.format.specs.Cutting.{lines_in}
use Rattle.record.specs.Kinds.{is_city}
use Rattle.rewriting.proofs.count.Goals as goal

pub returns : goal.returns
returns c =
    let lines = lines_in c.args.file.now in
    let given = YieldsList-at c.filter.ensures.source (YieldsList-from_first (λ x. x.now) (λ s. lines_in s.rest.now) lines (ap lines_in c.lines_in.ensures)) in
    let kept = YieldsList-from_filter _ (λ line. not (is_city line)) given c.filter.ensures.closure (λ x b q k. search rules depth 2) in
    count_from_yields_List c.filter.result c.count.result c.count.ensures.ran kept ∙ length-filter (λ line. not (is_city line)) lines
