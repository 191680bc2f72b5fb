-- What bytes::is_same ensures: a fold over the pairs of bytes, where there are as many in both.
use Rattle.std.proofs.Common.{true, ◌&&◌, eqb, ◌∙◌, arith, rules}
use Rattle.std.proofs.lemmas.Iterator.{YieldsList-from_slice, YieldsList-from_zip}
use Rattle.std.proofs.lemmas.Iterator.Consumers.{fold_from_yields_List}
use Rattle.field.proofs.Slices.{fold_same, unlike_length}
use Rattle.field.proofs.bytes.is_same.Goals as goal

pub returns-then-a-b : goal.returns-then-a-b
returns-then-a-b c =
    fold_from_yields_List _ (λ r p. r && eqb p.0 p.1) _ _ c.fold.ensures.ran (YieldsList-from_zip (YieldsList-from_slice c.args.a.now (search rules)) (YieldsList-from_slice c.args.b.now (search rules)))
    (λ r p v f k. (search rules, search rules))
    ∙ fold_same true c.args.a.now c.args.b.now (omega arith)

pub returns-else-a-b : goal.returns-else-a-b
returns-else-a-b c = search unlike_length depth 2
