-- What bytes::every ensures: a fold over the bytes, by what the test answers of each.
use Rattle.std.proofs.Common.{◌≡◌, ℕ, Bool, true, List, [], ◌∷◌, ◌&&◌, ◌∙◌, sym, rules}
use mathlib.Core.Bool.{and-true, and_assoc}
use Rattle.std.specs.List.{fold}
use Rattle.std.proofs.lemmas.Iterator.{YieldsList-from_slice}
use Rattle.std.proofs.lemmas.Iterator.Consumers.{fold_from_yields_List}
use Rattle.machine.specs.Lists.{all}
use Rattle.field.proofs.bytes.every.Goals as goal

fold_all : (p : ℕ → Bool) (ok : Bool) (s : List ℕ) → fold (λ r b. r && p b) ok s ≡ (ok && all p s)
fold_all p ok [] = sym (and-true ok)
fold_all p ok (b ∷ s) = fold_all p (ok && p b) s ∙ and_assoc ok (p b) (all p s)

pub returns : goal.returns
returns g c = λ p answers.
    fold_from_yields_List _ (λ r b. r && p b) _ _ c.fold.ensures.ran (YieldsList-from_slice c.args.s.now (search rules)) (λ r b v f k. (search rules, search (rules, answers)))
    ∙ fold_all p true c.args.s.now
