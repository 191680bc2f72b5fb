-- What State::closed ensures, by the laws of Moves.
use borrow.Author.Rules.{rules}
use Rattle.reading.proofs.Moves.{onward_via}
use Rattle.reading.proofs.State.closed.Statement.{statement}
use Rattle.reading.proofs.State.closed.Tie as tie

pub closed_spec : {M : Type 1} → statement M
closed_spec =
    tie.close
    (tie.spec
    (λ c κs. search rules)  -- after-header-requires
    (λ c κs. search rules)  -- with-batch-requires
    (λ c κs. search rules)  -- empty-requires
    (λ c κs. search rules)  -- no-item-requires
    (λ c κs. search rules)  -- onward-requires
    (λ c. search onward_via depth 20 fits 10000)  -- returns
    )
