-- What step::opened_item ensures, by the laws of Moves.
use borrow.Author.Rules.{rules}
use Rattle.reading.proofs.Moves.{item_made}
use Rattle.reading.proofs.step.opened_item.Statement.{statement}
use Rattle.reading.proofs.step.opened_item.Tie as tie

pub opened_item_spec : {M : Type 1} → statement M
opened_item_spec =
    tie.close
    (tie.spec
    (λ c κs. search rules)  -- is-unchecked-type-requires
    (λ c κs. search rules)  -- name-if-requires
    (λ c. search item_made depth 20 fits 10000)  -- returns
    )
