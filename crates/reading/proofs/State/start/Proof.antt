-- What State::start ensures, by the laws of Orders.
use borrow.Author.Rules.{rules}
use Rattle.reading.proofs.Orders.{started}
use Rattle.reading.proofs.State.start.Statement.{statement}
use Rattle.reading.proofs.State.start.Tie as tie

pub start_spec : {M : Type 1} → statement M
start_spec =
    tie.close
    (tie.spec
    (λ c κs. search rules)  -- nothing-requires
    (λ c κs. search rules)  -- empty-requires
    (λ c κs. search rules)  -- none-requires
    (λ c κs. search rules)  -- no-item-requires
    (λ c. search started depth 20 fits 10000)  -- returns
    )
