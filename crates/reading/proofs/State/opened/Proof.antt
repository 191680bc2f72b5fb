-- What State::opened ensures, by the laws of Moves.
use borrow.Author.Rules.{rules}
use Rattle.reading.proofs.Moves.{header_via, onward_via}
use Rattle.reading.proofs.State.opened.Statement.{statement}
use Rattle.reading.proofs.State.opened.Tie as tie

pub opened_spec : {M : Type 1} → statement M
opened_spec =
    tie.close
    (tie.spec
    (λ c κs. search rules)  -- group-in-requires
    (λ c κs. search rules)  -- value-at-requires
    (λ c κs. search rules)  -- after-header-requires
    (λ c κs. search rules)  -- opened-batch-requires
    (λ c κs. search rules)  -- no-item-requires
    (λ c κs. search rules)  -- onward-requires
    (λ c. search (header_via, onward_via) depth 20 fits 10000)  -- returns
    )
