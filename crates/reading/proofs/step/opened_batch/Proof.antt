-- What step::opened_batch ensures, by the laws of Moves.
use borrow.Author.Rules.{rules}
use Rattle.reading.proofs.Moves.{opened_made}
use Rattle.reading.proofs.step.opened_batch.Statement.{statement}
use Rattle.reading.proofs.step.opened_batch.Tie as tie

pub opened_batch_spec : {M : Type 1} → statement M
opened_batch_spec =
    tie.close
    (tie.spec
    (λ c κs. search rules)  -- value-at-requires
    (λ c. search opened_made depth 20 fits 10000)  -- returns
    )
