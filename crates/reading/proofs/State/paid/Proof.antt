-- What State::paid ensures, by the laws of Moves.
use borrow.Author.Rules.{rules}
use Rattle.reading.proofs.Moves.{onward_via}
use Rattle.reading.proofs.State.paid.Statement.{statement}
use Rattle.reading.proofs.State.paid.Tie as tie

pub paid_spec : {M : Type 1} → statement M
paid_spec =
    tie.close
    (tie.spec
    (λ c κs. search rules)  -- paid-batch-requires
    (λ c κs. search rules)  -- opened-item-requires
    (λ c κs. search rules)  -- onward-requires
    (λ c. search onward_via depth 20 fits 10000)  -- returns
    )
