-- What read::transaction_at ensures, by the laws of Reading.
use borrow.Author.Rules.{rules}
use Rattle.record.proofs.Reading.{transaction_made}
use Rattle.record.proofs.read.transaction_at.Statement.{statement}
use Rattle.record.proofs.read.transaction_at.Tie as tie

pub transaction_at_spec : {M : Type 1} → statement M
transaction_at_spec =
    tie.close
    (tie.spec
    (λ c κs. search rules)  -- type-in-requires
    (λ c κs. search rules)  -- value-at-requires
    (λ c κs. search rules)  -- value-at-requires-2
    (λ c κs. search rules)  -- value-at-requires-3
    (λ c. search transaction_made depth 20 fits 10000)  -- returns
    )
