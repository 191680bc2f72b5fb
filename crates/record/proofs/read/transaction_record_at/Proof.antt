-- What read::transaction_record_at ensures, by the laws of Reading.
use borrow.Author.Rules.{rules}
use Rattle.record.proofs.Reading.{transaction_via}
use Rattle.record.proofs.read.transaction_record_at.Statement.{statement}
use Rattle.record.proofs.read.transaction_record_at.Tie as tie

pub transaction_record_at_spec : {M : Type 1} → statement M
transaction_record_at_spec =
    tie.close
    (tie.spec
    (λ c κs. search rules)  -- transaction-at-requires
    (λ c κs. search rules)  -- transaction-record-requires
    (λ c. search transaction_via depth 20 fits 10000)  -- returns
    )
