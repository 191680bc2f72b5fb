-- What read::transaction_record ensures, by the laws of Reading.
use borrow.Author.Rules.{rules}
use Rattle.record.proofs.Reading.{transaction_typed}
use Rattle.record.proofs.read.transaction_record.Statement.{statement}
use Rattle.record.proofs.read.transaction_record.Tie as tie

pub transaction_record_spec : {M : Type 1} → statement M
transaction_record_spec =
    tie.close
    (tie.spec
    (λ c. search rules)  -- enum-known-t
    (λ c. search rules)  -- enum-told
    (λ c. search transaction_typed depth 20 fits 10000)  -- returns
    (λ c. search rules)  -- returns-2
    )
