-- What read::batch_header_at ensures, by the laws of Reading.
use borrow.Author.Rules.{rules}
use Rattle.record.proofs.Reading.{header_made}
use Rattle.record.proofs.read.batch_header_at.Statement.{statement}
use Rattle.record.proofs.read.batch_header_at.Tie as tie

pub batch_header_at_spec : {M : Type 1} → statement M
batch_header_at_spec =
    tie.close
    (tie.spec
    (λ c κs. search rules)  -- group-in-requires
    (λ c κs. search rules)  -- value-at-requires
    (λ c κs. search rules)  -- value-at-requires-2
    (λ c. search header_made depth 20 fits 10000)  -- returns
    )
