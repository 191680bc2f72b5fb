-- What kinds::is_header ensures, by the laws of record.
use borrow.Author.Rules.{rules}
use Rattle.record.specs.Kinds.{is_header}
use Rattle.machine.proofs.Tests.{either}
use Rattle.record.proofs.kinds.is_header.Statement.{statement}
use Rattle.record.proofs.kinds.is_header.Tie as tie

pub is_header_spec : {M : Type 1} → statement M
unfolding is_header
is_header_spec =
    tie.close
    (tie.spec
    (λ c κs. search rules)  -- begins-requires
    (λ c κs. search rules)  -- begins-requires-2
    (λ c. search either)  -- returns
    )
