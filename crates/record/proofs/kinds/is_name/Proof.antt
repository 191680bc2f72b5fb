-- What kinds::is_name ensures, by the laws of record.
use borrow.Author.Rules.{rules}
use Rattle.record.specs.Kinds.{is_name}
use Rattle.machine.proofs.Tests.{either}
use Rattle.record.proofs.kinds.is_name.Statement.{statement}
use Rattle.record.proofs.kinds.is_name.Tie as tie

pub is_name_spec : {M : Type 1} → statement M
unfolding is_name
is_name_spec =
    tie.close
    (tie.spec
    (λ c κs. search rules)  -- begins-requires
    (λ c κs. search rules)  -- begins-requires-2
    (λ c. search either)  -- returns
    )
