-- What kinds::is_city ensures, by the laws of record.
use borrow.Author.Rules.{rules}
use Rattle.record.specs.Kinds.{is_city}
use Rattle.machine.proofs.Tests.{either}
use Rattle.record.proofs.kinds.is_city.Statement.{statement}
use Rattle.record.proofs.kinds.is_city.Tie as tie

pub is_city_spec : {M : Type 1} → statement M
unfolding is_city
is_city_spec =
    tie.close
    (tie.spec
    (λ c κs. search rules)  -- begins-requires
    (λ c κs. search rules)  -- begins-requires-2
    (λ c. search either)  -- returns
    )
