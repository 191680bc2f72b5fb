-- What kinds::begins ensures, by the laws of record.
use borrow.Author.Rules.{rules}
use Rattle.record.proofs.Coding.{begins_with}
use Rattle.record.proofs.kinds.begins.Statement.{statement}
use Rattle.record.proofs.kinds.begins.Tie as tie

pub begins_spec : {M : Type 1} → statement M
begins_spec =
    tie.close
    (tie.spec
    (λ c κs. search rules)  -- part-requires
    (λ c κs. search rules)  -- code-text-requires
    (λ c. search rules)  -- slice-aggregate-is-same
    (λ c κs. search rules)  -- is-same-requires
    (λ c. search begins_with)  -- returns
    )
