-- What kinds::code_of ensures, by the laws of field's Numerics.
use borrow.Author.Rules.{rules}
use Rattle.record.specs.Kinds.{code_of}
use Rattle.field.proofs.Numerics.{over}
use Rattle.record.proofs.kinds.code_of.Statement.{statement}
use Rattle.record.proofs.kinds.code_of.Tie as tie

pub code_of_spec : {M : Type 1} → statement M
code_of_spec =
    tie.close
    (tie.spec
    (λ c κs. search rules)  -- part-requires
    (λ c κs. search rules)  -- kind-in-requires
    (λ c. search (over code_of))  -- returns
    )
