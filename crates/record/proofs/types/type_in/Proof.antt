-- What types::type_in ensures, by the laws of field's Numerics.
use borrow.Author.Rules.{rules}
use Rattle.format.specs.Rules.{type_of}
use Rattle.field.proofs.Numerics.{over}
use Rattle.record.proofs.types.type_in.Statement.{statement}
use Rattle.record.proofs.types.type_in.Tie as tie

pub type_in_spec : {M : Type 1} → statement M
type_in_spec =
    tie.close
    (tie.spec
    (λ c κs. search rules)  -- part-requires
    (λ c κs. search rules)  -- type-of-requires
    (λ c. search (over type_of))  -- returns
    )
