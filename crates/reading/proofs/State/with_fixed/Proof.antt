-- What State::with_fixed ensures, by the laws of Moves.
use borrow.Author.Rules.{rules}
use Rattle.reading.proofs.Moves.{onward_via}
use Rattle.reading.proofs.State.with_fixed.Statement.{statement}
use Rattle.reading.proofs.State.with_fixed.Tie as tie

pub with_fixed_spec : {M : Type 1} → statement M
with_fixed_spec =
    tie.close
    (tie.spec
    (λ c κs. search rules)  -- fixed-one-requires
    (λ c κs. search rules)  -- onward-requires
    (λ c. search onward_via depth 20 fits 10000)  -- returns
    )
