-- What State::texted ensures, by the laws of Moves.
use borrow.Author.Rules.{rules}
use Rattle.reading.proofs.Moves.{texted_via}
use Rattle.reading.proofs.State.texted.Statement.{statement}
use Rattle.reading.proofs.State.texted.Tie as tie

pub texted_spec : {M : Type 1} → statement M
texted_spec =
    tie.close
    (tie.spec
    (λ c κs. search rules)  -- after-text-requires
    (λ c κs. search rules)  -- with-item-requires
    (λ c. search texted_via depth 20 fits 10000)  -- returns
    )
