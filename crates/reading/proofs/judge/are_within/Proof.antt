-- What judge::are_within ensures.
use borrow.Author.Rules.{rules}
use Rattle.reading.specs.State.{are_within}
use Rattle.reading.proofs.judge.are_within.Statement.{statement}
use Rattle.reading.proofs.judge.are_within.Tie as tie

pub are_within_spec : {M : Type 1} → statement M
unfolding are_within
are_within_spec =
    tie.close
    (tie.spec
    (λ c. search rules)  -- returns
    )
