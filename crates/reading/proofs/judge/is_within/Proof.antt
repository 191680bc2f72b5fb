-- What judge::is_within ensures, by the laws of Limits.
use borrow.Author.Rules.{rules}
use Rattle.reading.proofs.Limits.{within_of}
use Rattle.reading.proofs.judge.is_within.Statement.{statement}
use Rattle.reading.proofs.judge.is_within.Tie as tie

pub is_within_spec : {M : Type 1} → statement M
is_within_spec =
    tie.close
    (tie.spec
    (λ c κs. search rules)  -- is-limited-requires
    (λ c. search within_of depth 20 fits 10000)  -- returns
    )
