-- What judge::is_limited ensures, by the laws of Limits.
use borrow.Author.Rules.{rules}
use Rattle.reading.proofs.Limits.{limited_of}
use Rattle.reading.proofs.judge.is_limited.Statement.{statement}
use Rattle.reading.proofs.judge.is_limited.Tie as tie

pub is_limited_spec : {M : Type 1} → statement M
is_limited_spec =
    tie.close
    (tie.spec
    (λ c. search rules)  -- cast-result
    (λ c κs. search rules)  -- are-within-requires
    (λ c. search limited_of depth 20 fits 10000)  -- returns
    )
