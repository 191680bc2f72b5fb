-- What arrival::arrival_answer ensures, by the laws of Arrivals.
use borrow.Author.Rules.{rules}
use Rattle.field.proofs.Arrivals.{arrivals}
use Rattle.field.proofs.arrival.arrival_answer.Statement.{statement}
use Rattle.field.proofs.arrival.arrival_answer.Tie as tie

pub arrival_answer_spec : {M : Type 1} → statement M
arrival_answer_spec =
    tie.close
    (tie.spec
    (λ c. search rules)  -- enum-told
    (λ c. search rules)  -- enum-known-arrival
    (λ c κs. search rules)  -- is-timely-requires
    (λ c. search arrivals)  -- returns
    (λ c. search arrivals)  -- returns-2
    (λ c. search arrivals)  -- returns-3
    )
