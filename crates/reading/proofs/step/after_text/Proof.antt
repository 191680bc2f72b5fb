-- What step::after_text_lem ensures, by the laws of record's Typing.
use borrow.Author.Rules.{rules}
use Rattle.reading.specs.Step.{after_text}
use Rattle.record.proofs.Typing.{of_case}
use Rattle.reading.proofs.step.after_text.Statement.{statement}
use Rattle.reading.proofs.step.after_text.Tie as tie

pub after_text_spec : {M : Type 1} → statement M
after_text_spec =
    tie.close
    (tie.spec
    (λ c. search rules)  -- enum-told
    (λ c. search rules)  -- enum-told-2
    (λ c. search rules)  -- enum-told-3
    (λ c. search rules)  -- enum-told-4
    (λ c. search (of_case after_text))  -- returns
    (λ c. search (of_case after_text))  -- returns-2
    (λ c. search (of_case after_text))  -- returns-3
    (λ c. search (of_case after_text))  -- returns-4
    )
