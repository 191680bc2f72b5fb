-- What read::text_part ensures, by the laws of Reading.
use borrow.Author.Rules.{rules}
use Rattle.record.proofs.Reading.{part_via}
use Rattle.record.proofs.read.text_part.Statement.{statement}
use Rattle.record.proofs.read.text_part.Tie as tie

pub text_part_spec : {M : Type 1} → statement M
text_part_spec =
    tie.close
    (tie.spec
    (λ c. search rules)  -- enum-told
    (λ c. search rules)  -- enum-told-2
    (λ c. search rules)  -- enum-told-3
    (λ c. search rules)  -- enum-told-4
    (λ c. search rules)  -- enum-told-5
    (λ c. search rules)  -- enum-told-6
    (λ c. search rules)  -- enum-told-7
    (λ c. search rules)  -- enum-told-8
    (λ c. search rules)  -- enum-told-9
    (λ c. search rules)  -- enum-told-10
    (λ c. search rules)  -- enum-told-11
    (λ c. search rules)  -- enum-told-12
    (λ c. search rules)  -- enum-told-13
    (λ c. search rules)  -- enum-told-14
    (λ c. search part_via)  -- returns
    (λ c. search part_via)  -- returns-2
    (λ c. search part_via)  -- returns-3
    (λ c. search part_via)  -- returns-4
    (λ c. search part_via)  -- returns-5
    (λ c. search part_via)  -- returns-6
    (λ c. search part_via)  -- returns-7
    (λ c. search part_via)  -- returns-8
    (λ c. search part_via)  -- returns-9
    (λ c. search part_via)  -- returns-10
    (λ c. search part_via)  -- returns-11
    (λ c. search part_via)  -- returns-12
    (λ c. search part_via)  -- returns-13
    (λ c. search part_via)  -- returns-14
    )
