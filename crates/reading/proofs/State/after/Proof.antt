-- What State::after ensures, by the laws of Moves.
use borrow.Author.Rules.{rules}
use Rattle.reading.proofs.Moves.{next_via, no_other}
use Rattle.reading.proofs.State.after.Statement.{statement}
use Rattle.reading.proofs.State.after.Tie as tie

pub after_spec : {M : Type 1} → statement M
after_spec =
    tie.close
    (tie.spec
    (λ c. search rules)  -- enum-told
    (λ c κs. search rules)  -- moved-requires
    (λ c. search rules)  -- enum-told-2
    (λ c κs. search rules)  -- opened-requires
    (λ c. search rules)  -- enum-told-3
    (λ c κs. search rules)  -- opened-requires-2
    (λ c. search rules)  -- enum-told-4
    (λ c κs. search rules)  -- with-fixed-requires
    (λ c. search rules)  -- enum-told-5
    (λ c κs. search rules)  -- moved-requires-2
    (λ c. search rules)  -- enum-told-6
    (λ c. search rules)  -- enum-told-7
    (λ c κs. search rules)  -- named-requires
    (λ c. search rules)  -- enum-told-8
    (λ c κs. search rules)  -- named-requires-2
    (λ c. search rules)  -- enum-told-9
    (λ c κs. search rules)  -- texted-requires
    (λ c. search rules)  -- enum-told-10
    (λ c. search rules)  -- add-texted
    (λ c κs. search rules)  -- texted-requires-2
    (λ c. search rules)  -- enum-told-11
    (λ c κs. search rules)  -- named-requires-3
    (λ c. search rules)  -- enum-told-12
    (λ c κs. search rules)  -- named-requires-4
    (λ c. search rules)  -- enum-told-13
    (λ c κs. search rules)  -- closed-requires
    (λ c. search rules)  -- enum-told-14
    (λ c κs. search rules)  -- moved-requires-3
    (λ c. search next_via)  -- returns
    (λ c. search next_via)  -- returns-2
    (λ c. search next_via)  -- returns-3
    (λ c. search next_via)  -- returns-4
    (λ c. search next_via)  -- returns-5
    (λ c. search no_other)  -- returns-6
    (λ c. search next_via)  -- returns-7
    (λ c. search next_via)  -- returns-8
    (λ c. search next_via)  -- returns-9
    (λ c. search next_via)  -- returns-10
    (λ c. search next_via)  -- returns-11
    (λ c. search next_via)  -- returns-12
    (λ c. search next_via)  -- returns-13
    (λ c. search next_via)  -- returns-14
    )
