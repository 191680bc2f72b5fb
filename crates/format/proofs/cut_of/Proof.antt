-- What cut_of ensures, by the laws of Cutting.
use borrow.Author.Rules.{rules}
use Rattle.format.proofs.Cutting.{line_cuts}
use Rattle.format.proofs.cut_of.Statement.{statement}
use Rattle.format.proofs.cut_of.Tie as tie

pub cut_of_spec : {M : Type 1} → statement M
cut_of_spec =
    tie.close
    (tie.spec
    (λ c κs. search rules)  -- broken-requires
    (λ c. search line_cuts)  -- returns
    (λ c. search rules)  -- shared-slice-read-t5
    (λ c. search line_cuts)  -- returns-2
    (λ c κs. search rules)  -- broken-requires-2
    (λ c. search line_cuts)  -- returns-3
    (λ c. search rules)  -- shared-slice-read-t7
    (λ c. search rules)  -- shared-slice-read-t8
    (λ c. search line_cuts)  -- returns-4
    (λ c κs. search rules)  -- broken-requires-3
    (λ c. search line_cuts)  -- returns-5
    )
