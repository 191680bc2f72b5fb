-- What check ensures, by the laws of reading's Answers, Meaning and Totalled.
use borrow.Author.Rules.{rules}
use Rattle.reading.proofs.Answers.{checked}
use Rattle.file.proofs.Meaning.{meant}
use Rattle.file.proofs.Totalled.{totals_meant}
use Rattle.file.proofs.check.Statement.{statement}
use Rattle.file.proofs.check.Tie as tie

pub check_spec : {M : Type 1} → statement M
check_spec =
    tie.close
    (tie.spec
    (λ c κs. search rules)  -- start-requires
    (λ c κs. search rules)  -- rest-requires
    (λ c. (search checked depth 3, (search (meant, checked) depth 2, search (totals_meant, checked) depth 2)))  -- returns
    )
