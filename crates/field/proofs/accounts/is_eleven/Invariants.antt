-- What the loop of accounts::is_eleven keeps.
use Rattle.field.proofs.Elevens.{Adding}
use Rattle.field.proofs.accounts.is_eleven.Given as goal

abbrev pub invariant-loop-c : goal.invariant-loop-c
invariant-loop-c l = Adding l.s l.running l.second l.c-index
