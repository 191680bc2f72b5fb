-- What is copied so far, by the laws of Copying.
use Rattle.rewriting.proofs.Copying.{Copying}
use Rattle.rewriting.proofs.copy.Given as goal

abbrev pub invariant-loop-line : goal.invariant-loop-line
invariant-loop-line l = Copying l.file l.initial.out l.out l.at l.line-iterator.rest.now
