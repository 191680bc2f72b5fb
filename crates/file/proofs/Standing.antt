-- WHICH KINDS MAY STAND between batches: at the start, after the file header and after a batch. Assumes nothing.
use mathlib.Core.Path.{◌≡◌}
use mathlib.Core.List.{[], ◌∷◌}
use Rattle.machine.specs.Lists.{same}
use Rattle.format.specs.declared.Kind.{Kind}
use Rattle.format.specs.declared.Kind.TheVariants.{FileHeader, FileTrailer}
use Rattle.format.proofs.Every.{every, one_of, headers}
use Rattle.reading.specs.Order.{may_open, may_fix, may_end, may_pay, may_name, may_text, may_refer, may_describe, allowed}
use Rattle.reading.specs.declared.Stage.TheVariants.{Start, Headed, Closed}
use Rattle.reading.specs.declared.State.{State}

module _ (s : State) where
  pub at_start : s.stage ≡ Start → (k : Kind) → allowed s k ≡ one_of (FileHeader ∷ []) k
  unfolding allowed may_open may_fix may_end may_pay may_name may_text may_refer may_describe same
  at_start e = every (λ k. allowed s k ≡ one_of (FileHeader ∷ []) k) (rw e) (rw e) (rw e) (rw e) (rw e) (rw e) (rw e) (rw e) (rw e) (rw e) (rw e) (rw e) (rw e) (rw e)

  pub at_header : s.stage ≡ Headed → (k : Kind) → allowed s k ≡ one_of headers k
  unfolding allowed may_open may_fix may_end may_pay may_name may_text may_refer may_describe same
  at_header e = every (λ k. allowed s k ≡ one_of headers k) (rw e) (rw e) (rw e) (rw e) (rw e) (rw e) (rw e) (rw e) (rw e) (rw e) (rw e) (rw e) (rw e) (rw e)

  pub at_trailer : s.stage ≡ Closed → (k : Kind) → allowed s k ≡ one_of (FileTrailer ∷ headers) k
  unfolding allowed may_open may_fix may_end may_pay may_name may_text may_refer may_describe same
  at_trailer e = every (λ k. allowed s k ≡ one_of (FileTrailer ∷ headers) k) (rw e) (rw e) (rw e) (rw e) (rw e) (rw e) (rw e) (rw e) (rw e) (rw e) (rw e) (rw e) (rw e) (rw e)
