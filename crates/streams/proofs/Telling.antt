-- What was written, read or told, from what calls answered. Assumes nothing.
use mathlib.Core.Path.{◌≡◌, refl, sym, ap, ◌∙◌}
use mathlib.Core.Bool.{Bool}
use Rattle.std.specs.Prelude.{Result, Ok, Err, is_ok, ℕ, ◌≤◌, List, length, take}
use Rattle.std.proofs.Common.{length-take-le, subst}
use Rattle.std.specs.Io.{WritesAtMost}
use Rattle.std.specs.declared.env.FillError.{FillError}
use Rattle.std.specs.IoError.{error_kind}
use Rattle.std.specs.declared.io.Error.{Error}
use Rattle.std.specs.declared.io.ErrorKind.{ErrorKind}
use Rattle.std.specs.declared.io.ErrorKind.TheVariants.{BrokenPipe}
use Rattle.std.specs.declared.env.FillError.TheVariants.{NotPresent}
use mathlib.Core.Bool.{false}
use native.Mathlib.Omega.{arith}
use lib.ListN.{length-take}
use Rattle.streams.specs.Counts.{IsPrefixLen}
use Rattle.streams.specs.Opened.{is_given}
use Rattle.streams.specs.Status.{failed_by, printed_of}
use Rattle.streams.specs.declared.output.Printed.TheVariants.{Whole, Failed, Unread}

pub written_so : {A E : Type 0} {w v : Result A E} {b : Bool} → b ≡ is_ok v → w ≡ v → b ≡ is_ok w
written_so h e = h ∙ ap is_ok (sym e)

failed_so : (k : ErrorKind) → (k ≡ BrokenPipe → ⊥) → Failed ≡ failed_by k
failed_so BrokenPipe n = absurd (n refl)
failed_so _ n = refl

module _ {A : Type 0} {w : Result A Error} where
  pub printed_whole : {x : A} → w ≡ Ok x → Whole ≡ printed_of w
  printed_whole e = sym (ap printed_of e)

  module _ {x : Error} {k : ErrorKind} (e : w ≡ Err x) (f : k ≡ error_kind x) where
    pub printed_unread : k ≡ BrokenPipe → Unread ≡ printed_of w
    printed_unread h = sym (ap printed_of e ∙ ap failed_by (sym f ∙ h))

    pub printed_failed : (k ≡ BrokenPipe → ⊥) → Failed ≡ printed_of w
    printed_failed n = failed_so k n ∙ ap failed_by f ∙ sym (ap printed_of e)

pub prefix_length : {w : Result ℕ FillError} (n : ℕ) (xs : List ℕ) → WritesAtMost w xs → w ≡ Ok n → n ≡ length (take n xs)
prefix_length n xs h e = sym (length-take-le n xs (subst (λ v. WritesAtMost v xs) e h))

pub part_fits : {x : List ℕ} (n : ℕ) (xs : List ℕ) → x ≡ take n xs → IsPrefixLen (length x) xs
part_fits n xs e =
    let h : length (take n xs) ≤ length xs = rw length-take (omega arith) in
    rw e (h, sym (length-take-le (length (take n xs)) xs h))

pub given_not : {r : Result ℕ FillError} {x : FillError} → r ≡ Err x → x ≡ NotPresent → false ≡ is_given r
given_not e h = sym (ap is_given e ∙ ap (λ y. is_given (Err y)) h)
