-- A line's code and its kind, each by the other. Assumes nothing.
use Rattle.std.specs.Prelude.{Some, None}
use Prim.Native.Nat.{ℕ}
use mathlib.Core.Path.{◌≡◌, refl, sym, ap, ap₂, ◌∙◌}
use mathlib.Core.List.{List}
use mathlib.Core.Bool.{Bool, true, false}
use native.Mathlib.Omega.{arith}
use lib.ListN.{take, drop}
use Rattle.machine.specs.Lists.{pick, same}
use Rattle.machine.proofs.Base.{of_eq, same→eq}
use Rattle.format.specs.Records.{code, Code}
use Rattle.format.proofs.Every.{every}
use Rattle.format.specs.declared.Kind.{Kind}
use Rattle.format.specs.declared.Kind.TheVariants.{FileHeader, BatchHeaderB, BatchHeaderC, FixedDescription, OrderingParty, Transaction, NamePayer, CityPayer, PaymentReference, Description, NameBeneficiary, CityBeneficiary, BatchTrailer, FileTrailer}
use Rattle.record.specs.Kinds.{begins, code_of, debit_code, batch_code, file_code}

pub code_found : (k : Kind) → code_of (code k) ≡ Some k
unfolding code_of debit_code batch_code file_code same pick
code_found = every (λ k. code_of (code k) ≡ Some k) refl refl refl refl refl refl refl refl refl refl refl refl refl refl

-- ## A line's beginning

pub begins_with : {p t : List ℕ} {b : Bool} (k : Kind) (line : List ℕ) → p ≡ take 5 (drop 0 line) → t ≡ code k → b ≡ same p t → b ≡ begins k line
begins_with k line d e h = h ∙ ap₂ same d e

one_of : (k m : Kind) → Some k ≡ Some m → k ≡ m
one_of k m e = cc

pub one_kind : {c : List ℕ} (k m : Kind) → code_of c ≡ Some k → c ≡ code m → k ≡ m
one_kind k m e f = one_of k m (sym e ∙ ap code_of f ∙ code_found m)

unknown≢of : (k : Kind) → None ≡ Some k → ⊥
unknown≢of k e = let z : ◌≡◌ {A = ℕ} 0 1 = cc in omega arith

pub no_code : (c : List ℕ) → code_of c ≡ None → (k : Kind) → c ≡ code k → ⊥
no_code c u k e = unknown≢of k (sym u ∙ ap code_of e ∙ code_found k)

-- one look-up: this kind, or what comes after it
look : (c : List ℕ) (m k : Kind) (after : Code) → pick (same c (code m)) (Some m) after ≡ Some k → (after ≡ Some k → c ≡ code k) → c ≡ code k
unfolding pick
look c m k after e f = by (same c (code m)) refl e
  where
    by : (q : Bool) → same c (code m) ≡ q → pick q (Some m) after ≡ Some k → c ≡ code k
    by true h g = same→eq c (code m) (of_eq _ h) ∙ ap code (one_of m k g)
    by false h g = f g

pub code_is : (c : List ℕ) (k : Kind) → code_of c ≡ Some k → c ≡ code k
unfolding code_of debit_code batch_code file_code
code_is c k e =
    look c Transaction k _ e
    (λ e. look c PaymentReference k _ e
    (λ e. look c Description k _ e
    (λ e. look c NameBeneficiary k _ e
    (λ e. look c CityBeneficiary k _ e
    (λ e. look c NamePayer k _ e
    (λ e. look c CityPayer k _ e
    (λ e. look c BatchHeaderB k _ e
    (λ e. look c BatchHeaderC k _ e
    (λ e. look c FixedDescription k _ e
    (λ e. look c OrderingParty k _ e
    (λ e. look c BatchTrailer k _ e
    (λ e. look c FileHeader k _ e
    (λ e. look c FileTrailer k _ e (λ e. absurd (unknown≢of k e)))))))))))))))
