-- A payment out of account 123456789, which 01's example and the longest file have. Assumes nothing.
use Prim.Native.Nat.{ℕ}
use mathlib.Core.List.{List}
use lib.Dec.{T}
use native.Mathlib.Omega.{arith}
use Rattle.machine.specs.Lists.{pick}
use Rattle.format.specs.Rules.{max_amount, max_account, weighted, is_eleven, is_ordering_account, is_account, is_own_if, is_seven_if, is_type_in, type_of, is_unchecked_type}
use Rattle.format.specs.Fields.{filled, Fit}
use Rattle.format.specs.Language.{In, TransactionOk}
use Rattle.format.specs.declared.Group.TheVariants.{Payments}

pub payment_ok : {type : List ℕ} {amount beneficiary : ℕ} → Fit (filled 4) type → T (is_type_in Payments (type_of type)) → In 1 max_amount amount → In 1 max_account beneficiary → T (is_account beneficiary) → T (is_seven_if (is_unchecked_type (type_of type)) beneficiary)
    → TransactionOk Payments 123456789 type amount 123456789 beneficiary
unfolding pick weighted is_eleven is_ordering_account is_account is_own_if
payment_ok fits type amount beneficiary account seven =
    record {
      type_fits = fits;
      type_in = type;
      amount_in = amount;
      payer_in = omega arith;
      payer_ok = tt;
      beneficiary_in = beneficiary;
      beneficiary_ok = account;
      own_payer = tt;
      own_beneficiary = tt;
      other_ok = seven;
    }
