use mathlib.Core.Path.{refl}
use Rattle.record.specs.Read.{transaction_of}
use Rattle.record.proofs.Columns.{past, transaction_handed, value_row, value_handed}
use Rattle.record.proofs.ItemFaults.{type_row, party_row, taken}
use Rattle.record.proofs.faults.item.transaction_in.Goals as goal

pub returns-in_err-at : goal.returns-in_err-at
unfolding transaction_of
returns-in_err-at c = search (
    transaction_handed _ _ _ _ c.at.ensures (type_row _ _ c.type_in-kind.ensures c.type_answer.ensures) c.in_err-at.was) depth 2

pub returns-in_err-amount : goal.returns-in_err-amount
unfolding transaction_of
returns-in_err-amount c = search (
  past _ (type_row _ _ c.type_in-kind.ensures c.type_answer.ensures) c.in_ok-at.was,
  transaction_handed _ _ _ _ c.at-2.ensures (value_row _ _ 12 _ c.amount_in.ensures refl) c.in_err-amount.was,
) depth 3

pub returns-in_err-payer : goal.returns-in_err-payer
unfolding transaction_of
returns-in_err-payer c = search (
  past _ (type_row _ _ c.type_in-kind.ensures c.type_answer.ensures) c.in_ok-at.was,
  past _ (value_row _ _ 12 _ c.amount_in.ensures refl) c.in_ok-amount.was,
  transaction_handed _ _ _ _ c.at-3.ensures (party_row _ _ _ _ _ c.type_in-kind.ensures c.payer_in.ensures) c.in_err-payer.was,
) depth 4

pub returns-in_err-beneficiary : goal.returns-in_err-beneficiary
unfolding transaction_of
returns-in_err-beneficiary c = search (
  past _ (type_row _ _ c.type_in-kind.ensures c.type_answer.ensures) c.in_ok-at.was,
  past _ (value_row _ _ 12 _ c.amount_in.ensures refl) c.in_ok-amount.was,
  past _ (party_row _ _ _ _ _ c.type_in-kind.ensures c.payer_in.ensures) c.in_ok-payer.was,
  transaction_handed _ _ _ _ c.at-4.ensures (party_row _ _ _ _ _ c.type_in-kind.ensures c.beneficiary_in.ensures) c.in_err-beneficiary.was,
) depth 5

pub returns-in_err-at-2 : goal.returns-in_err-at-2
unfolding transaction_of
returns-in_err-at-2 c = search (
  past _ (type_row _ _ c.type_in-kind.ensures c.type_answer.ensures) c.in_ok-at.was,
  past _ (value_row _ _ 12 _ c.amount_in.ensures refl) c.in_ok-amount.was,
  past _ (party_row _ _ _ _ _ c.type_in-kind.ensures c.payer_in.ensures) c.in_ok-payer.was,
  past _ (party_row _ _ _ _ _ c.type_in-kind.ensures c.beneficiary_in.ensures) c.in_ok-beneficiary.was,
  transaction_handed _ _ _ _ c.at-5.ensures c.filler_answer.ensures c.in_err-at-2.was,
) depth 6

pub returns : goal.returns
unfolding transaction_of
returns c = search (
  past _ (type_row _ _ c.type_in-kind.ensures c.type_answer.ensures) c.in_ok-at.was,
  past _ (value_row _ _ 12 _ c.amount_in.ensures refl) c.in_ok-amount.was,
  past _ (party_row _ _ _ _ _ c.type_in-kind.ensures c.payer_in.ensures) c.in_ok-payer.was,
  past _ (party_row _ _ _ _ _ c.type_in-kind.ensures c.beneficiary_in.ensures) c.in_ok-beneficiary.was,
  past _ c.filler_answer.ensures c.in_ok-at-2.was,
  taken c.args.line.now c.type_in-kind.ensures (value_handed _ _ _ _ _ c.amount_in.ensures c.at-2.ensures c.in_ok-amount.was) (value_handed _ _ _ _ _ c.payer_in.ensures c.at-3.ensures c.in_ok-payer.was) (value_handed _ _ _ _ _ c.beneficiary_in.ensures c.at-4.ensures c.in_ok-beneficiary.was),
) depth 7
