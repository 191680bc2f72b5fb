-- The cases, computed. Assumes nothing.
use mathlib.Core.Path.{refl}
use Rattle.machine.specs.Lists.{pick, same}
use Rattle.machine.specs.Digits.{digits_onto, decimal, value_after}
use Rattle.format.specs.Rules.{days_in, is_date, is_desired_date, is_test_code, is_identification, is_of_day, weighted, is_eleven, is_ordering_account, is_account, is_own_if, is_seven_if, type_of}
use Rattle.format.specs.Cutting.{cut_of}
use Rattle.field.specs.Rows.{field_answer, first_or}
use Rattle.field.specs.Leaf.{digits_of}
use Rattle.record.specs.Kinds.{code_of, debit_code, batch_code, file_code}
use Rattle.record.specs.Faults.{first_fault, fault_of}
use Rattle.record.specs.Read.{padded}
use Rattle.reading.specs.State.{are_within, is_limited, within}
use Rattle.reading.specs.Order.{may_open, may_end, may_pay, may_name, may_text, may_refer, texts_by, allowed}
use Rattle.reading.specs.Step.{judged_as, judged_kind, judged_line, with_cut, judged_first, step_at}
use Rattle.writer.specs.Encoding.{number_in, text_in, blank_in, encoded_line}
use Rattle.writer.specs.Entries.{digits_for, line_for}
use Rattle.writer.specs.Writing.{written_of}
use Rattle.writer.specs.Cases.{Cases}

pub cases : Cases
unfolding pick same digits_onto decimal value_after days_in is_date is_desired_date is_test_code is_identification is_of_day weighted is_eleven is_ordering_account is_account is_own_if is_seven_if type_of field_answer first_or digits_of code_of debit_code batch_code file_code first_fault fault_of padded are_within is_limited within may_open may_end may_pay may_name may_text may_refer texts_by allowed judged_as judged_kind judged_line cut_of with_cut judged_first step_at number_in text_in blank_in encoded_line digits_for line_for written_of
cases =
    record {
      header = refl;
      header_fixes = refl;
      no_room = refl;
      refused_first = refl;
      date_too_large = refl;
      sender_too_long = refl;
      identification_too_large = refl;
      duplicate_too_large = refl;
      furthest_left = refl;
      batch_without_identification = refl;
      batch_with_identification = refl;
      identification_in_b = refl;
      identification_too_long = refl;
      account_too_large = refl;
      sequence_too_large = refl;
      item = refl;
      item_with_text = refl;
      amount_too_large = refl;
      reference_too_long = refl;
      name_of_35 = refl;
      batch_trailer = refl;
      batch_trailer_with_text = refl;
      file_trailer = refl;
      file_trailer_with_text = refl;
      name_lacking = refl;
      too_much = refl;
      unchecked_to_seven = refl;
      unchecked_to_nine = refl;
      after_trailer = refl;
      other_end = refl;
      other_end_misplaced = refl;
      other_end_after_trailer = refl;
      same_end = refl;
      beyond_limits = refl;
      trailer_totals = refl;
      largest_totals = refl;
      items_beyond = refl;
      amount_beyond = refl;
      header_bytes = refl;
      trailer_bytes = refl;
      sum_with_carry = record { sum_of = refl; item_written = refl; digits_written = refl; trailer_written = refl };
      sum_of_ten_zeros = record { sum_of = refl; item_written = refl; digits_written = refl; trailer_written = refl };
    }
