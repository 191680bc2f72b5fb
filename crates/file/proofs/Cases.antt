-- 01's cases, by computation. Assumes nothing.
use mathlib.Core.Path.{refl}
use Rattle.machine.specs.Lists.{pick, same}
use Rattle.machine.specs.Digits.{digits_onto, decimal, value_after}
use Rattle.format.specs.Rules.{days_in, is_date, is_desired_date, is_test_code, is_identification, is_of_day, weighted, is_eleven, is_ordering_account, is_account, is_own_if, is_seven_if, is_name_code_in, type_of}
use Rattle.format.specs.Cutting.{cut_of, lines_from}
use Rattle.field.specs.Rows.{field_answer, first_or}
use Rattle.field.specs.Taught.{running_totals, added, second_sum, is_eleven_taught}
use Rattle.record.specs.Kinds.{code_of, debit_code, batch_code, file_code}
use Rattle.record.specs.Faults.{first_fault, fault_of}
use Rattle.reading.specs.State.{are_within, is_limited, within}
use Rattle.reading.specs.Order.{may_open, may_fix, may_end, may_pay, may_name, allowed}
use Rattle.reading.specs.Step.{judged_as, judged_kind, judged_line, with_cut, judged_first, ended_at, step_at}
use Rattle.reading.specs.Check.{judged_after, judged_lines, rest_of, check_of, totals_after, totals_of}
use Rattle.file.proofs.Example.{example_1310, example_10}
use Rattle.file.specs.Cases.{Each, Right, account_cases, amount_cases, sum_cases, date_cases, description_cases, sequence_cases, order_cases, file_cases, ending_cases, unchecked_cases, total_cases, cases}

-- a record's first fault
accounts : Each account_cases
unfolding pick same digits_onto decimal value_after weighted is_eleven running_totals added second_sum is_eleven_taught is_ordering_account is_account is_own_if is_seven_if type_of field_answer first_or first_fault fault_of
accounts = ((refl, refl, refl, refl), (refl, ((refl, refl, refl, refl), ((refl, refl, refl, refl), ((refl, refl, refl, refl), (refl, ((refl, refl, refl, refl), (refl, (refl, tt)))))))))

amounts : Each amount_cases
unfolding pick same digits_onto decimal value_after weighted is_eleven is_ordering_account is_account is_own_if is_seven_if type_of field_answer first_or first_fault fault_of
amounts = (refl, (refl, (refl, (refl, tt))))

sequences : Each sequence_cases
unfolding pick same digits_onto decimal value_after weighted is_eleven is_ordering_account field_answer first_or first_fault fault_of
sequences = (refl, (refl, tt))

dates : Each date_cases
unfolding pick days_in is_date
dates = (refl, (refl, (refl, (refl, tt))))

descriptions : Each description_cases
descriptions = (refl, (refl, (refl, tt)))

-- lines one after the other
sums : Each sum_cases
unfolding pick same digits_onto decimal value_after weighted is_eleven is_ordering_account is_account is_own_if is_seven_if type_of field_answer first_or code_of debit_code batch_code file_code first_fault fault_of are_within is_limited within may_end may_pay allowed judged_as judged_kind judged_line cut_of with_cut judged_first step_at
sums = ((refl, refl, refl, refl, refl), ((refl, refl, refl, refl, refl), tt))

orders : Each order_cases
unfolding pick same digits_onto decimal value_after days_in is_date is_identification is_of_day field_answer first_or code_of debit_code batch_code file_code first_fault fault_of are_within is_limited within may_open allowed judged_as judged_kind judged_line cut_of with_cut judged_first ended_at lines_from judged_after judged_lines rest_of check_of
orders = (refl, tt)

files : Each file_cases
unfolding pick same digits_onto decimal value_after days_in is_date is_desired_date is_test_code is_identification is_of_day weighted is_eleven is_ordering_account is_account is_own_if is_seven_if is_name_code_in type_of field_answer first_or code_of debit_code batch_code file_code first_fault fault_of are_within is_limited within may_open may_fix may_end may_pay may_name allowed judged_as judged_kind judged_line cut_of with_cut judged_first ended_at lines_from judged_after judged_lines rest_of check_of
files = (refl, (refl, (example_1310, (refl, (example_10, tt)))))

endings : Each ending_cases
unfolding pick same digits_onto decimal value_after days_in is_date is_desired_date is_test_code is_identification is_of_day weighted is_eleven is_ordering_account is_account is_own_if is_seven_if is_name_code_in type_of field_answer first_or code_of debit_code batch_code file_code first_fault fault_of are_within is_limited within may_open may_fix may_end may_pay may_name allowed judged_as judged_kind judged_line cut_of with_cut judged_first ended_at lines_from judged_after judged_lines rest_of check_of step_at
endings = (refl, (refl, (refl, (refl, (refl, (refl, ((refl, refl), ((refl, refl), ((refl, refl), ((refl, refl), tt))))))))))

uncheckeds : Each unchecked_cases
unfolding pick same digits_onto decimal value_after days_in is_date is_desired_date is_test_code is_identification is_of_day weighted is_eleven is_ordering_account is_account is_own_if is_seven_if is_name_code_in type_of field_answer first_or code_of debit_code batch_code file_code first_fault fault_of are_within is_limited within may_open may_fix may_end may_pay may_name allowed judged_as judged_kind judged_line cut_of with_cut judged_first ended_at lines_from judged_after judged_lines rest_of check_of
uncheckeds = (refl, (refl, (refl, (refl, (refl, (refl, (refl, (refl, (refl, (refl, tt))))))))))

totals : Each total_cases
unfolding pick same digits_onto decimal value_after days_in is_date is_desired_date is_test_code is_identification is_of_day weighted is_eleven is_ordering_account is_account is_own_if is_seven_if is_name_code_in type_of field_answer first_or code_of debit_code batch_code file_code first_fault fault_of are_within is_limited within may_open may_fix may_end may_pay may_name allowed judged_as judged_kind judged_line cut_of with_cut judged_first ended_at lines_from judged_after judged_lines totals_after totals_of step_at
totals = (refl, (refl, (refl, (refl, (refl, (refl, (refl, (refl, (refl, ((refl, refl, refl), ((refl, refl, refl), ((refl, refl, refl), tt))))))))))))

pub worked : Right cases
worked = (accounts, (amounts, (sums, (dates, (descriptions, (sequences, (orders, (files, (endings, (uncheckeds, (totals, tt)))))))))))
