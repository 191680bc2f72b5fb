-- 01's example has the reading that is set down of it. Assumes nothing.
use mathlib.Core.Path.{refl}
use native.Mathlib.Omega.{arith}
use Rattle.machine.specs.Lists.{pick, same}
use Rattle.machine.specs.Digits.{digits_onto, decimal, value_after}
use Rattle.format.specs.Rules.{is_test_code, days_in, is_date, is_desired_date, is_identification, is_of_day, weighted, is_eleven, is_ordering_account, is_account, is_own_if, is_seven_if, is_name_code_in, type_of}
use Rattle.format.specs.Language.{ItemOk, BatchOk, none_before, Valid, crlf, lf, lines_of, Reads}
use Rattle.format.specs.declared.Group.TheVariants.{Payments}
use Rattle.file.specs.Example.{end1310, end10, example, salary, unchecked_salary, example_batch, example_file}
use Rattle.file.proofs.Paying.{payment_ok}

salary_ok : ItemOk Payments 123456789 salary
unfolding same pick weighted is_eleven is_ordering_account is_account is_own_if is_seven_if type_of
salary_ok =
    record {
      transaction_ok = payment_ok (refl, tt) tt (omega arith) (omega arith) tt tt;
      reference_ok = tt;
      descriptions_ok = tt;
      room = omega arith;
      name_ok = tt;
    }

unchecked_ok : ItemOk Payments 123456789 unchecked_salary
unfolding same pick weighted is_eleven is_ordering_account is_account is_own_if is_seven_if type_of
unchecked_ok =
    record {
      transaction_ok = payment_ok (refl, tt) tt (omega arith) (omega arith) tt tt;
      reference_ok = tt;
      descriptions_ok = tt;
      room = omega arith;
      name_ok = ((refl, tt), tt);
    }

batch_ok : BatchOk Payments none_before example_batch
unfolding same pick weighted is_eleven is_ordering_account is_test_code is_desired_date is_name_code_in
batch_ok =
    record {
      header_ok = record { account_in = omega arith; account_ok = tt; sequence_in = omega arith; sequence_follows = tt; identification_ok = tt };
      fixed_ok = ((refl, tt), tt);
      fixed_max = omega arith;
      party_ok = record { code_in = omega arith; code_ok = tt; desired_small = omega arith; desired_ok = tt; name_fits = (refl, tt); test_fits = (refl, tt); test_ok = tt };
      items_ok = (salary_ok, (unchecked_ok, tt));
      items_in = omega arith;
      total_max = omega arith;
    }

valid : Valid example_file
unfolding same pick value_after days_in is_date is_identification is_of_day
valid =
    record {
      header_ok = record {
        date_small = omega arith;
        date_ok = tt;
        sender_fits = (refl, tt);
        identification_fits = (refl, tt);
        identification_ok = tt;
        identification_day = tt;
        duplicate_in = omega arith;
      };
      some_batch = omega arith;
      batches_ok = (batch_ok, tt);
    }

pub example_1310 : Reads (example end1310) example_file
unfolding Reads lines_of digits_onto decimal
example_1310 = (valid, (crlf, refl))

pub example_10 : Reads (example end10) example_file
unfolding Reads lines_of digits_onto decimal
example_10 = (valid, (lf, refl))
