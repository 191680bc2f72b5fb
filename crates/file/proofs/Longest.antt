-- 01's limit of lines and 02's of totals are exact: a file with 9,999 batches of 100,000 items of seven lines, each with the largest total, is accepted. It is counted by lemmas, never computed. Assumes nothing.
use Prim.Native.Nat.{ℕ, zero, suc, ◌+◌, ◌*◌, ◌≤◌}
use mathlib.Core.Path.{◌≡◌, refl, ap, ◌∙◌}
use mathlib.Core.List.{List, [], ◌∷◌}
use mathlib.Core.Option.{none, some}
use native.Mathlib.Omega.{arith}
use lib.ListN.{length, replicate}
use Rattle.machine.specs.Lists.{pick, same}
use Rattle.machine.specs.Digits.{value_after}
use Rattle.format.specs.Rules.{max_amount, is_test_code, days_in, is_date, is_desired_date, is_identification, is_of_day, weighted, is_eleven, is_ordering_account, is_account, is_own_if, is_seven_if, is_name_code_in, type_of, type_text}
use Rattle.format.specs.Language.{Item, Batch, File, total_of, accounts_of, ten_digits, Rec, items_recs, batch_trailer_rec, batches_recs, file_trailer_recs, file_recs, In, ItemOk, ItemsOk, Follows, BatchOk, BatchesOk, Valid, Ending, end_bytes, line_of, lines_of, Reads}
use Rattle.format.specs.Cutting.{lines_from, lines_in}
use Rattle.format.specs.Answers.{acceptance}
use Rattle.format.specs.declared.Group.TheVariants.{Payments}
use Rattle.format.specs.declared.TransactionType.TheVariants.{UncheckedSalary}
use Rattle.format.proofs.Reader.{State, Path, end, go}
use Rattle.format.proofs.Cutting.{lines_line, count_lines}
use Rattle.format.proofs.Link.{is_line}
use Rattle.format.proofs.Complete.{complete}
use Rattle.reading.specs.State.{max_line}
use Rattle.reading.specs.Check.{check_of, totals_of, read_of}
use Rattle.file.specs.Totals.{items_in, amount_in}
use Rattle.file.specs.Longest.{Longest, largest_totals}
use Rattle.file.proofs.Paying.{payment_ok}
use Rattle.file.proofs.Meaning.{language, lines_read, none_longer}
use Rattle.file.proofs.Totalled.{totalled, none_larger}

-- ## A line a record

path_lines : {s : State} {rs : List Rec} → Path s rs → (z : Ending) → length (lines_in (lines_of (end_bytes z) rs)) ≡ length rs
unfolding lines_of lines_from
path_lines end z = refl
path_lines (go {s = s} {rs} k x pl o q) z =
    omega (arith, ap length (lines_line z (line_of (end_bytes z) (k, x)) (lines_of (end_bytes z) rs) (is_line pl s x o (end_bytes z))), path_lines q z)

-- ## The file

abbrev letters : ℕ → List ℕ
letters n = replicate n 65

-- a transaction, its reference, three descriptions, a name and a city
item : ℕ → Item
item amount =
    record {
      type = type_text UncheckedSalary;
      amount = amount;
      payer = 123456789;
      beneficiary = 1;
      reference = some (letters 16);
      descriptions = letters 32 ∷ letters 32 ∷ letters 32 ∷ [];
      name = some (record { text = letters 35; city = some (letters 45) });
    }

item_ok : (amount : ℕ) → In 1 max_amount amount → ItemOk Payments 123456789 (item amount)
unfolding item same pick weighted is_eleven is_ordering_account is_account is_own_if is_seven_if type_of
item_ok amount h =
    record {
      transaction_ok = payment_ok (refl, tt) tt h (omega arith) tt tt;
      reference_ok = (refl, tt);
      descriptions_ok = ((refl, tt), ((refl, tt), ((refl, tt), tt)));
      room = omega arith;
      name_ok = ((refl, tt), (refl, tt));
    }

-- n of them before others
times : ℕ → ℕ → List Item → List Item
times zero amount is = is
times (suc n) amount is = item amount ∷ times n amount is

times_ok : (n amount : ℕ) (is : List Item) → In 1 max_amount amount → ItemsOk Payments 123456789 is → ItemsOk Payments 123456789 (times n amount is)
unfolding times
times_ok zero amount is h k = k
times_ok (suc n) amount is h k = (item_ok amount h, times_ok n amount is h k)

times_items : (n amount : ℕ) (is : List Item) → length (times n amount is) ≡ n + length is
unfolding times
times_items zero amount is = omega arith
times_items (suc n) amount is = omega (arith, times_items n amount is)

times_total : (n amount : ℕ) (is : List Item) → total_of (times n amount is) ≡ n * amount + total_of is
unfolding item times
times_total zero amount is = omega arith
times_total (suc n) amount is = omega (arith, times_total n amount is)

times_lines : (n amount : ℕ) (is : List Item) (k : List Rec) → length (items_recs Payments (times n amount is) k) ≡ 7 * n + length (items_recs Payments is k)
unfolding item times
times_lines zero amount is k = omega arith
times_lines (suc n) amount is k = omega (arith, times_lines n amount is k)

-- 100,000 items of the largest total of a batch: 99 of the largest amount, one of most of what is left, and the others of a cent
module _ (n : ℕ) (full : n ≡ 99900) where
  cents : List Item
  cents = times n 1 []

  items : List Item
  items = times 99 45378021608 (times 1 45377921809 cents)

  items_ok : ItemsOk Payments 123456789 items
  unfolding items cents
  items_ok = times_ok 99 45378021608 _ (omega arith) (times_ok 1 45377921809 _ (omega arith) (times_ok n 1 [] (omega arith) tt))

  items_number : length items ≡ 100000
  unfolding items cents
  items_number = omega (arith, times_items 99 45378021608 (times 1 45377921809 cents), times_items 1 45377921809 cents, times_items n 1 [])

  items_total : total_of items ≡ 4537802160901
  unfolding items cents
  items_total = omega (arith, times_total 99 45378021608 (times 1 45377921809 cents), times_total 1 45377921809 cents, times_total n 1 [])

  items_lines : (k : List Rec) → length (items_recs Payments items k) ≡ 700000 + length k
  unfolding items cents
  items_lines k = omega (arith, times_lines 99 45378021608 (times 1 45377921809 cents) k, times_lines 1 45377921809 cents k, times_lines n 1 [] k)

  -- with the number after s
  batch : ℕ → Batch
  batch s =
      record {
        account = 123456789;
        sequence = suc s;
        identification = none;
        fixed = letters 32 ∷ letters 32 ∷ letters 32 ∷ letters 32 ∷ [];
        name_code = 1;
        desired = 0;
        party = letters 35;
        test_code = 80 ∷ [];
        items = items;
      }

  batches : ℕ → ℕ → List Batch
  batches s zero = []
  batches s (suc k) = batch s ∷ batches (suc s) k

  batch_ok : (s : ℕ) → suc s ≤ 9999 → BatchOk Payments (record { sequence = s }) (batch s)
  unfolding batch same pick weighted is_eleven is_ordering_account is_test_code is_desired_date is_name_code_in
  batch_ok s h =
      record {
        header_ok = record { account_in = omega arith; account_ok = tt; sequence_in = omega arith; sequence_follows = follows s; identification_ok = tt };
        fixed_ok = ((refl, tt), ((refl, tt), ((refl, tt), ((refl, tt), tt))));
        fixed_max = omega arith;
        party_ok = record { code_in = omega arith; code_ok = tt; desired_small = omega arith; desired_ok = tt; name_fits = (refl, tt); test_fits = (refl, tt); test_ok = tt };
        items_ok = items_ok;
        items_in = omega (arith, items_number);
        total_max = omega (arith, items_total);
      }
    where
      follows : (s : ℕ) → Follows s (suc s)
      follows zero = tt
      follows (suc s) = refl

  batches_ok : (s k : ℕ) → s + k ≤ 9999 → BatchesOk Payments (record { sequence = s }) (batches s k)
  unfolding batch batches
  batches_ok s zero h = tt
  batches_ok s (suc k) h = (batch_ok s (omega arith), batches_ok (suc s) k (omega arith))

  batches_lines : (s k : ℕ) (r : List Rec) → length (batches_recs Payments (batches s k) r) ≡ 700007 * k + length r
  unfolding batch batches
  batches_lines s zero r = omega arith
  batches_lines s (suc k) r = omega (arith, batches_lines (suc s) k r, items_lines (trailer ∷ batches_recs Payments (batches (suc s) k) r))
    where
      trailer : Rec
      trailer = batch_trailer_rec (total_of items) (ten_digits (accounts_of items)) (length items)

  batches_sums : (s k : ℕ) → (items_in (batches s k) ≡ 100000 * k) × (amount_in (batches s k) ≡ 4537802160901 * k)
  unfolding batch batches
  batches_sums s zero = omega arith
  batches_sums s (suc k) = let w = batches_sums (suc s) k in omega (arith, w.0, w.1, items_number, items_total)

  module _ (k : ℕ) (all : k ≡ 9999) where
    file : File
    file = record { created = 150309; sender = letters 5; identification = 49 ∷ 53 ∷ 48 ∷ 49 ∷ []; duplicate = 1; group = Payments; batches = batches 0 k }

    some_batch : (s k : ℕ) → 1 ≤ k → 1 ≤ length (batches s k)
    unfolding batches
    some_batch s zero h = h
    some_batch s (suc k) h = omega arith

    valid : Valid file
    unfolding file same pick value_after days_in is_date is_identification is_of_day
    valid =
        record {
          header_ok = record {
            date_small = omega arith;
            date_ok = tt;
            sender_fits = (refl, tt);
            identification_fits = (refl, tt);
            identification_ok = tt;
            identification_day = tt;
            duplicate_in = omega arith;
          };
          some_batch = some_batch 0 k (omega arith);
          batches_ok = batches_ok 0 k (omega arith);
        }

    records : length (file_recs file) ≡ 6999369995
    unfolding file
    records = omega (arith, batches_lines 0 k file_trailer_recs)

    its_bytes : Ending → List ℕ
    its_bytes z = lines_of (end_bytes z) (file_recs file)

    taken : (z : Ending) → (n : ℕ) × (check_of (its_bytes z) ≡ acceptance n)
    unfolding its_bytes Reads
    taken z = (language (its_bytes z)).1 (file, (valid, (z, refl)))

    -- its answer, and its totals
    as_long : (z : Ending) → (f : File) × (read_of (lines_of (end_bytes z) (file_recs f)) ≡ record { answer = acceptance 6999369995; totals = largest_totals })
    unfolding its_bytes Reads file
    as_long z =
        let t = taken z in
        let l = path_lines (complete file valid) z in
        let m = count_lines (lines_read (its_bytes z) t.0 t.1) in
        let e : t.0 ≡ 6999369995 = omega (arith, records) in
        let w = (totalled (its_bytes z)).whole file (valid, (z, refl)) in
        let b = batches_sums 0 k in
        let i : (totals_of (its_bytes z)).items ≡ 999900000 = omega (arith, w.items, b.0) in
        let a : (totals_of (its_bytes z)).amount ≡ 45373483806849099 = omega (arith, w.amount, b.1) in
        let r : check_of (its_bytes z) ≡ acceptance 6999369995 = t.1 ∙ ap acceptance e in
        (file, λ j. record { answer = r j; totals = record { items = i j; amount = a j } })

-- THE LONGEST ACCEPTED FILE has 6,999,369,995 lines, and the largest totals
pub longest : Longest max_line largest_totals
longest = record { none_longer = none_longer; none_larger = none_larger; one_as_long = as_long 99900 refl 9999 refl }
