-- Cases of the writer: what cannot be carried is refused at its column, the order of the answers, and 01's case 6 of what is written.
use Rattle.format.specs.declared.LineEnd.TheVariants.{CrLf, Lf}
use Rattle.std.specs.Prelude.{ℕ, ◌+◌, ◌-◌, ◌≡◌, List, [], ◌∷◌, ◌++◌, true, false, take, drop, replicate, Some, Result, Ok, Err}
use Rattle.machine.specs.Lists.{spaces}
use Rattle.format.specs.Answers.{refusal, acceptance}
use Rattle.format.specs.declared.Answer.{Answer}
use Rattle.format.specs.declared.Group.TheVariants.{Payments}
use Rattle.format.specs.declared.TransactionType.TheVariants.{UncheckedCreditor, Salary}
use Rattle.record.specs.Faults.{nothing_before, after_header, no_totals}
use Rattle.record.specs.declared.Totals.{Totals}
use Rattle.reading.specs.State.{no_item, start_state}
use Rattle.reading.specs.Step.{with_ending}
use Rattle.reading.specs.declared.Stage.{Stage}
use Rattle.reading.specs.declared.Stage.TheVariants as stage
use Rattle.reading.specs.declared.Name.{Name}
use Rattle.reading.specs.declared.Name.TheVariants.{Unwanted, Due}
use Rattle.reading.specs.declared.State.{State}
use Rattle.writer.specs.Encoding.{line_end}
use Rattle.writer.specs.Entries.{line_for}
use Rattle.writer.specs.Writing.{answer_of, written_of}
use Rattle.writer.specs.declared.Entry.{Entry}
use Rattle.writer.specs.declared.Entry.TheVariants.{FileHeader, BatchHeader, Transaction, PaymentReference, NameBeneficiary, BatchTrailer, FileTrailer}

-- a text of so many letters
abbrev pub letters : ℕ → List ℕ
letters n = replicate n 65 ++ spaces (35 - n)

-- a batch of group 00 after batches that come to so much, at a stage, after so many lines
abbrev pub batch_after : Totals → ℕ → Stage → Name → State
batch_after totals line p name =
    record {
      line = line;
      stage = p;
      before = after_header nothing_before Payments 1;
      batch = record { account = 123456789; items = 1; total = 15000; accounts = 123458023; fixed = 0 };
      totals = totals;
      item = record { name = name; reference = false; descriptions = 0 };
    }

abbrev pub batch_at : ℕ → Stage → Name → State
batch_at line p name = batch_after no_totals line p name

abbrev pub salary_of : ℕ → Entry
salary_of amount = Transaction (record { kind = Salary; amount = amount; payer = 123456789; beneficiary = 1234 })

abbrev pub unchecked_to : ℕ → Entry
unchecked_to beneficiary = Transaction (record { kind = UncheckedCreditor; amount = 1; payer = 123456789; beneficiary = beneficiary })

-- the state after it
abbrev pub after : State → Result State Answer → State
after s (Ok next) = next
after s (Err a) = s

-- with so much room
abbrev pub Answers : State → Entry → List ℕ → ℕ → Answer → Type 0
Answers s e t room a = answer_of (written_of s e t room) ≡ a

abbrev pub next_of : State → Entry → List ℕ → State
next_of s e t = after s (written_of s e t 52)

-- after the ordering party of a batch of an account, and after an item of one cent of it
abbrev pub ordered_of : ℕ → State
ordered_of account =
    record {
      line = 3;
      stage = stage.Ordered;
      before = after_header nothing_before Payments 1;
      batch = record { account = account; items = 0; total = 0; accounts = 0; fixed = 0 };
      totals = no_totals;
      item = no_item;
    }

abbrev pub cent : ℕ → ℕ → Entry
cent payer beneficiary = Transaction (record { kind = Salary; amount = 1; payer = payer; beneficiary = beneficiary })

abbrev pub after_cent : ℕ → ℕ → State
after_cent payer beneficiary = next_of (ordered_of payer) (cent payer beneficiary) (letters 0)

-- the two accounts of a batch's one item, their sum, and the ten digits of it with which the trailer is written, and accepted
pub record SumWritten (payer beneficiary sum : ℕ) (digits : List ℕ) : Type 0 where
  pub sum_of : payer + beneficiary ≡ sum
  pub item_written : Answers (ordered_of payer) (cent payer beneficiary) (letters 0) 52 (acceptance 4)
  pub digits_written : take 10 (drop 23 (line_for (after_cent payer beneficiary) BatchTrailer (letters 0))) ≡ digits
  pub trailer_written : Answers (after_cent payer beneficiary) BatchTrailer (letters 0) 52 (acceptance 5)

pub record Cases : Type 0 where
  pub header : Answers start_state (FileHeader 150309 1501 1) (letters 5) 52 (acceptance 1)
  -- it fixes 13, 10
  pub header_fixes : (next_of start_state (FileHeader 150309 1501 1) (letters 5)).before.ending ≡ (Some CrLf)
  pub no_room : Answers start_state (FileHeader 150309 1501 1) (letters 5) 51 (refusal 12 1 0)
  -- 12 only where nothing else applies
  pub refused_first : Answers start_state (FileHeader 150309 1501 1) (letters 6) 51 (refusal 4 1 20)
  -- what a field cannot carry, at its column
  pub date_too_large : Answers start_state (FileHeader 1150309 1501 1) (letters 5) 52 (refusal 4 1 6)
  pub sender_too_long : Answers start_state (FileHeader 150309 1501 1) (letters 6) 52 (refusal 4 1 20)
  pub identification_too_large : Answers start_state (FileHeader 150309 15010 1) (letters 5) 52 (refusal 4 1 25)
  pub duplicate_too_large : Answers start_state (FileHeader 150309 1501 10) (letters 5) 52 (refusal 4 1 29)
  pub furthest_left : Answers start_state (FileHeader 150309 15010 10) (letters 6) 52 (refusal 4 1 20)
  pub batch_without_identification : Answers (batch_at 5 stage.Closed Unwanted) (BatchHeader Payments 123456789 2 false) (letters 0) 52 (acceptance 6)
  pub batch_with_identification : Answers (batch_at 5 stage.Closed Unwanted) (BatchHeader Payments 123456789 2 true) (letters 16) 52 (acceptance 6)
  pub identification_in_b : Answers (batch_at 5 stage.Closed Unwanted) (BatchHeader Payments 123456789 2 false) (letters 16) 52 (refusal 4 6 25)
  pub identification_too_long : Answers (batch_at 5 stage.Closed Unwanted) (BatchHeader Payments 123456789 2 true) (letters 17) 52 (refusal 4 6 25)
  pub account_too_large : Answers (batch_at 5 stage.Closed Unwanted) (BatchHeader Payments 12345678900 2 false) (letters 0) 52 (refusal 4 6 8)
  pub sequence_too_large : Answers (batch_at 5 stage.Closed Unwanted) (BatchHeader Payments 123456789 10000 false) (letters 0) 52 (refusal 4 6 18)
  pub item : Answers (batch_at 3 stage.Ordered Unwanted) (salary_of 15000) (letters 0) 52 (acceptance 4)
  pub item_with_text : Answers (batch_at 3 stage.Ordered Unwanted) (salary_of 15000) (letters 1) 52 (refusal 4 4 42)
  pub amount_too_large : Answers (batch_at 3 stage.Ordered Unwanted) (salary_of 1000000000000) (letters 0) 52 (refusal 4 4 10)
  pub reference_too_long : Answers (batch_at 4 stage.Item Unwanted) PaymentReference (letters 17) 52 (refusal 4 5 6)
  pub name_of_35 : Answers (batch_at 4 stage.Item Due) NameBeneficiary (letters 35) 52 (acceptance 5)
  pub batch_trailer : Answers (batch_at 4 stage.Item Unwanted) BatchTrailer (letters 0) 52 (acceptance 5)
  pub batch_trailer_with_text : Answers (batch_at 4 stage.Item Unwanted) BatchTrailer (letters 1) 52 (refusal 4 5 41)
  pub file_trailer : Answers (batch_at 5 stage.Closed Unwanted) FileTrailer (letters 0) 52 (acceptance 6)
  pub file_trailer_with_text : Answers (batch_at 5 stage.Closed Unwanted) FileTrailer (letters 35) 52 (refusal 4 6 6)
  -- the reader's other answers
  pub name_lacking : Answers (batch_at 4 stage.Item Due) BatchTrailer (letters 0) 52 (refusal 3 5 1)
  pub too_much : Answers (batch_at 3 stage.Ordered Unwanted) (salary_of 45378021609) (letters 0) 52 (refusal 5 4 10)
  pub unchecked_to_seven : Answers (batch_at 3 stage.Ordered Unwanted) (unchecked_to 9999999) (letters 0) 52 (acceptance 4)
  -- 14 before 12
  pub unchecked_to_nine : Answers (batch_at 3 stage.Ordered Unwanted) (unchecked_to 123456789) (letters 0) 51 (refusal 14 4 32)
  pub after_trailer : Answers (batch_at 6 stage.Done Unwanted) FileTrailer (letters 35) 0 (refusal 11 7 0)
  -- where the lines so far end with 10 alone: what the reader would give, 1 after 24 and 11, before all else
  pub other_end : Answers (with_ending (Some Lf) (batch_at 5 stage.Closed Unwanted)) FileTrailer (letters 35) 0 (refusal 1 6 0)
  pub other_end_misplaced : Answers (with_ending (Some Lf) (batch_at 4 stage.Item Due)) BatchTrailer (letters 0) 52 (refusal 1 5 0)
  pub other_end_after_trailer : Answers (with_ending (Some Lf) (batch_at 6 stage.Done Unwanted)) FileTrailer (letters 0) 52 (refusal 11 7 0)
  pub same_end : Answers (with_ending (Some CrLf) (batch_at 5 stage.Closed Unwanted)) FileTrailer (letters 0) 52 (acceptance 6)
  pub beyond_limits : Answers (batch_at 7000000000 stage.Closed Unwanted) FileTrailer (letters 0) 52 (refusal 24 0 0)
  -- 02's [5], 'The writer's state gets the same two numbers': a trailer that is written adds to them; 24 above either limit, and not at both
  pub trailer_totals : (next_of (batch_after (record { items = 2; amount = 152550 }) 4 stage.Item Unwanted) BatchTrailer (letters 0)).totals ≡ record { items = 3; amount = 167550 }
  pub largest_totals : Answers (batch_after (record { items = 999900000; amount = 45373483806849099 }) 5 stage.Closed Unwanted) FileTrailer (letters 0) 52 (acceptance 6)
  pub items_beyond : Answers (batch_after (record { items = 999900001; amount = 0 }) 5 stage.Closed Unwanted) FileTrailer (letters 0) 52 (refusal 24 0 0)
  pub amount_beyond : Answers (batch_after (record { items = 0; amount = 45373483806849100 }) 5 stage.Closed Unwanted) FileTrailer (letters 0) 52 (refusal 24 0 0)
  -- the bytes of a line: 0001A150309CLIEOP03AAAAA15011, and the trailer's numbers from the state
  pub header_bytes : line_for start_state (FileHeader 150309 1501 1) (letters 5) ≡ 48 ∷ 48 ∷ 48 ∷ 49 ∷ 65 ∷ 49 ∷ 53 ∷ 48 ∷ 51 ∷ 48 ∷ 57 ∷ 67 ∷ 76 ∷ 73 ∷ 69 ∷ 79 ∷ 80 ∷ 48 ∷ 51 ∷ 65 ∷ 65 ∷ 65 ∷ 65 ∷ 65 ∷ 49 ∷ 53 ∷ 48 ∷ 49 ∷ 49 ∷ (spaces 21 ++ line_end)
  pub trailer_bytes : line_for (batch_at 4 stage.Item Unwanted) BatchTrailer (letters 0) ≡ 57 ∷ 57 ∷ 57 ∷ 48 ∷ 65 ∷ 48 ∷ 48 ∷ 48 ∷ 48 ∷ 48 ∷ 48 ∷ 48 ∷ 48 ∷ 48 ∷ 48 ∷ 48 ∷ 48 ∷ 48 ∷ 49 ∷ 53 ∷ 48 ∷ 48 ∷ 48 ∷ 48 ∷ 49 ∷ 50 ∷ 51 ∷ 52 ∷ 53 ∷ 56 ∷ 48 ∷ 50 ∷ 51 ∷ 48 ∷ 48 ∷ 48 ∷ 48 ∷ 48 ∷ 48 ∷ 49 ∷ (spaces 10 ++ line_end)
  -- 01's case 6: 10,000,000,003 is written 0000000003, 10,000,000,000 is written 0000000000
  pub sum_with_carry : SumWritten 9999999999 4 10000000003 (replicate 9 48 ++ (51 ∷ []))
  pub sum_of_ten_zeros : SumWritten 9999999980 20 10000000000 (replicate 10 48)
