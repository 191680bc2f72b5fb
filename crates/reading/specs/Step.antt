-- What a line is answered, from every state: the answer, the state after it, the bytes that it took, and the record handed out.
use Rattle.std.specs.Prelude.{ℕ, ◌+◌, List, [], ◌∷◌, Bool, true, false, take, eqb, Some, None, Option, Result, Ok, Err}
use Rattle.machine.specs.Lists.{pick}
use Rattle.format.specs.Records.{Fields, group, ordering_account, sequence, unidentified, Code}
use Rattle.format.specs.Rules.{group_of, is_unchecked_type}
use Rattle.format.specs.Language.{ten_digits}
use Rattle.format.specs.Cutting.{is_open, cut_of, EndingSoFar}
use Rattle.format.specs.Answers.{accepted, broken_line, unknown_record, misplaced_record, ends_early, after_trailer, beyond_limits, refusal, acceptance, number_of}
use Rattle.format.specs.declared.Answer.{Answer}
use Rattle.format.specs.declared.Cut.{Cut}
use Rattle.format.specs.declared.Kind.{Kind}
use Rattle.format.specs.declared.Kind.TheVariants.{FileHeader, BatchHeaderB, BatchHeaderC, FixedDescription, OrderingParty, Transaction, NamePayer, CityPayer, PaymentReference, Description, NameBeneficiary, CityBeneficiary, BatchTrailer, FileTrailer}
use Rattle.record.specs.Kinds.{code_of}
use Rattle.record.specs.Faults.{after_header, empty_batch, fields_of, fault_of}
use Rattle.record.specs.Read.{transaction_for, record_for, text_for, no_text}
use Rattle.record.specs.declared.Before.{Before}
use Rattle.record.specs.declared.Batch.{Batch}
use Rattle.record.specs.declared.Totals.{Totals}
use Rattle.record.specs.declared.ClosedBatch.{ClosedBatch}
use Rattle.record.specs.Faults.{Fault}
use Rattle.record.specs.declared.TransactionFields.{TransactionFields}
use Rattle.record.specs.declared.Record.TheVariants.{Nothing}
use Rattle.reading.specs.State.{no_item, within}
use Rattle.reading.specs.Order.{is_stage, allowed}
use Rattle.reading.specs.declared.Stage.{Stage}
use Rattle.reading.specs.declared.Stage.TheVariants.{Headed, Opened, Ordered, Item, Closed, Done}
use Rattle.reading.specs.declared.Name.{Name}
use Rattle.reading.specs.declared.Name.TheVariants.{Unwanted, Due, Read, Past}
use Rattle.reading.specs.declared.OpenItem.{OpenItem}
use Rattle.reading.specs.declared.State.{State}
use Rattle.reading.specs.declared.Judged as code
use Rattle.reading.specs.declared.Accepted.{Accepted}
use Rattle.record.specs.declared.Fault as handed
use Rattle.reading.specs.declared.LineRead.{LineRead}

-- ## The state after a record

-- one line more, and all that a record can change
abbrev pub onward : State → Stage → Before → Batch → Totals → OpenItem → State
onward s p e b t i = record { line = s.line + 1; before = e; batch = b; totals = t; stage = p; item = i }

abbrev pub moved : State → Stage → State
moved s p = onward s p s.before s.batch s.totals s.item

abbrev pub opened_batch : Fields BatchHeaderB → Batch
opened_batch x = record { account = ordering_account x; items = 0; total = 0; accounts = 0; fixed = 0 }

abbrev pub opened : State → Fields BatchHeaderB → State
opened s x = onward s Opened (after_header s.before (group_of (group x)) (sequence x)) (opened_batch x) s.totals no_item

abbrev pub fixed_one : Batch → Batch
fixed_one b = record { account = b.account; items = b.items; total = b.total; accounts = b.accounts; fixed = b.fixed + 1 }

abbrev pub with_fixed : State → State
with_fixed s = onward s s.stage s.before (fixed_one s.batch) s.totals s.item

-- a batch with one item more: 'sum of all payers and beneficiaries, rightmost ten digits'
abbrev pub paid_batch : Batch → TransactionFields → Batch
paid_batch b t =
    record {
      account = b.account;
      items = b.items + 1;
      total = b.total + t.amount;
      accounts = ten_digits (b.accounts + t.payer + t.beneficiary);
      fixed = b.fixed;
    }

abbrev pub name_if : Bool → Name
name_if true = Due
name_if false = Unwanted

abbrev pub opened_item : TransactionFields → OpenItem
opened_item t = record { name = name_if (is_unchecked_type t.kind); reference = false; descriptions = 0 }

abbrev pub paid : State → TransactionFields → State
paid s t = onward s Item s.before (paid_batch s.batch t) s.totals (opened_item t)

abbrev pub named : State → Name → State
named s n = onward s s.stage s.before s.batch s.totals (record { name = n; reference = s.item.reference; descriptions = s.item.descriptions })

-- after a reference or a description no city follows the name
abbrev pub after_text : Name → Name
after_text Unwanted = Unwanted
after_text Due = Due
after_text Read = Past
after_text Past = Past

abbrev pub texted : State → Bool → ℕ → State
texted s r n = onward s s.stage s.before s.batch s.totals (record { name = after_text s.item.name; reference = r; descriptions = n })

-- 'the total amount and the number of items of all closed batches' (02), with one more
abbrev pub with_batch : Totals → Batch → Totals
with_batch t b = record { items = t.items + b.items; amount = t.amount + b.total }

-- a closed batch leaves its group and number, and its items and amount in the totals
abbrev pub closed : State → State
closed s = onward s Closed (after_header s.before s.before.group s.before.sequence) empty_batch (with_batch s.totals s.batch) no_item

-- the batch that a trailer closes, as the state before the trailer has it. (Its items, total and account sum are those of a trailer that is accepted: `trailer-says` in file/proofs/Faults.antt.)
abbrev pub closing : State → ClosedBatch
closing s = record { group = s.before.group; account = s.batch.account; sequence = s.before.sequence; items = s.batch.items; total = s.batch.total; accounts = s.batch.accounts }

abbrev pub next_for : State → (k : Kind) → Fields k → State
next_for s FileHeader x = moved s Headed
next_for s BatchHeaderB x = opened s x
next_for s BatchHeaderC x = opened s (unidentified x)
next_for s FixedDescription x = with_fixed s
next_for s OrderingParty x = moved s Ordered
next_for s Transaction x = paid s (transaction_for x)
next_for s NamePayer x = named s Read
next_for s CityPayer x = named s Past
next_for s PaymentReference x = texted s true s.item.descriptions
next_for s Description x = texted s s.item.reference (s.item.descriptions + 1)
next_for s NameBeneficiary x = named s Read
next_for s CityBeneficiary x = named s Past
next_for s BatchTrailer x = closed s
next_for s FileTrailer x = moved s Done

-- ## The judging of a line

-- what it comes to: the answer's number and column, how many bytes the line took and its code where it is accepted, and the state after it
pub record Judged : Type 0 where
  pub number : ℕ
  pub column : ℕ
  pub bytes : ℕ
  pub code : Code
  pub next : State

-- a refusal leaves the state
abbrev pub refused : State → ℕ → ℕ → Judged
refused s column number = record { number = number; column = column; bytes = 0; code = None; next = s }

-- by its characters alone: the cut adds the bytes that it took and the end that it fixed (`withCut`)
abbrev pub taken : Kind → State → Judged
taken k next = record { number = accepted; column = 0; bytes = 0; code = Some k; next = next }

-- a line of a kind that may stand here: its first fault, or the state after it
abbrev pub judged_by : State → Kind → List ℕ → Fault → Judged
judged_by s k line f = pick (eqb f.number 0) (taken k (next_for s k (fields_of k line))) (refused s f.column f.number)

unfoldable pub judged_as : State → Kind → List ℕ → Judged
judged_as s k line = judged_by s k line (fault_of s.before s.batch k line)

-- 2, 3, then the fields
unfoldable pub judged_kind : State → Kind → List ℕ → Judged
judged_kind s k line = pick (allowed s k) (judged_as s k line) (refused s 1 misplaced_record)

abbrev pub judged_code : State → List ℕ → Code → Judged
judged_code s line (Some k) = judged_kind s k line
judged_code s line None = refused s 1 unknown_record

-- the 50 characters of a line
unfoldable pub judged_line : State → List ℕ → Judged
judged_line s line = judged_code s line (code_of (take 5 line))

abbrev pub before_ending : EndingSoFar → Before → Before
before_ending e p = record { sequence = p.sequence; group = p.group; known = p.known; ending = e }

abbrev pub with_ending : EndingSoFar → State → State
with_ending e s = record { line = s.line; before = before_ending e s.before; batch = s.batch; totals = s.totals; stage = s.stage; item = s.item }

-- what is taken of bytes that are cut so: a line that is accepted takes its bytes, and fixes the end
abbrev pub taken_with : Cut → Judged → Judged
taken_with c j = record { number = j.number; column = j.column; bytes = c.bytes; code = j.code; next = with_ending c.ending j.next }

unfoldable pub with_cut : Cut → Judged → Judged
with_cut c j = pick (eqb j.number accepted) (taken_with c j) j

abbrev pub is_done : State → Bool
is_done s = is_stage s.stage Done

-- the first line of bytes of which there is one at least: 24, 11, 1, then the line
unfoldable pub judged_first : State → List ℕ → Judged
judged_first s xs =
    pick (within s)
    (pick (is_done s) (refused s 0 after_trailer)
    (pick (is_open s.before.ending (cut_of xs).ending) (with_cut (cut_of xs) (judged_line s (take 50 xs)))
    (refused s 0 broken_line)))
    (refused s 0 beyond_limits)

-- ## What functions hand out, in these words

abbrev pub Last : Type 0
Last = Result (Option Accepted) handed.Fault

abbrev pub number_by : Last → ℕ
number_by (Ok l) = accepted
number_by (Err f) = number_of f.refusal

abbrev pub column_by : Last → ℕ
column_by (Ok l) = 0
column_by (Err f) = f.column

abbrev pub bytes_by : Last → ℕ
bytes_by (Ok (Some l)) = l.bytes
bytes_by (Ok None) = 0
bytes_by (Err f) = 0

abbrev pub code_by : Last → Code
code_by (Ok (Some l)) = Some l.kind
code_by (Ok None) = None
code_by (Err f) = None

abbrev pub lines_read : Last → State → Judged
lines_read l next = record { number = number_by l; column = column_by l; bytes = bytes_by l; code = code_by l; next = next }

abbrev pub judged_read : code.Judged → Judged
judged_read j = lines_read j.last j.next

-- ## THE STEP: what the bytes that remain are answered

-- the line that a refusal names; 24 names none
abbrev pub refusal_line : ℕ → ℕ → ℕ
refusal_line number line = pick (eqb number beyond_limits) 0 (line + 1)

abbrev pub refusal_by : Judged → Answer
refusal_by j = refusal j.number (refusal_line j.number j.next.line) j.column

abbrev pub refusal_after : ℕ → handed.Fault → Answer
refusal_after line f = refusal (number_of f.refusal) (refusal_line (number_of f.refusal) line) f.column

abbrev pub nothing_read : State → Answer → LineRead
nothing_read s a = record { answer = a; next = s; bytes = 0; read = Nothing; text = no_text }

abbrev pub read_by : List ℕ → Code → Judged → LineRead
read_by line (Some k) j =
    record {
      answer = acceptance j.next.line;
      next = j.next;
      bytes = j.bytes;
      read = record_for k (fields_of k line);
      text = text_for k (fields_of k line);
    }
read_by line None j = nothing_read j.next (refusal_by j)

-- no bytes remain: 24, 10, or the end
unfoldable pub ended_at : State → Answer
ended_at s =
    pick (within s)
    (pick (is_done s) (acceptance s.line)
    (refusal ends_early (s.line + 1) 0))
    (refusal beyond_limits 0 0)

unfoldable pub step_at : State → List ℕ → LineRead
step_at s [] = nothing_read s (ended_at s)
step_at s (x ∷ xs) = read_by (take 50 (x ∷ xs)) (judged_first s (x ∷ xs)).code (judged_first s (x ∷ xs))
