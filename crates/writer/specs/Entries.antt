-- A record to write as its line: what it gives for the fields of its kind, with its text, and a batch trailer's numbers from the state.
use Rattle.std.specs.Prelude.{ℕ, List, [], Bool, true, false, ltb}
use Rattle.machine.specs.Lists.{pick}
use Rattle.machine.specs.Digits.{pow10, decimal}
use Rattle.format.specs.Records.{layout, code}
use Rattle.format.specs.Rules.{CLIEOP03, EUR, test_text, group_text, type_text}
use Rattle.format.specs.declared.Kind.{Kind}
use Rattle.format.specs.declared.Kind.TheVariants as kinds
use Rattle.format.specs.declared.Group.{Group}
use Rattle.record.specs.declared.Transaction.{Transaction}
use Rattle.reading.specs.declared.State.{State}
use Rattle.writer.specs.Encoding.{Givens, encoded_line}
use Rattle.writer.specs.declared.Entry.{Entry}
use Rattle.writer.specs.declared.Entry.TheVariants.{FileHeader, BatchHeader, FixedDescription, OrderingParty, NamePayer, PaymentReference, Description, NameBeneficiary, BatchTrailer, FileTrailer}
use Rattle.writer.specs.declared.Entry.TheVariants as entry

abbrev pub kind_of : Entry → Kind
kind_of (FileHeader d i c) = kinds.FileHeader
kind_of (BatchHeader g a q true) = kinds.BatchHeaderC
kind_of (BatchHeader g a q false) = kinds.BatchHeaderB
kind_of FixedDescription = kinds.FixedDescription
kind_of (OrderingParty n d b) = kinds.OrderingParty
kind_of (entry.Transaction x) = kinds.Transaction
kind_of NamePayer = kinds.NamePayer
kind_of PaymentReference = kinds.PaymentReference
kind_of Description = kinds.Description
kind_of NameBeneficiary = kinds.NameBeneficiary
kind_of BatchTrailer = kinds.BatchTrailer
kind_of FileTrailer = kinds.FileTrailer

-- ## Field by field. Where a record has no text, none may be given for the first of its blank fields

-- the identification is a number for a field of characters: in so many digits, or in twenty where it is too large
unfoldable pub digits_for : ℕ → ℕ → List ℕ
digits_for w n = pick (ltb n (pow10 w)) (decimal w n) (decimal 20 n)

abbrev pub file_header_given : ℕ → ℕ → ℕ → List ℕ → Givens (layout kinds.FileHeader)
file_header_given created identification duplicate t = (created, (CLIEOP03, (t, (digits_for 4 identification, (duplicate, ([], tt))))))

-- of both variants: the text is the batch identification, which is blank for B
abbrev pub batch_header_given : Group → ℕ → ℕ → List ℕ → Givens (layout kinds.BatchHeaderB)
batch_header_given g account sequence t = (group_text g, (account, (sequence, (EUR, (t, ([], tt))))))

abbrev pub ordering_party_given : ℕ → ℕ → Bool → List ℕ → Givens (layout kinds.OrderingParty)
ordering_party_given n desired test t = (n, (desired, (t, (test_text test, ([], tt)))))

abbrev pub transaction_given : Transaction → List ℕ → Givens (layout kinds.Transaction)
transaction_given x t = (type_text x.kind, (x.amount, (x.payer, (x.beneficiary, (t, tt)))))

abbrev pub batch_trailer_given : ℕ → ℕ → ℕ → List ℕ → Givens (layout kinds.BatchTrailer)
batch_trailer_given total accounts items t = (total, (accounts, (items, (t, tt))))

abbrev pub given_for : State → List ℕ → (e : Entry) → Givens (layout (kind_of e))
given_for s t (FileHeader d i c) = file_header_given d i c t
given_for s t (BatchHeader g a q true) = batch_header_given g a q t
given_for s t (BatchHeader g a q false) = batch_header_given g a q t
given_for s t FixedDescription = (t, ([], tt))
given_for s t (OrderingParty n d b) = ordering_party_given n d b t
given_for s t (entry.Transaction x) = transaction_given x t
given_for s t NamePayer = (t, ([], tt))
given_for s t PaymentReference = (t, ([], tt))
given_for s t Description = (t, ([], tt))
given_for s t NameBeneficiary = (t, ([], tt))
given_for s t BatchTrailer = batch_trailer_given s.batch.total s.batch.accounts s.batch.items t
given_for s t FileTrailer = (t, tt)

-- THE LINE of a record to write: its 52 bytes
unfoldable pub line_for : State → Entry → List ℕ → List ℕ
line_for s e t = encoded_line (code (kind_of e)) (layout (kind_of e)) (given_for s t e)
