-- WRITTEN, THEN READ: the same record, the same text, the same next state. Assumes nothing.
use Rattle.format.specs.declared.LineEnd.TheVariants.{CrLf}
use Rattle.std.specs.Prelude.{Some}
use Prim.Native.Nat.{ℕ, zero, suc, ◌+◌, ◌-◌, ◌≤◌, ◌<◌}
use mathlib.Core.Path.{◌≡◌, refl, sym, ap, ap₂, ◌∙◌, subst}
use mathlib.Core.List.{List, [], ◌∷◌, ◌++◌, append_assoc}
use mathlib.Core.Bool.{Bool, true, false, not, ◌&&◌, ◌||◌}
use native.Mathlib.Omega.{arith}
use borrow.Author.Tests.{not-false, ltb-true, lt-leb}
use lib.ListN.{length, take, drop, take-append-drop, length-append, length-drop}
use lib.Seq.{take_at, drop_at, take_all, length-take-le}
use lib.Dec.{T, leb, ltb}
use Rattle.machine.specs.Lists.{pick, all, same, is_digit, is_space, spaces}
use Rattle.machine.specs.Digits.{pow10, decimal, value_of}
use Rattle.machine.proofs.Base.{and_l, and_second, true≢false, of_eq, yes, append_inj}
use Rattle.machine.proofs.Digits.{length_decimal, decimal_digits, value_decimal, blank}
use Rattle.field.proofs.Putting.{put_front}
use Rattle.format.specs.Fields.{Field, numeric, filled, optional, free, filler, width, Value, Values, widths, printable, left_justified, well_formed, read_field, write_field, write_fields, Fits}
use Rattle.format.specs.Records.{layout, code}
use Rattle.format.specs.Rules.{test_text, group_text, group_of, type_text, type_of}
use Rattle.format.specs.declared.Group.{Group}
use Rattle.format.specs.declared.Group.TheVariants.{Payments, Debits}
use Rattle.format.specs.declared.TransactionType.{TransactionType}
use Rattle.format.specs.declared.TransactionType.TheVariants.{UncheckedCreditor, UncheckedSalary, Creditor, Salary, Debit, UncheckedDebit}
use Rattle.format.proofs.Checks.{field_read}
use Rattle.format.proofs.Link.{line_widths}
use Rattle.field.specs.Leaf.{Digits}
use Rattle.field.specs.Leaf.{digits_of}
use Rattle.field.proofs.Numerics.{digits_are}
use Rattle.record.specs.Faults.{fields_of}
use Rattle.record.specs.Read.{transaction_record, record_for, text_for, no_text, padded}
use Rattle.record.specs.declared.Record.TheVariants as read
use Rattle.format.specs.Language.{crlf}
use Rattle.format.specs.Cutting.{cut_of}
use Rattle.format.proofs.Cutting.{Line, line_cut}
use Rattle.reading.specs.Step.{with_ending, next_for, step_at}
use Rattle.reading.specs.declared.State.{State}
use Rattle.format.specs.Answers.{acceptance}
use Rattle.reading.specs.declared.LineRead.{LineRead}
use Rattle.writer.specs.Encoding.{unfit, number_in, text_in, blank_in, Given, Givens, encode_field, encode_fields, line_end, encoded_line}
use Rattle.writer.specs.Entries.{digits_for, kind_of, given_for, line_for}
use Rattle.writer.specs.Promises.{record_of, is_text_fit, is_unfit}
use Rattle.writer.specs.declared.Entry.{Entry}
use Rattle.writer.specs.declared.Entry.TheVariants.{FileHeader, BatchHeader, FixedDescription, OrderingParty, Transaction, NamePayer, PaymentReference, Description, NameBeneficiary, BatchTrailer, FileTrailer}
use Rattle.std.proofs.lemmas.List.{drop-replicate}
use Rattle.writer.proofs.Building.{number_long, text_long, digits_beyond, digits_long, blank_long, group_long, type_long, test_long}
use Rattle.record.proofs.Coding.{one_kind}
use Rattle.writer.proofs.Accepting.{Accepted, read_as, accepts, accepted_body}
use Rattle.reading.proofs.Verdicts.{next_line_lem}

-- ## What a field carries

-- a width that a field can have
abbrev pub Wide : ℕ → Type 0
Wide w = (0 < w) × (w ≤ 45)

abbrev pub Sized : (f : Field) → Given f → Type 0
Sized (numeric w) n = Wide w
Sized (filled w) t = Wide w × (w ≤ length t)
Sized (optional w) t = Wide w × (w ≤ length t)
Sized (free w) t = Wide w × (w ≤ length t)
Sized (filler w) t = Wide w

abbrev pub AllSized : (fs : List Field) → Givens fs → Type 0
AllSized [] g = Unit {0}
AllSized (f ∷ fs) g = Sized f g.0 × AllSized fs g.1

abbrev AllCarry : (fs : List Field) → Givens fs → Type 0
AllCarry [] g = Unit {0}
AllCarry (f ∷ fs) g = (is_unfit f g.0 ≡ false) × AllCarry fs g.1

abbrev carried : (f : Field) → Given f → Value f
carried (numeric w) n = n
carried (filled w) t = take w t
carried (optional w) t = take w t
carried (free w) t = take w t
carried (filler w) t = tt

abbrev all_carried : (fs : List Field) → Givens fs → Values fs
all_carried [] g = tt
all_carried (f ∷ fs) g = (carried f g.0, all_carried fs g.1)

pub field_long : (f : Field) (g : Given f) → Sized f g → length (encode_field f g) ≡ width f
field_long (numeric w) n h = number_long w n h.1
field_long (filled w) t h = text_long w t h.0.1 h.1
field_long (optional w) t h = text_long w t h.0.1 h.1
field_long (free w) t h = text_long w t h.0.1 h.1
field_long (filler w) t h = blank_long w t h.1

pub fields_long : (fs : List Field) (g : Givens fs) → AllSized fs g → length (encode_fields fs g) ≡ widths fs
fields_long [] g h = refl
fields_long (f ∷ fs) g h = length-append (encode_field f g.0) (encode_fields fs g.1) ∙ ap₂ ◌+◌ (field_long f g.0 h.0) (fields_long fs g.1 h.1)

-- no field takes what is unfit
unfit_printable : (w : ℕ) (b : Bool) → 0 < w → T (all printable (unfit w) && b) → ⊥
unfit_printable zero b h t = omega arith
unfit_printable (suc w) b h t = t

unfit_digits : (w : ℕ) → 0 < w → T (all is_digit (unfit w)) → ⊥
unfit_digits zero h t = omega arith
unfit_digits (suc w) h t = t

unfit_blank : (w : ℕ) → 0 < w → T (all is_space (unfit w)) → ⊥
unfit_blank zero h t = omega arith
unfit_blank (suc w) h t = t

blank_beyond : (w : ℕ) (t : List ℕ) → not (is_text_fit w t) ≡ false → all is_space (drop w t) ≡ true
blank_beyond w t u = and_second (all printable (take w t)) (all is_space (drop w t)) (not-false (is_text_fit w t) u)

-- so a field that is well formed carries what was given
text_back : (w : ℕ) (t : List ℕ) (b : List ℕ → Bool) → 0 < w → T (all printable (text_in w t) && b (text_in w t)) → (not (is_text_fit w t) ≡ false) × (text_in w t ≡ take w t)
unfolding text_in pick
text_back w t b h = by (all is_space (drop w t)) refl
  where
    by : (q : Bool) → all is_space (drop w t) ≡ q → T (all printable (pick q (take w t) (unfit w)) && b (pick q (take w t) (unfit w))) → (not (is_text_fit w t) ≡ false) × (pick q (take w t) (unfit w) ≡ take w t)
    by true e k = (ap not (ap₂ ◌&&◌ (yes (all printable (take w t)) (and_l (all printable (take w t)) (b (take w t)) k)) e), refl)
    by false e k = absurd (unfit_printable w (b (unfit w)) h k)

and-true : (a : Bool) → T a → T (a && true)
and-true true t = tt
and-true false t = t

pub field_back : (f : Field) (g : Given f) → Sized f g → T (well_formed f (encode_field f g)) → (is_unfit f g ≡ false) × (read_field f (encode_field f g) ≡ carried f g)
unfolding number_in blank_in pick
field_back (numeric w) n h = by (ltb n (pow10 w)) refl
  where
    by : (q : Bool) → ltb n (pow10 w) ≡ q → T (all is_digit (pick q (decimal w n) (unfit w))) → (leb (pow10 w) n ≡ false) × (value_of (pick q (decimal w n) (unfit w)) ≡ n)
    by true e k = let b = ltb-true n (pow10 w) e in (lt-leb (pow10 w) n b, value_decimal w n b)
    by false e k = absurd (unfit_digits w h.0 k)
field_back (filled w) t h = text_back w t left_justified h.0.0
field_back (optional w) t h = text_back w t (λ l. all is_space l || left_justified l) h.0.0
field_back (free w) t h = λ k. text_back w t (λ l. true) h.0.0 (and-true (all printable (text_in w t)) k)
field_back (filler w) t h = λ k. (by (all is_space t) refl k, refl)
  where
    by : (q : Bool) → all is_space t ≡ q → T (all is_space (pick q (spaces w) (unfit w))) → not (all is_space t) ≡ false
    by true e k = ap not e
    by false e k = absurd (unfit_blank w h.0 k)

-- fields that are written as what was given are what was given
pub fields_back_lem : (fs : List Field) (x : Values fs) (g : Givens fs) → Fits fs x → AllSized fs g → write_fields fs x ≡ encode_fields fs g → (x ≡ all_carried fs g) × AllCarry fs g
fields_back_lem [] x g f h e = (refl, tt)
fields_back_lem (f ∷ fs) x g a h e =
    let r = field_read f x.0 a.0 in
    let i = append_inj (write_field f x.0) (write_fields fs x.1) (encode_field f g.0) (encode_fields fs g.1) (r.2 ∙ sym (field_long f g.0 h.0)) e in
    let b = field_back f g.0 h.0 (subst (λ l. T (well_formed f l)) i.0 r.0) in
    let c : x.0 ≡ carried f g.0 = sym r.1 ∙ ap (read_field f) i.0 ∙ b.1 in
    let d = fields_back_lem fs x.1 g.1 a.1 h.1 i.1 in
    (λ j. (c j, d.0 j), (b.0, d.1))

-- ## What each record gives

pub sized : (s : State) (t : List ℕ) → length t ≡ 35 → (e : Entry) → AllSized (layout (kind_of e)) (given_for s t e)
sized s t h (FileHeader d i c) =
    let l = digits_long 4 i (omega arith) in
    ((omega arith, omega arith), (((omega arith, omega arith), omega arith), (((omega arith, omega arith), omega arith), (((omega arith, omega arith), omega (arith, l)), ((omega arith, omega arith), ((omega arith, omega arith), tt))))))
sized s t h (BatchHeader g a q true) =
    let l = group_long g in
    (((omega arith, omega arith), omega (arith, l)), ((omega arith, omega arith), ((omega arith, omega arith), (((omega arith, omega arith), omega arith), (((omega arith, omega arith), omega arith), ((omega arith, omega arith), tt))))))
sized s t h (BatchHeader g a q false) =
    let l = group_long g in
    (((omega arith, omega arith), omega (arith, l)), ((omega arith, omega arith), ((omega arith, omega arith), (((omega arith, omega arith), omega arith), ((omega arith, omega arith), ((omega arith, omega arith), tt))))))
sized s t h FixedDescription = (((omega arith, omega arith), omega arith), ((omega arith, omega arith), tt))
sized s t h (OrderingParty n d b) =
    let l = test_long b in
    ((omega arith, omega arith), ((omega arith, omega arith), (((omega arith, omega arith), omega arith), (((omega arith, omega arith), omega (arith, l)), ((omega arith, omega arith), tt)))))
sized s t h (Transaction x) =
    let l = type_long x.kind in
    (((omega arith, omega arith), omega (arith, l)), ((omega arith, omega arith), ((omega arith, omega arith), ((omega arith, omega arith), ((omega arith, omega arith), tt)))))
sized s t h NamePayer = (((omega arith, omega arith), omega arith), ((omega arith, omega arith), tt))
sized s t h PaymentReference = (((omega arith, omega arith), omega arith), ((omega arith, omega arith), tt))
sized s t h Description = (((omega arith, omega arith), omega arith), ((omega arith, omega arith), tt))
sized s t h NameBeneficiary = (((omega arith, omega arith), omega arith), ((omega arith, omega arith), tt))
sized s t h BatchTrailer = ((omega arith, omega arith), ((omega arith, omega arith), ((omega arith, omega arith), ((omega arith, omega arith), tt))))
sized s t h FileTrailer = ((omega arith, omega arith), tt)

-- ## The record

type_of_lem : (y : TransactionType) → type_of (take 4 (type_text y)) ≡ Some y
unfolding type_of same pick
type_of_lem UncheckedCreditor = refl
type_of_lem UncheckedSalary = refl
type_of_lem Creditor = refl
type_of_lem Salary = refl
type_of_lem Debit = refl
type_of_lem UncheckedDebit = refl

group_of_lem : (g : Group) → group_of (take 2 (group_text g)) ≡ g
unfolding same pick
group_of_lem Payments = refl
group_of_lem Debits = refl

test_of : (b : Bool) → same (take 1 (test_text b)) (test_text true) ≡ b
unfolding same
test_of true = refl
test_of false = refl

decimal_of : (i : ℕ) → i < pow10 4 → (digits_of (take 4 (decimal 4 i))).value ≡ i
decimal_of i h =
    let l : length (decimal 4 i) ≤ 18 = omega (arith, length_decimal 4 i) in
    let d : all is_digit (decimal 4 i) ≡ true = yes (all is_digit (decimal 4 i)) (decimal_digits 4 i) in
    ap (λ m. (digits_of m).value) (take_all 4 (decimal 4 i) (omega (arith, length_decimal 4 i)))
    ∙ sym (ap (λ (r : Digits). r.value) (digits_are (decimal 4 i) l d (sym (value_decimal 4 i h))))

identification_of : (i : ℕ) → not (is_text_fit 4 (digits_for 4 i)) ≡ false → (digits_of (take 4 (digits_for 4 i))).value ≡ i
unfolding digits_for pick
identification_of i = by (ltb i (pow10 4)) refl
  where
    by : (q : Bool) → ltb i (pow10 4) ≡ q → not (is_text_fit 4 (pick q (decimal 4 i) (decimal 20 i))) ≡ false → (digits_of (take 4 (pick q (decimal 4 i) (decimal 20 i)))).value ≡ i
    by true e u = decimal_of i (ltb-true i (pow10 4) e)
    by false e u = absurd (true≢false (sym (blank_beyond 4 (decimal 20 i) u) ∙ digits_beyond 4 i (omega arith)))

record_back : (s : State) (t : List ℕ) (e : Entry) → AllCarry (layout (kind_of e)) (given_for s t e) → record_for (kind_of e) (all_carried (layout (kind_of e)) (given_for s t e)) ≡ record_of s e
record_back s t (FileHeader d i c) f = ap (λ n. read.FileHeader d n c) (identification_of i f.1.1.1.0)
record_back s t (BatchHeader g a q true) f = ap (λ y. read.BatchHeader y a q true) (group_of_lem g)
record_back s t (BatchHeader g a q false) f = ap (λ y. read.BatchHeader y a q false) (group_of_lem g)
record_back s t FixedDescription f = refl
record_back s t (OrderingParty n d b) f = ap (λ y. read.OrderingParty n d y) (test_of b)
record_back s t (Transaction x) f = ap (λ y. transaction_record y x.amount x.payer x.beneficiary) (type_of_lem x.kind)
record_back s t NamePayer f = refl
record_back s t PaymentReference f = refl
record_back s t Description f = refl
record_back s t NameBeneficiary f = refl
record_back s t BatchTrailer f = refl
record_back s t FileTrailer f = refl

-- ## The text: all of it

pub padded_is : (w : ℕ) (t : List ℕ) → length t ≡ w → w ≤ 35 → padded t ≡ t ++ spaces (35 - w)
unfolding padded
padded_is w t h k =
    put_front no_text t (omega arith) refl ∙ ap (λ n. t ++ drop n no_text) h ∙ ap (λ r. t ++ r) (drop-replicate w 35 32)

text_all : (w : ℕ) (t : List ℕ) → length t ≡ 35 → w ≤ 35 → not (is_text_fit w t) ≡ false → padded (take w t) ≡ t
text_all w t h k u =
    padded_is w (take w t) (length-take-le w t (omega arith)) k
    ∙ ap (λ r. take w t ++ r) (sym (blank (35 - w) (drop w t) (rw length-drop (omega arith)) (of_eq _ (blank_beyond w t u))))
    ∙ take-append-drop w t

text_none : (t : List ℕ) → length t ≡ 35 → not (all is_space t) ≡ false → no_text ≡ t
text_none t h u = sym (blank 35 t h (of_eq _ (not-false (all is_space t) u)))

text_back_is : (s : State) (t : List ℕ) (e : Entry) → length t ≡ 35 → AllCarry (layout (kind_of e)) (given_for s t e) → text_for (kind_of e) (all_carried (layout (kind_of e)) (given_for s t e)) ≡ t
text_back_is s t (FileHeader d i c) h b = text_all 5 t h (omega arith) b.1.1.0
text_back_is s t (BatchHeader g a q true) h b = text_all 16 t h (omega arith) b.1.1.1.1.0
text_back_is s t (BatchHeader g a q false) h b = text_none t h b.1.1.1.1.0
text_back_is s t FixedDescription h b = text_all 32 t h (omega arith) b.0
text_back_is s t (OrderingParty n d o) h b = text_all 35 t h (omega arith) b.1.1.0
text_back_is s t (Transaction x) h b = text_none t h b.1.1.1.1.0
text_back_is s t NamePayer h b = text_all 35 t h (omega arith) b.0
text_back_is s t PaymentReference h b = text_all 16 t h (omega arith) b.0
text_back_is s t Description h b = text_all 32 t h (omega arith) b.0
text_back_is s t NameBeneficiary h b = text_all 35 t h (omega arith) b.0
text_back_is s t BatchTrailer h b = text_none t h b.1.1.1.0
text_back_is s t FileTrailer h b = text_none t h b.0

-- ## The line

module _ (s : State) (e : Entry) (t : List ℕ) (h : length t ≡ 35) where
  body_long : length (encode_fields (layout (kind_of e)) (given_for s t e)) ≡ 45
  body_long = fields_long (layout (kind_of e)) (given_for s t e) (sized s t h e) ∙ (line_widths (kind_of e)).1

  fifty_long : length (code (kind_of e) ++ encode_fields (layout (kind_of e)) (given_for s t e)) ≡ 50
  fifty_long = length-append (code (kind_of e)) (encode_fields (layout (kind_of e)) (given_for s t e)) ∙ ap₂ ◌+◌ (line_widths (kind_of e)).0 body_long

  parts : line_for s e t ≡ (code (kind_of e) ++ encode_fields (layout (kind_of e)) (given_for s t e)) ++ line_end
  unfolding line_for encoded_line
  parts = sym (append_assoc (code (kind_of e)) (encode_fields (layout (kind_of e)) (given_for s t e)) line_end)

  pub line_52 : length (line_for s e t) ≡ 52
  line_52 = ap length parts ∙ length-append (code (kind_of e) ++ encode_fields (layout (kind_of e)) (given_for s t e)) line_end ∙ ap (λ n. n + 2) fifty_long

  is_line : Line line_end (line_for s e t)
  is_line = record { long = line_52; ended = ap (drop 50) parts ∙ drop_at (code (kind_of e) ++ encode_fields (layout (kind_of e)) (given_for s t e)) line_end 50 fifty_long }

  front : take 50 (line_for s e t) ≡ code (kind_of e) ++ encode_fields (layout (kind_of e)) (given_for s t e)
  front = ap (take 50) parts ∙ take_at (code (kind_of e) ++ encode_fields (layout (kind_of e)) (given_for s t e)) line_end 50 fifty_long

  pub front_code : take 5 (take 50 (line_for s e t)) ≡ code (kind_of e)
  front_code = ap (take 5) front ∙ take_at (code (kind_of e)) (encode_fields (layout (kind_of e)) (given_for s t e)) 5 (line_widths (kind_of e)).0

  pub front_body : take 45 (drop 5 (take 50 (line_for s e t))) ≡ encode_fields (layout (kind_of e)) (given_for s t e)
  front_body =
      ap (λ l. take 45 (drop 5 l)) front ∙ ap (take 45) (drop_at (code (kind_of e)) (encode_fields (layout (kind_of e)) (given_for s t e)) 5 (line_widths (kind_of e)).0)
      ∙ take_all 45 (encode_fields (layout (kind_of e)) (given_for s t e)) (omega (arith, body_long))

  -- the fields that are read of it are those given
  of_accepted : (a : Accepted s (line_for s e t)) → a.kind ≡ kind_of e → step_at s (line_for s e t) ≡ record { answer = acceptance (s.line + 1); next = with_ending (Some CrLf) (next_for s (kind_of e) (fields_of (kind_of e) (take 50 (line_for s e t)))); bytes = 52; read = record_of s e; text = t }
  of_accepted a q =
      let x = fields_of (kind_of e) (take 50 (line_for s e t)) in
      let f : Fits (layout (kind_of e)) x = subst (λ m. Fits (layout m) (fields_of m (take 50 (line_for s e t)))) q a.fields.fits in
      let w : take 45 (drop 5 (take 50 (line_for s e t))) ≡ write_fields (layout (kind_of e)) x = accepted_body a ∙ ap (λ m. write_fields (layout m) (fields_of m (take 50 (line_for s e t)))) q in
      let b = fields_back_lem (layout (kind_of e)) x (given_for s t e) f (sized s t h e) (sym w ∙ front_body) in
      let r = ap (record_for (kind_of e)) b.0 ∙ record_back s t e b.1 in
      let y = ap (text_for (kind_of e)) b.0 ∙ text_back_is s t e h b.1 in
      a.step ∙ ap (λ m. read_as s (cut_of (line_for s e t)) m (fields_of m (take 50 (line_for s e t)))) q ∙ ap (λ c. read_as s c (kind_of e) x) (line_cut crlf (line_for s e t) is_line)
      ∙ ap₂ (λ i j. record { answer = acceptance (s.line + 1); next = with_ending (Some CrLf) (next_for s (kind_of e) x); bytes = 52; read = i; text = j }) r y

  pub read_line : (step_at s (line_for s e t)).answer.number ≡ 0 → (step_at s (line_for s e t)).next.line ≡ s.line + 1
  read_line z =
      let a = accepts s (line_for s e t) (omega (arith, line_52)) z in
      ap (λ (r : LineRead). r.next.line) (of_accepted a (one_kind a.kind (kind_of e) a.coded front_code)) ∙ next_line_lem s (kind_of e) _

  pub read_back : (step_at s (line_for s e t)).answer.number ≡ 0 → step_at s (line_for s e t) ≡ record { answer = acceptance (s.line + 1); next = (step_at s (line_for s e t)).next; bytes = 52; read = record_of s e; text = t }
  read_back z =
      let a = accepts s (line_for s e t) (omega (arith, line_52)) z in
      let q = of_accepted a (one_kind a.kind (kind_of e) a.coded front_code) in
      q ∙ ap (λ n. record { answer = acceptance (s.line + 1); next = n; bytes = 52; read = record_of s e; text = t }) (sym (ap (λ (r : LineRead). r.next) q))
