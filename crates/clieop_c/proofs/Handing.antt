-- The numbers and texts of an item, handed out where there is room for all of them. Assumes nothing.
use Rattle.std.specs.Prelude.{Some, None}
use Prim.Native.Nat.{ℕ, ◌+◌, ◌≤◌, ◌<◌}
use mathlib.Core.Path.{◌≡◌, refl, sym, ap, ap₂, subst, ◌∙◌}
use mathlib.Core.List.{List, [], ◌∷◌, ◌++◌, append-nil, append_assoc}
use mathlib.Core.Bool.{Bool, true, false}
use mathlib.Core.Logic.{◌⊎◌, inl, inr}
use mathlib.Core.Option.{Option, none, some}
use native.Mathlib.Omega.{arith}
use borrow.Author.Tests.{eq-eqb, ne_eqb, eqb-false, le-leb, lt-leb}
use lib.ListN.{length, take, drop, length-append, length-drop, drop_of_length-le}
use lib.Seq.{take_at, drop_at, drop-drop, length-take-le}
use lib.Dec.{leb, eqb}
use Rattle.machine.specs.Lists.{pick, same, pasted, put_in}
use Rattle.machine.specs.Digits.{digits_onto, decimal, value_after}
use Rattle.format.specs.Answers.{refusal, acceptance}
use Rattle.format.specs.declared.Answer.{Answer}
use Rattle.format.specs.Cutting.{lines_in}
use Rattle.format.specs.Rules.{type_of, is_type, TypeRead}
use Rattle.format.specs.declared.TransactionType.{TransactionType}
use Rattle.format.specs.declared.TransactionType.TheVariants.{UncheckedCreditor, UncheckedSalary, Creditor, Salary, Debit, UncheckedDebit}
use Rattle.field.proofs.Putting.{put_fits, length_pasted, pasted_both}
use Rattle.reading.specs.Check.{check_of}
use Rattle.items.specs.Search.{no_fields, started, after_lines}
use Rattle.items.specs.Answering.{answered, answered_by, room_by, item_of, room_after}
use Rattle.items.specs.Promises.{Promised, ItemAt, handed_out, room_with, texts_for, item_at}
use Rattle.items.specs.declared.ItemFields.{ItemFields}
use Rattle.items.specs.declared.ItemRead.{ItemRead}
use Rattle.clieop_c.specs.Returned.{unpacked, number_of, type_number, item_asked, numbers_with, texts_with, item_numbers, texts_by, item_texts, fields_with, fields_back, Held, fields_in, item_by, item_found, described_room, ItemPromised}
use Rattle.clieop_c.proofs.Packing.{check_line}

-- ## The type

-- its number is read back
number_read : (y : TransactionType) → type_of (decimal 4 (number_of y)) ≡ Some y
unfolding type_of decimal digits_onto number_of value_after same pick
number_read UncheckedCreditor = refl
number_read UncheckedSalary = refl
number_read Creditor = refl
number_read Salary = refl
number_read Debit = refl
number_read UncheckedDebit = refl

type_read : (k : TypeRead) → is_type k ≡ true → type_of (decimal 4 (type_number k)) ≡ k
type_read (Some y) h = number_read y
type_read None h = absurd (let z : ◌≡◌ {A = ℕ} 0 1 = cc in omega arith)

-- ## Numbers

pub numbers_put : {kind : ℕ} {o : List ℕ} (f : ItemFields) (numbers : List ℕ) → kind ≡ type_number f.kind → o ≡ kind ∷ f.amount ∷ f.payer ∷ f.beneficiary ∷ [] → o ++ drop 4 numbers ≡ numbers_with f numbers
unfolding numbers_with
numbers_put f numbers k e = rw (e, k) refl

-- ## Texts

module _ {t u : List ℕ} (f : ItemFields) (texts : List ℕ) (h : length f.reference ≡ 16) (k : length f.name ≡ 24) (l : 168 ≤ length texts) (e : t ≡ put_in texts 128 f.reference) (g : u ≡ put_in t 144 f.name) where
  pub texts_put : u ≡ texts_with f texts
  unfolding texts_with
  texts_put =
      let x = f.reference in
      let p = put_fits texts 128 x (omega (arith, h)) e in
      let n = ap length p ∙ length_pasted texts 128 x (omega (arith, h)) in
      let a : 144 ≡ 128 + length x = omega (arith, h) in
      put_fits t 144 f.name (omega (arith, k, n)) g ∙ ap₂ (λ z m. pasted z m f.name) p a ∙ pasted_both texts 128 x f.name (omega (arith, h))

  -- everything from the reference on
  behind : drop 128 u ≡ f.reference ++ (f.name ++ drop (128 + length (f.reference ++ f.name)) texts)
  unfolding texts_with pasted
  behind =
      let both = f.reference ++ f.name in
      let rest : List ℕ = drop (128 + length both) texts in
      ap (drop 128) (texts_put ∙ append_assoc (take 128 texts) both rest) ∙ drop_at (take 128 texts) (both ++ rest) 128 (length-take-le 128 texts (omega arith)) ∙ append_assoc f.reference f.name rest

  reference_put : take 16 (drop 128 u) ≡ f.reference
  reference_put = ap (take 16) behind ∙ take_at f.reference _ 16 h

  name_put : take 24 (drop 144 u) ≡ f.name
  name_put = ap (take 24) (sym (drop-drop 16 128 u) ∙ ap (drop 16) behind ∙ drop_at f.reference _ 16 h) ∙ take_at f.name _ 24 k

  pub put_found : fields_back f u ≡ f
  unfolding fields_back fields_with
  put_found =
      let x = reference_put in
      let y = name_put in
      λ i. record { kind = f.kind; amount = f.amount; payer = f.payer; beneficiary = f.beneficiary; reference = x i; name = y i }

texts_first : (f : ItemFields) (t : List ℕ) → 128 ≤ length t → take 128 (texts_with f t) ≡ take 128 t
unfolding texts_with pasted
texts_first f t l =
    let both = f.reference ++ f.name in
    let rest : List ℕ = drop (128 + length both) t in
    ap (take 128) (append_assoc (take 128 t) both rest) ∙ take_at (take 128 t) (both ++ rest) 128 (length-take-le 128 t l)

-- ## The answer

-- a refusal without fields, or an item with a type
data Shape (line : ℕ) : ItemRead → Type 0 where
  refusing : (number column : ℕ) → (number ≡ 0 → ⊥) → Shape line (answered (refusal number line column) no_fields)
  handing : (f : ItemFields) → is_type f.kind ≡ true → Shape line (answered (acceptance line) f)

shape_by : (a : Answer) (f : ItemFields) (p q w : Bool) → eqb a.number 0 ≡ p → is_type f.kind ≡ q
    → Shape a.line (pick p (pick q (pick w (answered (acceptance a.line) f) (answered (refusal 12 a.line 0) no_fields)) (answered (refusal 13 a.line 0) no_fields)) (answered a no_fields))
unfolding pick
shape_by a f true true true e h = handing f h
shape_by a f true true false e h = refusing 12 0 (λ z. absurd (omega (arith, z)))
shape_by a f true false w e h = refusing 13 0 (λ z. absurd (omega (arith, z)))
shape_by a f false q w e h = refusing a.number a.column (eqb-false a.number 0 e)

shape : (file : List ℕ) (batch item room : ℕ) → Shape (check_of file).line (item_of file batch item room)
unfolding item_of answered_by
shape file batch item room =
    let f = (after_lines (started batch item) (lines_in file)).found.fields in
    shape_by (check_of file) f (eqb (check_of file).number 0) (is_type f.kind) (leb 128 room) refl refl

line_shape : {line : ℕ} {r : ItemRead} → Shape line r → r.answer.line ≡ line
line_shape (refusing number column z) = refl
line_shape (handing f h) = refl

found_shape : {line : ℕ} {r : ItemRead} (before texts : List ℕ) → Shape line r → Held r texts → item_by r.answer (item_numbers r before) texts ≡ r
unfolding item_by pick item_numbers numbers_with fields_in fields_back Held
found_shape before texts (refusing number column z) h = rw (ne_eqb number 0 z) refl
found_shape {line} before texts (handing f g) h =
    ap (answered (acceptance line)) (ap (λ x. fields_with x f.amount f.payer f.beneficiary texts) (type_read f.kind g) ∙ h refl)

pub held_handed : (r : ItemRead) (texts : List ℕ) → fields_back r.fields texts ≡ r.fields → Held r texts
unfolding Held
held_handed r texts e z = e

pub held_refused : (r : ItemRead) (texts : List ℕ) → (r.answer.number ≡ 0 → ⊥) → Held r texts
unfolding Held
held_refused r texts h z = absurd (h z)

pub numbers_kept : (r : ItemRead) (numbers : List ℕ) → (r.answer.number ≡ 0 → ⊥) → numbers ≡ item_numbers r numbers
unfolding item_numbers pick
numbers_kept r numbers z = rw (ne_eqb _ _ z) refl

-- ## Without room

-- what is handed out goes by whether the room is large enough
same_handed : (lines : ℕ) (x : Option ItemAt) (a b : ℕ) → leb 128 a ≡ leb 128 b → handed_out lines x a ≡ handed_out lines x b
same_handed lines none a b e = refl
same_handed lines (some x) a b e = rw e refl

lacking : (a : Answer) (q b : Bool) → eqb a.number 0 ≡ b
    → (pick b (pick q (answered (refusal 12 a.line 0) no_fields) (answered (refusal 13 a.line 0) no_fields)) (answered a no_fields)).answer.number ≡ 0 → ⊥
unfolding pick
lacking a true true e w = absurd (omega (arith, w))
lacking a false true e w = absurd (omega (arith, w))
lacking a q false e w = eqb-false a.number 0 e w

lacking_refused : (file : List ℕ) (batch item : ℕ) → (item_of file batch item 0).answer.number ≡ 0 → ⊥
unfolding item_of answered_by pick
lacking_refused file batch item = lacking (check_of file) (is_type (after_lines (started batch item) (lines_in file)).found.fields.kind) (eqb (check_of file).number 0) refl

-- what lacks: four numbers, or bytes for the texts
abbrev Lacks : ℕ → ℕ → Type 0
Lacks count room = (count < 4) ⊎ ((4 ≤ count) × (room < 168))

module _ {count room : ℕ} where
  lacks_room : {A : Type 0} (x y : A) → Lacks count room → pick (leb 4 count) (pick (leb 168 room) x y) y ≡ y
  unfolding pick
  lacks_room x y (inl h) = rw (lt-leb 4 count h) refl
  lacks_room x y (inr h) = rw (le-leb 4 count h.0, lt-leb 168 room h.1) refl

module _ {r : ItemRead} (file : List ℕ) (batch item : ℕ) (e : r ≡ item_of file batch item 0) where
  lacking_answer : r.answer.number ≡ 0 → ⊥
  lacking_answer w = lacking_refused file batch item (ap (λ (y : ItemRead). y.answer.number) (sym e) ∙ w)

  pub lacking_numbers : (numbers : List ℕ) → numbers ≡ item_numbers r numbers
  lacking_numbers numbers = numbers_kept r numbers lacking_answer

  pub lacking_held : (texts : List ℕ) → Held r texts
  lacking_held texts = held_refused r texts lacking_answer

  pub lacking_asked : (room count : ℕ) → Lacks count room → r ≡ item_asked file batch item room count
  unfolding item_asked
  lacking_asked room count h = e ∙ ap (item_of file batch item) (sym (lacks_room room 0 h))

  pub lacking_texts : (texts : List ℕ) (count : ℕ) → Lacks count (length texts) → texts ≡ item_texts file batch item texts count
  unfolding item_texts pick
  lacking_texts texts count h =
      let z : (item_asked file batch item (length texts) count).answer.number ≡ 0 → ⊥ = λ w. lacking_answer (ap (λ (y : ItemRead). y.answer.number) (lacking_asked (length texts) count h) ∙ w) in
      rw (ne_eqb _ _ z) refl

pub lacking_promised : {r : ItemRead} (file : List ℕ) (batch item : ℕ) (texts : List ℕ) (count : ℕ) → Promised file batch item [] r [] → Lacks count (length texts) → ItemPromised file batch item texts r texts count
unfolding described_room
lacking_promised {r} file batch item texts count p h = subst (λ x. Promised file batch item x r x) (sym (lacks_room (take 128 texts) [] h)) p

-- ## With room

kept_by : (p q w : Bool) (x y : List ℕ) (i j k l : ItemRead) → (p ≡ true → i.answer.number ≡ 0) → ((pick p (pick q (pick w i j) k) l).answer.number ≡ 0 → ⊥) → pick p (pick q (pick w x y) y) y ≡ y
unfolding pick
kept_by true true true x y i j k l z h = absurd (h (z refl))
kept_by true true false x y i j k l z h = refl
kept_by true false w x y i j k l z h = refl
kept_by false q w x y i j k l z h = refl

refused_kept : (file : List ℕ) (batch item : ℕ) (out : List ℕ) → ((item_of file batch item (length out)).answer.number ≡ 0 → ⊥) → room_after file batch item out ≡ out
unfolding item_of answered_by room_after room_by
refused_kept file batch item out h =
    kept_by (eqb (check_of file).number 0) (is_type (after_lines (started batch item) (lines_in file)).found.fields.kind) (leb 128 (length out)) _ out _ _ _ _ (λ e. refl) h

pub numbers_handed : {o : List ℕ} (r : ItemRead) (numbers : List ℕ) → r.answer.number ≡ 0 → o ≡ numbers_with r.fields numbers → o ≡ item_numbers r numbers
unfolding item_numbers pick
numbers_handed r numbers z e = e ∙ rw (eq-eqb _ _ z) refl

module _ {r : ItemRead} {count : ℕ} (file : List ℕ) (batch item : ℕ) (texts : List ℕ) (h : 4 ≤ count) (k : 168 ≤ length texts) (e : r ≡ item_of file batch item (length texts)) where
  pub asked : r ≡ item_asked file batch item (length texts) count
  unfolding item_asked pick
  asked = e ∙ rw (le-leb 4 count h, le-leb 168 (length texts) k) refl

  by_asked : (t : List ℕ) → texts_by r texts t ≡ texts_by (item_asked file batch item (length texts) count) texts t
  by_asked t = ap (λ y. texts_by y texts t) asked

  module _ {t : List ℕ} (f : t ≡ room_after file batch item texts) where
    pub texts_handed : {u : List ℕ} → r.answer.number ≡ 0 → u ≡ texts_with r.fields t → u ≡ item_texts file batch item texts count
    unfolding item_texts pick
    texts_handed {u} z g = g ∙ ap (texts_with r.fields) f ∙ rw (eq-eqb _ _ z) refl ∙ by_asked (room_after file batch item texts)

    pub texts_refused : (r.answer.number ≡ 0 → ⊥) → t ≡ item_texts file batch item texts count
    unfolding item_texts pick
    texts_refused z =
        f ∙ refused_kept file batch item texts (λ w. z (ap (λ (y : ItemRead). y.answer.number) e ∙ w)) ∙ rw (ne_eqb _ _ z) refl ∙ by_asked (room_after file batch item texts)

-- ## The promise, of the first 128 bytes

module _ (out : List ℕ) (l : 128 ≤ length out) where
  long : length (take 128 out) ≡ 128
  long = length-take-le 128 out l

  fits : leb 128 (length out) ≡ true
  fits = le-leb 128 (length out) l

  first_fits : leb 128 (length (take 128 out)) ≡ true
  first_fits = ap (leb 128) long

  first_put : (t : List ℕ) {after : List ℕ} → length after ≡ length out → after ≡ pick (leb 128 (length out)) (t ++ drop 128 out) out → take 128 after ≡ pick (leb 128 (length (take 128 out))) (t ++ drop 128 (take 128 out)) (take 128 out)
  unfolding pick
  first_put t {after} k e =
      let e' : after ≡ t ++ drop 128 out = e ∙ rw fits refl in
      let n : length t ≡ 128 = omega (arith, l, k, ap length e' ∙ length-append t (drop 128 out), length-drop 128 out) in
      let m : drop 128 (take 128 out) ≡ [] = drop_of_length-le (take 128 out) {i = 128} (omega (arith, long)) in
      ap (take 128) e' ∙ take_at t (drop 128 out) 128 n ∙ rw (first_fits, m) (sym (append-nil t))

  first_written : (x : Option ItemAt) {after : List ℕ} → length after ≡ length out → after ≡ room_with x out → take 128 after ≡ room_with x (take 128 out)
  first_written none k e = ap (take 128) e
  first_written (some x) k e = first_put (texts_for x) k e

  first_promised : {file after : List ℕ} {batch item : ℕ} {r : ItemRead} → length after ≡ length out → Promised file batch item out r after → Promised file batch item (take 128 out) r (take 128 after)
  first_promised {batch = batch} {item = item} {r = r} k p =
      record {
        handed = λ f h. p.handed f h ∙ same_handed r.answer.line (item_at f batch item) (length out) (length (take 128 out)) (fits ∙ sym first_fits);
        written = λ f h. first_written (item_at f batch item) k (p.written f h);
        lines = p.lines;
        refusal = p.refusal;
        untouched = λ h. ap (take 128) (p.untouched h);
      }

room_all : (x : List ℕ) (count : ℕ) → 4 ≤ count → 168 ≤ length x → described_room x count ≡ take 128 x
unfolding described_room pick
room_all x count h l = rw (le-leb 4 count h, le-leb 168 (length x) l) refl

module _ {r : ItemRead} {t : List ℕ} (file : List ℕ) (batch item : ℕ) (texts : List ℕ) (count : ℕ) (h : 4 ≤ count) (l : 168 ≤ length texts) (k : length t ≡ length texts) (p : Promised file batch item texts r t) where
  first_asked : (o : List ℕ) → length o ≡ length texts → take 128 o ≡ take 128 t → ItemPromised file batch item texts r o count
  first_asked o n d =
      subst (λ x. Promised file batch item x r (described_room o count)) (sym (room_all texts count h l))
      (subst (λ x. Promised file batch item (take 128 texts) r x) (sym (room_all o count h (omega (arith, l, n)) ∙ d))
      (first_promised texts (omega arith) k p))

  pub promised_refused : ItemPromised file batch item texts r t count
  promised_refused = first_asked t k refl

  pub promised_handed : (u : List ℕ) → length u ≡ length t → u ≡ texts_with r.fields t → ItemPromised file batch item texts r u count
  promised_handed u n f = first_asked u (n ∙ k) (ap (take 128) f ∙ texts_first r.fields t (omega (arith, k)))

-- ## The whole

module _ {r : ItemRead} (file : List ℕ) (batch item room count : ℕ) (e : r ≡ item_asked file batch item room count) where
  pub whole_line : r.answer.line ≤ 6999369996
  unfolding item_asked
  whole_line = subst (λ n. n ≤ 6999369996) (sym (ap (λ (y : ItemRead). y.answer.line) e ∙ line_shape (shape file batch item _))) (check_line file)

  module _ (n : ℕ) (numbers before texts : List ℕ) (u : unpacked n ≡ r.answer) (h : numbers ≡ item_numbers r before) (t : Held r texts) where
    own : item_found n numbers texts ≡ r
    unfolding item_asked
    own = ap₂ (λ a x. item_by a x texts) u h ∙ found_shape before texts (subst (Shape (check_of file).line) (sym e) (shape file batch item _)) t

    pub whole_found : item_found n numbers texts ≡ item_asked file batch item room count
    whole_found = own ∙ e

    pub whole_promised : (lent : List ℕ) → ItemPromised file batch item lent r texts count → ItemPromised file batch item lent (item_found n numbers texts) texts count
    whole_promised lent p = subst (λ y. ItemPromised file batch item lent y texts count) (sym own) p
