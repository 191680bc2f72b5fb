-- A line, field after field. Assumes nothing.
use Prim.Native.Nat.{ℕ, ◌+◌, ◌-◌, ◌≤◌, ◌<◌}
use mathlib.Core.Path.{◌≡◌, refl, sym, ◌∙◌, ap, ap₂, subst}
use mathlib.Core.List.{List, [], ◌∷◌, ◌++◌, append_assoc, append-nil}
use mathlib.Core.Bool.{Bool, true, false, ◌&&◌}
use native.Mathlib.Omega.{arith}
use Rattle.std.proofs.lemmas.List.{replicate-append-replicate}
use lib.ListN.{length, take, drop, length-append, length-replicate, drop_of_length-le}
use lib.Seq.{take_all, take_at, drop_at, drop-append-add, length-take-le}
use borrow.Author.Tests.{ne_eqb, leb-true}
use lib.Dec.{T, leb, ltb, leb→le}
use Rattle.machine.specs.Lists.{pick, all, is_digit, is_space, spaces, pasted, put_in}
use Rattle.machine.specs.Digits.{pow10, decimal}
use Rattle.machine.proofs.Base.{and_l}
use Rattle.machine.proofs.Digits.{length_decimal, decimal_digits, decimal_last}
use Rattle.field.proofs.Putting.{put_fits}
use Rattle.format.specs.Fields.{filled, filler}
use Rattle.format.specs.Records.{layout, code}
use Rattle.format.specs.Rules.{CLIEOP03, EUR, test_text, group_text, type_text}
use Rattle.format.specs.declared.Group.{Group}
use Rattle.format.specs.declared.Group.TheVariants.{Payments, Debits}
use Rattle.format.specs.declared.TransactionType.{TransactionType}
use Rattle.format.specs.declared.TransactionType.TheVariants.{UncheckedCreditor, UncheckedSalary, Creditor, Salary, Debit, UncheckedDebit}
use Rattle.format.specs.declared.Kind.{Kind}
use Rattle.format.specs.declared.Kind.TheVariants as kinds
use Rattle.format.proofs.Every.{every}
use Rattle.format.proofs.Link.{line_widths}
use Rattle.record.specs.Read.{text_part}
use Rattle.record.specs.declared.Transaction.{Transaction}
use Rattle.reading.specs.declared.State.{State}
use Rattle.writer.specs.Encoding.{unfit, number_in, text_in, blank_in, line_end, encoded_line}
use Rattle.writer.specs.Entries.{digits_for, file_header_given, ordering_party_given, transaction_given, batch_trailer_given, kind_of, given_for, line_for}
use Rattle.writer.specs.Inner.{header_start, batch_header_line}
use Rattle.writer.specs.declared.Entry.{Entry}
use Rattle.writer.specs.declared.Entry.TheVariants.{BatchHeader}

-- ## How long a field is

pub unfit_long : (w : ℕ) → w ≤ 45 → length (unfit w) ≡ w
unfit_long w h = length-take-le w (0 ∷ spaces 44) h

pub number_long : (w n : ℕ) → w ≤ 45 → length (number_in w n) ≡ w
unfolding number_in pick
number_long w n h = by (ltb n (pow10 w))
  where
    by : (q : Bool) → length (pick q (decimal w n) (unfit w)) ≡ w
    by true = length_decimal w n
    by false = unfit_long w h

pub text_long : (w : ℕ) (t : List ℕ) → w ≤ 45 → w ≤ length t → length (text_in w t) ≡ w
unfolding text_in pick
text_long w t h k = by (all is_space (drop w t))
  where
    by : (q : Bool) → length (pick q (take w t) (unfit w)) ≡ w
    by true = length-take-le w t k
    by false = unfit_long w h

pub blank_long : (w : ℕ) (t : List ℕ) → w ≤ 45 → length (blank_in w t) ≡ w
unfolding blank_in pick
blank_long w t h = by (all is_space t)
  where
    by : (q : Bool) → length (pick q (spaces w) (unfit w)) ≡ w
    by true = length-replicate w 32
    by false = unfit_long w h

-- a text as wide as its field
pub exact : (w : ℕ) (t : List ℕ) → length t ≡ w → text_in w t ≡ t
unfolding text_in pick
exact w t h = let k : length t ≤ w = omega arith in rw (drop_of_length-le t k) (take_all w t k)

-- ## A number for a field of characters

digits_unblank : (l : List ℕ) → 0 < length l → T (all is_digit l) → all is_space l ≡ false
digits_unblank [] h t = absurd (omega arith)
digits_unblank (c ∷ l) h t =
    let lo = leb→le 48 c (and_l (leb 48 c) (leb c 57) (and_l (is_digit c) (all is_digit l) t)) in
    ap (λ q. q && all is_space l) (ne_eqb c 32 (λ e. omega arith))

pub digits_beyond : (w n : ℕ) → w < 20 → all is_space (drop w (decimal 20 n)) ≡ false
digits_beyond w n h = ap (all is_space) (decimal_last w (20 - w) 20 n (omega arith)) ∙ digits_unblank (decimal (20 - w) n) (omega (arith, length_decimal (20 - w) n)) (decimal_digits (20 - w) n)

pub digits_long : (w n : ℕ) → w < 20 → w ≤ length (digits_for w n)
unfolding digits_for pick
digits_long w n h = by (ltb n (pow10 w))
  where
    by : (q : Bool) → w ≤ length (pick q (decimal w n) (decimal 20 n))
    by true = omega (arith, length_decimal w n)
    by false = omega (arith, length_decimal 20 n)

pub digits_in : (w n : ℕ) → w < 20 → text_in w (digits_for w n) ≡ number_in w n
unfolding text_in number_in digits_for pick
digits_in w n h = by (ltb n (pow10 w))
  where
    by : (q : Bool) → pick (all is_space (drop w (pick q (decimal w n) (decimal 20 n)))) (take w (pick q (decimal w n) (decimal 20 n))) (unfit w) ≡ pick q (decimal w n) (unfit w)
    by true = exact w (decimal w n) (length_decimal w n)
    by false = rw (digits_beyond w n h)

-- ## How long a text is

pub group_long : (g : Group) → length (group_text g) ≡ 2
group_long Payments = refl
group_long Debits = refl

pub type_long : (y : TransactionType) → length (type_text y) ≡ 4
type_long UncheckedCreditor = refl
type_long UncheckedSalary = refl
type_long Creditor = refl
type_long Salary = refl
type_long Debit = refl
type_long UncheckedDebit = refl

pub test_long : (b : Bool) → length (test_text b) ≡ 1
test_long true = refl
test_long false = refl

-- ## Field after field: what is written so far, then spaces and the end

split_end : (w n : ℕ) → spaces (w + n) ++ line_end ≡ spaces w ++ (spaces n ++ line_end)
split_end w n = ap (λ t. t ++ line_end) (sym (replicate-append-replicate w n 32)) ∙ append_assoc (spaces w) (spaces n) line_end

record Built (l d : List ℕ) (a n : ℕ) : Type 0 where
  is : l ≡ d ++ (spaces n ++ line_end)
  long : length d ≡ a

module _ {l d m : List ℕ} (w n a : ℕ) (b : Built l d a (w + n)) where
  field : (t : List ℕ) → length t ≡ w → m ≡ put_in l a t → Built m (d ++ t) (a + w) n
  unfolding pasted
  field t h e =
      let s : List ℕ = spaces (w + n) ++ line_end in
      let f : a + length t ≤ length (d ++ s) = simp (length-append, length-replicate) (omega (arith, b.long)) in
      let q : a + length t ≡ length d + w = omega (arith, b.long) in
      record {
        is =
            put_fits (d ++ s) a t f (e ∙ ap (λ z. put_in z a t) b.is)
            ∙ ap₂ (λ x y. (x ++ t) ++ y) (take_at d s a b.long)
            (ap (λ c. drop c (d ++ s)) q ∙ drop-append-add d s w ∙ ap (drop w) (split_end w n) ∙ drop_at (spaces w) (spaces n ++ line_end) w (length-replicate w 32));
        long = length-append d t ∙ ap₂ ◌+◌ b.long h;
      }

  blank : (t : List ℕ) → w ≤ 45 → m ≡ pick (all is_space t) l (put_in l a (unfit w)) → Built m (d ++ blank_in w t) (a + w) n
  unfolding blank_in pick
  blank t h = by (all is_space t)
    where
      by : (q : Bool) → m ≡ pick q l (put_in l a (unfit w)) → Built m (d ++ pick q (spaces w) (unfit w)) (a + w) n
      by true e = record {
        is = e ∙ b.is ∙ ap (λ t. d ++ t) (split_end w n) ∙ sym (append_assoc d (spaces w) (spaces n ++ line_end));
        long = length-append d (spaces w) ∙ ap₂ ◌+◌ b.long (length-replicate w 32);
      }
      by false e = field (unfit w) (unfit_long w h) e

start : (c : List ℕ) {l : List ℕ} → length c ≡ 5 → l ≡ c ++ (spaces 45 ++ line_end) → Built l c 5 45
start c h e = record { is = e; long = h }

-- the end and the code, put into spaces
pub code_put : {l x c : List ℕ} (k : Kind) → l ≡ put_in (spaces 52) 50 line_end → c ≡ code k → x ≡ put_in l 0 c → x ≡ code k ++ (spaces 45 ++ line_end)
unfolding put_in pasted pick
code_put {l} k f h e = let b : Built l [] 0 (5 + 45) = record { is = f; long = refl } in (field 5 45 0 b (code k) (line_widths k).0 (e ∙ ap (put_in l 0) h)).is

-- ## The kinds

-- a number, or a text that is its field
module _ {l d m : List ℕ} (w n a : ℕ) (b : Built l d a (w + n)) where
  number : (v : ℕ) → w ≤ 45 → m ≡ put_in l a (number_in w v) → Built m (d ++ number_in w v) (a + w) n
  number v h e = field w n a b (number_in w v) (number_long w v h) e

  fixed : (t : List ℕ) → length t ≡ w → m ≡ put_in l a t → Built m (d ++ text_in w t) (a + w) n
  fixed t h e = let q = exact w t h in subst (λ y. Built m (d ++ y) (a + w) n) (sym q) (field w n a b t h e)

  given : (t : List ℕ) → w ≤ 45 → w ≤ length t → m ≡ put_in l a (text_in w t) → Built m (d ++ text_in w t) (a + w) n
  given t h k e = field w n a b (text_in w t) (text_long w t h k) e

abbrev coded : List ℕ → List ℕ
coded c = c ++ (spaces 45 ++ line_end)

pub file_header_is : (x y z : ℕ) (t : List ℕ) {a b c d e r : List ℕ} → length t ≡ 35 → a ≡ coded (code kinds.FileHeader) → b ≡ put_in a 5 (number_in 6 x) → c ≡ put_in b 11 CLIEOP03
    → d ≡ put_in c 19 (text_in 5 t) → e ≡ put_in d 24 (number_in 4 y) → r ≡ put_in e 28 (number_in 1 z) → r ≡ encoded_line (code kinds.FileHeader) (layout kinds.FileHeader) (file_header_given x y z t)
unfolding encoded_line blank_in pick
file_header_is x y z t h p q u v w m =
    let b1 = number 6 39 5 (start (code kinds.FileHeader) refl p) x (omega arith) q in
    let b2 = fixed 8 31 11 b1 CLIEOP03 refl u in
    let b3 = given 5 26 19 b2 t (omega arith) (omega arith) v in
    let b4 = given 4 22 24 b3 (digits_for 4 y) (omega arith) (digits_long 4 y (omega arith)) (w ∙ ap (put_in _ 24) (sym (digits_in 4 y (omega arith)))) in
    let b5 = number 1 21 28 b4 z (omega arith) m in
    b5.is ∙ simp append_assoc

pub header_start_lem : (g : Group) (x y : ℕ) (l : List ℕ) {t a b c r : List ℕ} → t ≡ group_text g → a ≡ put_in l 5 t → b ≡ put_in a 7 (number_in 10 x) → c ≡ put_in b 17 (number_in 4 y) → r ≡ put_in c 21 EUR → r ≡ header_start l g x y
header_start_lem g x y l o p q u v = v ∙ rw (u, q, p, o)

header_built : (c : List ℕ) (g : Group) (x y : ℕ) {l r : List ℕ} → length c ≡ 5 → l ≡ coded c → r ≡ header_start l g x y → Built r ((((c ++ text_in 2 (group_text g)) ++ number_in 10 x) ++ number_in 4 y) ++ text_in 3 EUR) 24 26
header_built c g x y h p q =
    let b1 = fixed 2 43 5 (start c h p) (group_text g) (group_long g) refl in
    let b2 = number 10 33 7 b1 x (omega arith) refl in
    let b3 = number 4 29 17 b2 y (omega arith) refl in
    fixed 3 26 21 b3 EUR refl q

pub identified_is : {b : Bool} (g : Group) (x y : ℕ) (t : List ℕ) {a c r : List ℕ} → b ≡ true → length t ≡ 35 → a ≡ coded (code kinds.BatchHeaderC) → c ≡ header_start a g x y → r ≡ put_in c 24 (text_in 16 t) → r ≡ batch_header_line b g x y t
unfolding encoded_line blank_in pick
identified_is g x y t i h p q u = (given 16 10 24 (header_built (code kinds.BatchHeaderC) g x y refl p q) t (omega arith) (omega arith) u).is ∙ rw i (simp append_assoc)

pub unidentified_is : {b : Bool} (g : Group) (x y : ℕ) (t : List ℕ) {a c r : List ℕ} → b ≡ false → a ≡ coded (code kinds.BatchHeaderB) → c ≡ header_start a g x y → r ≡ pick (all is_space t) c (put_in c 24 (unfit 16)) → r ≡ batch_header_line b g x y t
unfolding encoded_line blank_in pick
unidentified_is g x y t i p q u = (blank 16 10 24 (header_built (code kinds.BatchHeaderB) g x y refl p q) t (omega arith) u).is ∙ rw i (simp append_assoc)

pub ordering_party_is : (x y : ℕ) (o : Bool) (t : List ℕ) {s a b c d r : List ℕ} → length t ≡ 35 → s ≡ test_text o → a ≡ coded (code kinds.OrderingParty) → b ≡ put_in a 5 (number_in 1 x) → c ≡ put_in b 6 (number_in 6 y)
    → d ≡ put_in c 12 (text_in 35 t) → r ≡ put_in d 47 s → r ≡ encoded_line (code kinds.OrderingParty) (layout kinds.OrderingParty) (ordering_party_given x y o t)
unfolding encoded_line blank_in pick
ordering_party_is x y o t h f p q u v w =
    let b1 = number 1 44 5 (start (code kinds.OrderingParty) refl p) x (omega arith) q in
    let b2 = number 6 38 6 b1 y (omega arith) u in
    let b3 = given 35 3 12 b2 t (omega arith) (omega arith) v in
    let b4 = fixed 1 2 47 b3 (test_text o) (test_long o) (w ∙ ap (put_in _ 47) f) in
    b4.is ∙ simp append_assoc

pub transaction_is : (x : Transaction) (t : List ℕ) {s a b c d e r : List ℕ} → s ≡ type_text x.kind → a ≡ coded (code kinds.Transaction) → b ≡ put_in a 5 s → c ≡ put_in b 9 (number_in 12 x.amount)
    → d ≡ put_in c 21 (number_in 10 x.payer) → e ≡ put_in d 31 (number_in 10 x.beneficiary) → r ≡ pick (all is_space t) e (put_in e 41 (unfit 9)) → r ≡ encoded_line (code kinds.Transaction) (layout kinds.Transaction) (transaction_given x t)
unfolding encoded_line
transaction_is x t f p q u v w m =
    let b1 = fixed 4 41 5 (start (code kinds.Transaction) refl p) (type_text x.kind) (type_long x.kind) (q ∙ ap (put_in _ 5) f) in
    let b2 = number 12 29 9 b1 x.amount (omega arith) u in
    let b3 = number 10 19 21 b2 x.payer (omega arith) v in
    let b4 = number 10 9 31 b3 x.beneficiary (omega arith) w in
    let b5 = blank 9 0 41 b4 t (omega arith) m in
    b5.is ∙ simp (append_assoc, append-nil)

text_narrow : (k : Kind) → (text_part k).width ≤ 35
text_narrow k = leb-true (text_part k).width 35 (every (λ k. leb (text_part k).width 35 ≡ true) refl refl refl refl refl refl refl refl refl refl refl refl refl refl k)

pub text_line_is : (k : Kind) (t : List ℕ) {a r : List ℕ} → length t ≡ 35 → (text_part k).at ≡ 5 → a ≡ coded (code k) → r ≡ put_in a (text_part k).at (text_in (text_part k).width t) → r ≡ encoded_line (code k) (filled (text_part k).width ∷ filler (45 - (text_part k).width) ∷ []) (t, ([], tt))
unfolding encoded_line blank_in pick
text_line_is k t {a} h o p q =
    let w = (text_part k).width in
    let n = text_narrow k in
    let z : 45 ≡ w + (45 - w) = omega arith in
    let b1 = given w (45 - w) 5 (subst (Built a (code k) 5) z (start (code k) (line_widths k).0 p)) t (omega arith) (omega arith) (q ∙ ap (λ c. put_in a c (text_in w t)) o) in
    b1.is ∙ simp (append_assoc, append-nil)

pub batch_trailer_is : (x y z : ℕ) (t : List ℕ) {a b c d r : List ℕ} → a ≡ coded (code kinds.BatchTrailer) → b ≡ put_in a 5 (number_in 18 x) → c ≡ put_in b 23 (number_in 10 y) → d ≡ put_in c 33 (number_in 7 z)
    → r ≡ pick (all is_space t) d (put_in d 40 (unfit 10)) → r ≡ encoded_line (code kinds.BatchTrailer) (layout kinds.BatchTrailer) (batch_trailer_given x y z t)
unfolding encoded_line
batch_trailer_is x y z t p q u v w =
    let b1 = number 18 27 5 (start (code kinds.BatchTrailer) refl p) x (omega arith) q in
    let b2 = number 10 17 23 b1 y (omega arith) u in
    let b3 = number 7 10 33 b2 z (omega arith) v in
    let b4 = blank 10 0 40 b3 t (omega arith) w in
    b4.is ∙ simp (append_assoc, append-nil)

pub file_trailer_is : (t : List ℕ) {a r : List ℕ} → a ≡ coded (code kinds.FileTrailer) → r ≡ pick (all is_space t) a (put_in a 5 (unfit 45)) → r ≡ encoded_line (code kinds.FileTrailer) (layout kinds.FileTrailer) (t, tt)
unfolding encoded_line
file_trailer_is t p q = let b1 = blank 45 0 5 (start (code kinds.FileTrailer) refl p) t (omega arith) q in b1.is ∙ simp (append_assoc, append-nil)

-- ## A record to write

pub entry_is : {e m : Entry} {r : List ℕ} (s : State) (t : List ℕ) → e ≡ m → r ≡ encoded_line (code (kind_of m)) (layout (kind_of m)) (given_for s t m) → r ≡ line_for s e t
unfolding line_for
entry_is s t p q = q ∙ ap (λ y. line_for s y t) (sym p)

pub entry_header : {e : Entry} {r : List ℕ} (s : State) (t : List ℕ) (g : Group) (a n : ℕ) (b : Bool) → e ≡ BatchHeader g a n b → r ≡ batch_header_line b g a n t → r ≡ line_for s e t
entry_header s t g a n true p q = entry_is s t p q
entry_header s t g a n false p q = entry_is s t p q
