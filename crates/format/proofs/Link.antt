-- Lines against records: what a step says of its line, and what the step makes of a record's line. No kind of record is named but in the tables.
use mathlib.Core.Path.{◌≡◌, refl, sym, ap, ap₂, ◌∙◌, subst}
use mathlib.Core.Bool.{Bool, true, false, not, cond}
use mathlib.Core.List.{List, [], ◌∷◌, ◌++◌, append_assoc}
use mathlib.Core.Option.{Option, none, some}
use Prim.Native.Nat.{ℕ, zero, suc, ◌+◌}
use native.Mathlib.Omega.{arith}
use lib.ListN.{length, take, drop, take-append-drop, length-drop, length-append}
use lib.Seq.{take_at, drop_at, length-take-le, drop-drop}
use lib.Dec.{T}
use Rattle.machine.specs.Lists.{same}
use Rattle.machine.proofs.Base.{next, none≢some, next≢refuse, same→eq}
use Rattle.format.specs.Fields.{write_fields, read_fields, widths}
use Rattle.format.specs.Records.{layout, code, Fields}
use Rattle.format.specs.Language.{Rec, line_of}
use Rattle.format.specs.Answers.{unknown_record, misplaced_record}
use Rattle.format.specs.declared.Kind.{Kind}
use Rattle.format.specs.declared.Kind.TheVariants.{Transaction, BatchTrailer}
use Rattle.format.specs.declared.Group.{Group}
use Rattle.format.proofs.Cutting.{Line}
use Rattle.format.proofs.Checks.{judge, judge_pass, pass_judge, line_checks, line_passed, Written, line_written}
use Rattle.format.proofs.Every.{kinds, every}
use Rattle.format.proofs.Reader.{fresh, left, Phase, Context, State, at, ended, MayEnd, unnamed_payment, named_payment, open_debit, Place, file_header, first_batch_b, first_batch_c, next_batch_b, next_batch_c, fixed_description, ordering_party, first_item, next_item, batch_trailer, payment_reference, payment_description, payment_description_more, beneficiary_name, beneficiary_city, payer_name, payer_city, debit_reference, debit_description, debit_description_more, file_trailer, Choice, choices, advance, tests, maxima, checks, kind_of, find, lost, found, step, Ok}

-- ## A record's place is found by its code

pub find_code : {p : Phase} (c : List ℕ) (os : List (Choice p)) (o : Choice p) → find c os ≡ some o → c ≡ code o.0
find_code c [] o e = absurd (none≢some e)
find_code {p} c (u ∷ os) o e = by (same c (code u.0)) refl e (find_code c os o)
  where
    by : (q : Bool) → same c (code u.0) ≡ q → cond q (some u) (find c os) ≡ some o → (find c os ≡ some o → c ≡ code o.0) → c ≡ code o.0
    by true q e r = let i : u ≡ o = cc in same→eq c (code u.0) (subst T (sym q) tt) ∙ ap (λ (v : Choice p). code v.0) i
    by false q e r = r e

find_item : {p : Phase} {g : Group} (i : MayEnd p g) → find (code Transaction) (choices p) ≡ some (Transaction, next_item i)
unfolding same
find_item (unnamed_payment {r = fresh}) = refl
find_item (unnamed_payment {r = left zero}) = refl
find_item (unnamed_payment {r = left (suc n)}) = refl
find_item (named_payment {c = true}) = refl
find_item (named_payment {c = false}) = refl
find_item (open_debit {c = true} {r = fresh}) = refl
find_item (open_debit {c = true} {r = left zero}) = refl
find_item (open_debit {c = true} {r = left (suc n)}) = refl
find_item (open_debit {c = false} {r = fresh}) = refl
find_item (open_debit {c = false} {r = left zero}) = refl
find_item (open_debit {c = false} {r = left (suc n)}) = refl

find_trailer : {p : Phase} {g : Group} (i : MayEnd p g) → find (code BatchTrailer) (choices p) ≡ some (BatchTrailer, batch_trailer i)
unfolding same
find_trailer (unnamed_payment {r = fresh}) = refl
find_trailer (unnamed_payment {r = left zero}) = refl
find_trailer (unnamed_payment {r = left (suc n)}) = refl
find_trailer (named_payment {c = true}) = refl
find_trailer (named_payment {c = false}) = refl
find_trailer (open_debit {c = true} {r = fresh}) = refl
find_trailer (open_debit {c = true} {r = left zero}) = refl
find_trailer (open_debit {c = true} {r = left (suc n)}) = refl
find_trailer (open_debit {c = false} {r = fresh}) = refl
find_trailer (open_debit {c = false} {r = left zero}) = refl
find_trailer (open_debit {c = false} {r = left (suc n)}) = refl

pub find_place : {p : Phase} {k : Kind} (pl : Place p k) → find (code k) (choices p) ≡ some (k, pl)
unfolding same
find_place file_header = refl
find_place first_batch_b = refl
find_place first_batch_c = refl
find_place next_batch_b = refl
find_place next_batch_c = refl
find_place fixed_description = refl
find_place (ordering_party {n = zero}) = refl
find_place (ordering_party {n = suc n}) = refl
find_place first_item = refl
find_place (next_item i) = find_item i
find_place (batch_trailer i) = find_trailer i
find_place (payment_reference {n = true}) = refl
find_place (payment_reference {n = false}) = refl
find_place (payment_description {n = true}) = refl
find_place (payment_description {n = false}) = refl
find_place (payment_description_more {n = true}) = refl
find_place (payment_description_more {n = false}) = refl
find_place (beneficiary_name {r = fresh}) = refl
find_place (beneficiary_name {r = left zero}) = refl
find_place (beneficiary_name {r = left (suc n)}) = refl
find_place beneficiary_city = refl
find_place payer_name = refl
find_place (payer_city {r = fresh}) = refl
find_place (payer_city {r = left zero}) = refl
find_place (payer_city {r = left (suc n)}) = refl
find_place (debit_reference {c = true}) = refl
find_place (debit_reference {c = false}) = refl
find_place (debit_description {c = true}) = refl
find_place (debit_description {c = false}) = refl
find_place (debit_description_more {c = true}) = refl
find_place (debit_description_more {c = false}) = refl
find_place file_trailer = refl

item_not_ended : {p : Phase} {g : Group} → MayEnd p g → T (not (ended p))
item_not_ended unnamed_payment = tt
item_not_ended named_payment = tt
item_not_ended open_debit = tt

pub not_ended : {p : Phase} {k : Kind} → Place p k → T (not (ended p))
not_ended file_header = tt
not_ended first_batch_b = tt
not_ended first_batch_c = tt
not_ended next_batch_b = tt
not_ended next_batch_c = tt
not_ended fixed_description = tt
not_ended ordering_party = tt
not_ended first_item = tt
not_ended (next_item i) = item_not_ended i
not_ended (batch_trailer i) = item_not_ended i
not_ended payment_reference = tt
not_ended payment_description = tt
not_ended payment_description_more = tt
not_ended beneficiary_name = tt
not_ended beneficiary_city = tt
not_ended payer_name = tt
not_ended payer_city = tt
not_ended debit_reference = tt
not_ended debit_description = tt
not_ended debit_description_more = tt
not_ended file_trailer = tt

-- every line has 5 and 45 characters
pub line_widths : (k : Kind) → (length (code k) ≡ 5) × (widths (layout k) ≡ 45)
line_widths = every (λ k. (length (code k) ≡ 5) × (widths (layout k) ≡ 45)) (refl, refl) (refl, refl) (refl, refl) (refl, refl) (refl, refl) (refl, refl) (refl, refl) (refl, refl) (refl, refl) (refl, refl) (refl, refl) (refl, refl) (refl, refl) (refl, refl)

line_parts : (z c : List ℕ) → drop 50 c ≡ z → c ≡ take 5 c ++ (take 45 (drop 5 c) ++ z)
line_parts z c e =
    sym (take-append-drop 5 c) ∙ ap (λ l. take 5 c ++ l) (sym (take-append-drop 45 (drop 5 c)) ∙ ap (λ l. take 45 (drop 5 c) ++ l) (drop-drop 45 5 c ∙ e))

-- ## What a step means
pub record Taken (z : List ℕ) (p : Phase) (s : Context) (c : List ℕ) (s' : State) : Type 0 where
  pub kind : Kind
  pub fields_of : Fields kind
  pub place : Place p kind
  pub ok : Ok place s fields_of
  pub after : advance place s fields_of ≡ s'
  pub line : c ≡ line_of z (kind, fields_of)

pub taken : (z : List ℕ) (p : Phase) (s : Context) (c : List ℕ) (s' : State) → Line z c → step (at p s) c ≡ next s' → Taken z p s c s'
taken z p s c s' h e = at_kind (find (take 5 c) (choices p)) refl e
  where
    l : List ℕ
    l = take 45 (drop 5 c)

    l_length : length l ≡ 45
    l_length = length-take-le 45 (drop 5 c) (rw length-drop (omega (arith, h.long)))

    none_next : (k : Option Kind) → lost k ≡ next s' → ⊥
    none_next none e = next≢refuse s' unknown_record 1 e
    none_next (some k) e = next≢refuse s' misplaced_record 1 e

    at_kind : (o : Option (Choice p)) → find (take 5 c) (choices p) ≡ o → found s (take 5 c) l o ≡ next s' → Taken z p s c s'
    at_kind none q e = absurd (none_next (kind_of (take 5 c) kinds) e)
    at_kind (some o) q e =
        let k = o.0 in
        let x = read_fields (layout k) l in
        let j = judge_pass (checks o.1 s l) (advance o.1 s x) s' e in
        let w = line_passed 6 (layout k) (tests o.1 s x) l (maxima k s x) (l_length ∙ sym (line_widths k).1) j.0 in
        record {
          kind = k;
          fields_of = x;
          place = o.1;
          ok = record { fits = w.fits; holds = w.holds; max = w.after };
          after = j.1;
          line = line_parts z c h.ended ∙ ap₂ (λ a b. a ++ (b ++ z)) (find_code (take 5 c) (choices p) o q) w.same;
        }

-- ## The line of a record that is right here

module _ {p : Phase} {k : Kind} (pl : Place p k) (s : Context) (x : Fields k) (o : Ok pl s x) where
  written : Written 6 (layout k) (tests pl s x) x (maxima k s x)
  written = line_written 6 (layout k) (tests pl s x) x (maxima k s x) o.fits o.holds o.max

  body_length : length (write_fields (layout k) x) ≡ 45
  body_length = written.long ∙ (line_widths k).1

  pub line_length : (z : List ℕ) → length (line_of z (k, x)) ≡ 50 + length z
  line_length z = simp length-append (omega (arith, body_length, (line_widths k).0))

  pub line_code : (z : List ℕ) → take 5 (line_of z (k, x)) ≡ code k
  line_code z = take_at (code k) (write_fields (layout k) x ++ z) 5 (line_widths k).0

  line_rest : (z : List ℕ) → drop 5 (line_of z (k, x)) ≡ write_fields (layout k) x ++ z
  line_rest z = drop_at (code k) (write_fields (layout k) x ++ z) 5 (line_widths k).0

  line_body : (z : List ℕ) → take 45 (drop 5 (line_of z (k, x))) ≡ write_fields (layout k) x
  line_body z = ap (take 45) (line_rest z) ∙ take_at (write_fields (layout k) x) z 45 body_length

  pub line_end_lem : (z : List ℕ) → drop 50 (line_of z (k, x)) ≡ z
  line_end_lem z = sym (drop-drop 45 5 (line_of z (k, x))) ∙ ap (drop 45) (line_rest z) ∙ drop_at (write_fields (layout k) x) z 45 body_length

  fifty : length (code k ++ write_fields (layout k) x) ≡ 50
  fifty = simp length-append (omega (arith, body_length, (line_widths k).0))

  -- its characters, with another end
  pub line_again : (z y : List ℕ) → take 50 (line_of z (k, x)) ++ y ≡ line_of y (k, x)
  line_again z y =
      ap (λ l. take 50 l ++ y) (sym (append_assoc (code k) (write_fields (layout k) x) z))
      ∙ ap (λ l. l ++ y) (take_at (code k ++ write_fields (layout k) x) z 50 fifty)
      ∙ append_assoc (code k) (write_fields (layout k) x) y

  pub line_after : (z r : List ℕ) → drop 50 (line_of z (k, x) ++ r) ≡ z ++ r
  line_after z r = ap (drop 50) parts ∙ drop_at (code k ++ write_fields (layout k) x) (z ++ r) 50 fifty
    where
      parts : line_of z (k, x) ++ r ≡ (code k ++ write_fields (layout k) x) ++ (z ++ r)
      parts = simp append_assoc refl

  pub is_line : (z : List ℕ) → Line z (line_of z (k, x))
  is_line z = record { long = line_length z; ended = line_end_lem z }

  pub line_is_taken : (z : List ℕ) → step (at p s) (line_of z (k, x)) ≡ next (advance pl s x)
  line_is_taken z =
      let b = write_fields (layout k) x in
      ap (λ c. found s c (take 45 (drop 5 (line_of z (k, x)))) (find c (choices p))) (line_code z) ∙ ap₂ (λ l o. found s (code k) l o) (line_body z) (find_place pl)
      ∙ ap (λ y. judge (line_checks 6 (layout k) (tests pl s y) b (maxima k s y)) (advance pl s y)) written.back
      ∙ pass_judge (line_checks 6 (layout k) (tests pl s x) b (maxima k s x)) (advance pl s x) written.passes

-- ## For a reader that is to agree with this one: the step at a line whose kind has a place, and at one whose kind has none

pub step_in : {p : Phase} {k : Kind} (pl : Place p k) (s : Context) (c : List ℕ) → take 5 c ≡ code k
    → step (at p s) c ≡ judge (checks pl s (take 45 (drop 5 c))) (advance pl s (read_fields (layout k) (take 45 (drop 5 c))))
step_in {p} pl s c e = ap (λ o. found s (take 5 c) (take 45 (drop 5 c)) (find o (choices p))) e ∙ ap (found s (take 5 c) (take 45 (drop 5 c))) (find_place pl)

pub step_out : (p : Phase) (s : Context) (c : List ℕ) → find (take 5 c) (choices p) ≡ none → step (at p s) c ≡ lost (kind_of (take 5 c) kinds)
step_out p s c e = ap (found s (take 5 c) (take 45 (drop 5 c))) e

-- ## A record is known by its line

pub kind_of_code : (k : Kind) → kind_of (code k) kinds ≡ some k
unfolding same
kind_of_code = every (λ k. kind_of (code k) kinds ≡ some k) refl refl refl refl refl refl refl refl refl refl refl refl refl refl

fields_at : List ℕ → Option Kind → Option Rec
fields_at l none = none
fields_at l (some k) = some (k, read_fields (layout k) l)

decode : List ℕ → Option Rec
decode c = fields_at (take 45 (drop 5 c)) (kind_of (take 5 c) kinds)

decode_line : {p : Phase} {k : Kind} (pl : Place p k) (s : Context) (x : Fields k) → Ok pl s x → (z : List ℕ) → decode (line_of z (k, x)) ≡ some (k, x)
unfolding decode fields_at
decode_line {k = k} pl s x o z =
    ap₂ fields_at (line_body pl s x o z) (ap (λ c. kind_of c kinds) (line_code pl s x o z) ∙ kind_of_code k) ∙ ap {B = Option Rec} (λ y. some (k, y)) (written pl s x o).back

pub line_one : {p : Phase} {k : Kind} (pl : Place p k) (s : Context) (x : Fields k) → Ok pl s x → {p' : Phase} {k' : Kind} (pl' : Place p' k') (s' : Context) (x' : Fields k') → Ok pl' s' x'
    → (z : List ℕ) → line_of z (k, x) ≡ line_of z (k', x') → ◌≡◌ {A = Rec} (k, x) (k', x')
line_one {k = k} pl s x o {k' = k'} pl' s' x' o' z e =
    let q : ◌≡◌ {A = Option Rec} (some (k, x)) (some (k', x')) = sym (decode_line pl s x o z) ∙ ap decode e ∙ decode_line pl' s' x' o' z in
    cc
