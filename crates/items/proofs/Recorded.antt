-- The lines of a file's records lead the search where its records do. Assumes nothing.
use Prim.Native.Nat.{ℕ, ◌+◌, ◌-◌, ◌≤◌}
use mathlib.Core.Path.{◌≡◌, refl, sym, ◌∙◌, ap}
use mathlib.Core.List.{List, [], ◌∷◌, ◌++◌, append_assoc}
use mathlib.Core.Bool.{true}
use native.Mathlib.Omega.{arith}
use borrow.Author.Tests.{leb-true}
use lib.ListN.{length, take, length-append}
use lib.Seq.{take_at, drop_at}
use lib.Dec.{leb}
use Rattle.format.specs.Fields.{Field, numeric, filled, optional, free, filler, width, Value, Values, write_field, write_fields, Fit, Fits}
use Rattle.format.specs.Cutting.{lines_from, lines_in}
use Rattle.format.specs.Records.{layout, code, Fields}
use Rattle.format.specs.Language.{Rec, Ending, end_bytes, line_of, lines_of}
use Rattle.format.specs.declared.Kind.{Kind}
use Rattle.format.specs.declared.Kind.TheVariants.{FileHeader, BatchHeaderB, BatchHeaderC, FixedDescription, OrderingParty, Transaction, NamePayer, CityPayer, PaymentReference, Description, NameBeneficiary, CityBeneficiary, BatchTrailer, FileTrailer}
use Rattle.format.proofs.Every.{every}
use Rattle.format.proofs.Cutting.{lines_line}
use Rattle.format.proofs.Checks.{field_read}
use Rattle.format.proofs.Link.{line_widths, is_line}
use Rattle.format.proofs.Reader.{State, Path, end, go}
use Rattle.machine.specs.Lists.{pick, all, same, is_digit}
use Rattle.machine.proofs.Base.{and_first, yes}
use Rattle.machine.proofs.Digits.{length_decimal, decimal_digits, value_decimal}
use Rattle.machine.specs.Digits.{decimal}
use Rattle.field.specs.Rows.{part_at}
use Rattle.field.specs.Leaf.{Digits}
use Rattle.field.proofs.Numerics.{digits_are}
use Rattle.record.specs.Read.{transaction_for, value_in, values_at, values_of}
use Rattle.record.proofs.Reading.{narrow, narrow_first, narrow_rest, narrow_layout}
use Rattle.record.specs.Kinds.{is_name, is_header}
use Rattle.items.specs.Search.{headed, opened, fixed, described, referred, named, after_line, after_lines}
use Rattle.items.specs.declared.Search.{Search}

-- ## The fields of a written line

value_back : (f : Field) (v : Value f) → narrow (f ∷ []) ≡ true → Fit f v → value_in f (write_field f v) ≡ v
value_back (numeric w) v n h =
    let l : length (decimal w v) ≤ 18 = omega (arith, length_decimal w v, leb-true w 18 (and_first (leb w 18) true n)) in
    sym (ap (λ (d : Digits). d.value) (digits_are (decimal w v) l (yes (all is_digit (decimal w v)) (decimal_digits w v)) refl)) ∙ value_decimal w v h
value_back (filled w) v n h = refl
value_back (optional w) v n h = refl
value_back (free w) v n h = refl
value_back (filler w) v n h = refl

values_back : (c : ℕ) (fs : List Field) (x : Values fs) (before z : List ℕ) → 1 ≤ c → length before ≡ c - 1 → narrow fs ≡ true → Fits fs x → values_at c fs (before ++ (write_fields fs x ++ z)) ≡ x
values_back c [] x before z p l n h = refl
values_back c (f ∷ fs) x before z p l n h =
    let v : List ℕ = write_field f x.0 in
    let vs : List ℕ = write_fields fs x.1 in
    let line : List ℕ = before ++ ((v ++ vs) ++ z) in
    let w : length v ≡ width f = (field_read f x.0 h.0).2 in
    let a : part_at c (width f) line ≡ v = ap (take (width f)) (drop_at before ((v ++ vs) ++ z) (c - 1) l ∙ append_assoc v vs z) ∙ take_at v (vs ++ z) (width f) w in
    let b : line ≡ (before ++ v) ++ (vs ++ z) = ap (λ y. before ++ y) (append_assoc v vs z) ∙ sym (append_assoc before v (vs ++ z)) in
    let first : value_in f (part_at c (width f) line) ≡ x.0 = ap (value_in f) a ∙ value_back f x.0 (narrow_first f fs n) h.0 in
    let rest : values_at (c + width f) fs line ≡ x.1
    = ap (values_at (c + width f) fs) b ∙ values_back (c + width f) fs x.1 (before ++ v) z (omega arith) (rw length-append (omega arith)) (narrow_rest f fs n) h.1 in
    λ i. (first i, rest i)

-- ## A line by its kind

abbrev pub after_for : Search → (k : Kind) → Fields k → Search
after_for s FileHeader x = s
after_for s BatchHeaderB x = headed s
after_for s BatchHeaderC x = headed s
after_for s FixedDescription x = fixed s x.0
after_for s OrderingParty x = s
after_for s Transaction x = opened s (transaction_for x)
after_for s NamePayer x = named s x.0
after_for s CityPayer x = s
after_for s PaymentReference x = referred s x.0
after_for s Description x = described s x.0
after_for s NameBeneficiary x = named s x.0
after_for s CityBeneficiary x = s
after_for s BatchTrailer x = s
after_for s FileTrailer x = s

by_kind : (s : Search) (line : List ℕ) (k : Kind) → take 5 line ≡ code k → after_line s line ≡ after_for s k (values_of k line)
unfolding after_line is_name is_header same pick
by_kind s line =
    every (λ k. take 5 line ≡ code k → after_line s line ≡ after_for s k (values_of k line)) (λ e. rw e) (λ e. rw e) (λ e. rw e) (λ e. rw e) (λ e. rw e) (λ e. rw e) (λ e. rw e) (λ e. rw e) (λ e. rw e) (λ e. rw e) (λ e. rw e) (λ e. rw e) (λ e. rw e) (λ e. rw e)

line_back : (s : Search) (k : Kind) (x : Fields k) (z : List ℕ) → Fits (layout k) x → after_line s (line_of z (k, x)) ≡ after_for s k x
line_back s k x z h =
    let l = (line_widths k).0 in
    by_kind s (line_of z (k, x)) k (take_at (code k) (write_fields (layout k) x ++ z) 5 l) ∙ ap (after_for s k) (values_back 6 (layout k) x (code k) z (omega arith) (omega (arith, l)) (narrow_layout k) h)

-- ## Record after record

unfoldable pub after_recs : Search → List Rec → Search
after_recs s [] = s
after_recs s (r ∷ rs) = after_recs (after_for s r.0 r.1) rs

pub lines_back : {p : State} {rs : List Rec} (z : Ending) → Path p rs → (s : Search) → after_lines s (lines_in (lines_of (end_bytes z) rs)) ≡ after_recs s rs
unfolding after_lines after_recs lines_of lines_from
lines_back z end s = refl
lines_back z (go {s = c} {rs = rs} k x pl o p) s =
    ap (after_lines s) (lines_line z (line_of (end_bytes z) (k, x)) (lines_of (end_bytes z) rs) (is_line pl c x o (end_bytes z)))
    ∙ ap (λ t. after_lines t (lines_in (lines_of (end_bytes z) rs))) (line_back s k x (end_bytes z) o.fits)
    ∙ lines_back z p (after_for s k x)
