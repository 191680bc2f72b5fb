-- What the trailers among a file's first records say comes to the sums over the batches that these close. Assumes nothing.
use mathlib.Core.Path.{◌≡◌, refl, sym, ap, ◌∙◌, subst}
use mathlib.Core.List.{List, [], ◌∷◌, ◌++◌}
use mathlib.Core.Bool.{false}
use Prim.Native.Nat.{ℕ, zero, suc, ◌+◌}
use native.Mathlib.Omega.{arith}
use lib.ListN.{length, take}
use lib.Seq.{take-length}
use lib.Dec.{T}
use Rattle.machine.specs.Lists.{pick}
use Rattle.machine.proofs.Base.{true≢false}
use Rattle.format.specs.Records.{Fields, total_amount, items}
use Rattle.format.specs.Language.{Item, Batch, File, total_of, accounts_of, ten_digits, Rec, transaction_rec, items_recs, batch_trailer_rec, batches_recs, file_trailer_recs, file_recs}
use Rattle.format.specs.declared.Kind.{Kind}
use Rattle.format.specs.declared.Kind.TheVariants.{FileHeader, BatchHeaderB, BatchHeaderC, FixedDescription, OrderingParty, Transaction, NamePayer, CityPayer, PaymentReference, Description, NameBeneficiary, CityBeneficiary, BatchTrailer, FileTrailer}
use Rattle.format.specs.declared.Group.{Group}
use Rattle.format.proofs.Every.{every}
use Rattle.record.specs.Kinds.{is_batch_trailer}
use Rattle.record.specs.Faults.{no_totals}
use Rattle.record.specs.declared.Totals.{Totals}
use Rattle.file.specs.Totals.{items_in, amount_in, Sums, trailers_in, closed_by}
use Rattle.file.proofs.Passing.{is_text, item_passed, head_passed}

-- ## What trailers say

abbrev pub add_for : Totals → (k : Kind) → Fields k → Totals
add_for t FileHeader x = t
add_for t BatchHeaderB x = t
add_for t BatchHeaderC x = t
add_for t FixedDescription x = t
add_for t OrderingParty x = t
add_for t Transaction x = t
add_for t NamePayer x = t
add_for t CityPayer x = t
add_for t PaymentReference x = t
add_for t Description x = t
add_for t NameBeneficiary x = t
add_for t CityBeneficiary x = t
add_for t BatchTrailer x = record { items = t.items + items x; amount = t.amount + total_amount x }
add_for t FileTrailer x = t

abbrev pub add_all : Totals → List Rec → Totals
add_all t [] = t
add_all t (r ∷ rs) = add_all (add_for t r.0 r.1) rs

pub add_then : (t : Totals) (rs qs : List Rec) → add_all t (rs ++ qs) ≡ add_all (add_all t rs) qs
add_then t [] qs = refl
add_then t (r ∷ rs) qs = add_then (add_for t r.0 r.1) rs qs

-- ## Of a file's records

-- totals and what batches bring to them
abbrev More : Totals → Totals → List Batch → Type 0
More t u bs = (u.items ≡ t.items + items_in bs) × (u.amount ≡ t.amount + amount_in bs)

-- records with the trailers of these batches, of which any number is taken
record Summed (bs : List Batch) (rs : List Rec) : Type 0 where
  first : (n : ℕ) (t : Totals) → More t (add_all t (take n rs)) (take (trailers_in (take n rs)) bs)
  all : trailers_in rs ≡ length bs

none_summed : Summed [] []
none_summed = record { first = none; all = refl }
  where
    none : (n : ℕ) (t : Totals) → More t (add_all t (take n [])) (take (trailers_in (take n [])) [])
    none zero t = omega arith
    none (suc n) t = omega arith

-- a record that is no trailer
other : (bs : List Batch) (k : Kind) → is_batch_trailer k ≡ false → (x : Fields k) (rs : List Rec) → Summed bs rs → Summed bs ((k, x) ∷ rs)
unfolding pick
other bs k h x rs s = record { first = by; all = rw h s.all }
  where
    same : (t : Totals) → add_for t k x ≡ t
    same t = every (λ k. is_batch_trailer k ≡ false → (x : Fields k) → add_for t k x ≡ t) (λ h x. refl) (λ h x. refl) (λ h x. refl) (λ h x. refl) (λ h x. refl) (λ h x. refl) (λ h x. refl) (λ h x. refl) (λ h x. refl) (λ h x. refl) (λ h x. refl) (λ h x. refl) (λ h x. absurd (true≢false h)) (λ h x. refl) k h x

    by : (n : ℕ) (t : Totals) → More t (add_all t (take n ((k, x) ∷ rs))) (take (trailers_in (take n ((k, x) ∷ rs))) bs)
    by zero t = omega arith
    by (suc n) t = subst (λ u. More t (add_all u (take n rs)) (take (trailers_in ((k, x) ∷ take n rs)) bs)) (sym (same t)) (rw h (s.first n t))

text_other : (bs : List Batch) (k : Kind) → T (is_text k) → (x : Fields k) (rs : List Rec) → Summed bs rs → Summed bs ((k, x) ∷ rs)
text_other bs k t = other bs k (every (λ k. T (is_text k) → is_batch_trailer k ≡ false) (λ t. refl) (λ t. refl) (λ t. refl) (λ t. refl) (λ t. refl) (λ t. refl) (λ t. refl) (λ t. refl) (λ t. refl) (λ t. refl) (λ t. refl) (λ t. refl) (λ t. absurd t) (λ t. refl) k t)

abbrev trailer_of : Batch → Rec
trailer_of b = batch_trailer_rec (total_of b.items) (ten_digits (accounts_of b.items)) (length b.items)

closing : (b : Batch) (bs : List Batch) (rs : List Rec) → Summed bs rs → Summed (b ∷ bs) (trailer_of b ∷ rs)
unfolding pick
closing b bs rs s = record { first = by; all = omega (arith, s.all) }
  where
    by : (n : ℕ) (t : Totals) → More t (add_all t (take n (trailer_of b ∷ rs))) (take (trailers_in (take n (trailer_of b ∷ rs))) (b ∷ bs))
    by zero t = omega arith
    by (suc n) t = let w = s.first n (add_for t BatchTrailer (trailer_of b).1) in omega (arith, w.0, w.1)

items_summed : (bs : List Batch) (g : Group) (is : List Item) (rs : List Rec) → Summed bs rs → Summed bs (items_recs g is rs)
items_summed bs g [] rs s = s
items_summed bs g (i ∷ is) rs s = other bs Transaction refl (transaction_rec i).1 _ (item_passed (Summed bs) (text_other bs) g i (items_recs g is rs) (items_summed bs g is rs s))

batches_summed : (g : Group) (bs : List Batch) → Summed bs (batches_recs g bs file_trailer_recs)
batches_summed g [] = other [] FileTrailer refl _ [] none_summed
batches_summed g (b ∷ bs) = head_passed (Summed (b ∷ bs)) (text_other (b ∷ bs)) g b _ (items_summed (b ∷ bs) g b.items _ (closing b bs _ (batches_summed g bs)))

file_summed : (f : File) → Summed f.batches (file_recs f)
file_summed f = other f.batches FileHeader refl _ _ (batches_summed f.group f.batches)

-- ANY NUMBER OF ITS FIRST RECORDS
pub first_sums : (f : File) (n : ℕ) → Sums (add_all no_totals (take n (file_recs f))) (closed_by n f)
first_sums f n = let w = (file_summed f).first n no_totals in record { items = omega (arith, w.0); amount = omega (arith, w.1) }

-- ALL OF THEM
pub whole_sums : (f : File) → Sums (add_all no_totals (file_recs f)) f.batches
whole_sums f =
    let rs = file_recs f in
    let all : take (length rs) rs ≡ rs = take-length rs in
    let bs : closed_by (length rs) f ≡ f.batches = ap (λ qs. take (trailers_in qs) f.batches) all ∙ ap (λ n. take n f.batches) (file_summed f).all ∙ take-length f.batches in
    subst (λ qs. Sums (add_all no_totals qs) f.batches) all (subst (Sums (add_all no_totals (take (length rs) rs))) bs (first_sums f (length rs)))
