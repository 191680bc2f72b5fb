-- Each item of a file is counted in one trailer: record by record. Assumes nothing.
use mathlib.Core.Path.{◌≡◌, refl, ap}
use mathlib.Core.List.{List, [], ◌∷◌}
use Prim.Native.Nat.{ℕ, ◌+◌}
use native.Mathlib.Omega.{arith}
use lib.ListN.{length}
use lib.Dec.{T}
use Rattle.format.specs.Records.{Fields, amount, payer, beneficiary}
use Rattle.format.specs.Language.{Item, Batch, File, total_of, accounts_of, ten_digits, Rec, transaction_rec, items_recs, batch_trailer_rec, batches_recs, file_trailer_recs, file_recs}
use Rattle.format.specs.declared.Kind.{Kind}
use Rattle.format.specs.declared.Kind.TheVariants.{Transaction}
use Rattle.format.specs.declared.Group.{Group}
use Rattle.format.proofs.Every.{every}
use Rattle.file.specs.Counted.{sum_of, Counts, CountedAfter, EachCounted}
use Rattle.file.proofs.Passing.{is_text, item_passed, head_passed}

-- texts are no transactions
text_passed : (xs : List (Fields Transaction)) (k : Kind) → T (is_text k) → (x : Fields k) (rs : List Rec) → CountedAfter xs rs → CountedAfter xs ((k, x) ∷ rs)
text_passed xs =
    every (λ k. T (is_text k) → (x : Fields k) (rs : List Rec) → CountedAfter xs rs → CountedAfter xs ((k, x) ∷ rs)) same same same same same (λ t. absurd t) same same same same same same (λ t. absurd t) same
  where
    same : {A B : Type 0} → A → B → (rs : List Rec) → CountedAfter xs rs → CountedAfter xs rs
    same a b rs c = c

-- ## Items, and what their trailer says of them

-- the transactions after items, the last first
abbrev onto : List Item → List (Fields Transaction) → List (Fields Transaction)
onto [] xs = xs
onto (i ∷ is) xs = onto is ((transaction_rec i).1 ∷ xs)

items_passed : (xs : List (Fields Transaction)) (g : Group) (is : List Item) (k : List Rec) → CountedAfter (onto is xs) k → CountedAfter xs (items_recs g is k)
items_passed xs g [] k c = c
items_passed xs g (i ∷ is) k c =
    let ys = (transaction_rec i).1 ∷ xs in
    item_passed (CountedAfter ys) (text_passed ys) g i (items_recs g is k) (items_passed ys g is k c)

amounts_of : (is : List Item) (xs : List (Fields Transaction)) → sum_of amount (onto is xs) ≡ total_of is + sum_of amount xs
amounts_of [] xs = omega arith
amounts_of (i ∷ is) xs = omega (arith, amounts_of is ((transaction_rec i).1 ∷ xs))

abbrev parties : Fields Transaction → ℕ
parties x = payer x + beneficiary x

parties_of : (is : List Item) (xs : List (Fields Transaction)) → sum_of parties (onto is xs) ≡ accounts_of is + sum_of parties xs
parties_of [] xs = omega arith
parties_of (i ∷ is) xs = omega (arith, parties_of is ((transaction_rec i).1 ∷ xs))

number_of : (is : List Item) (xs : List (Fields Transaction)) → length (onto is xs) ≡ length is + length xs
number_of [] xs = omega arith
number_of (i ∷ is) xs = omega (arith, number_of is ((transaction_rec i).1 ∷ xs))

trailer_counts : (is : List Item) → Counts (total_of is, (ten_digits (accounts_of is), (length is, (tt, tt)))) (onto is [])
trailer_counts is =
    record {
      total = omega (arith, amounts_of is []);
      accounts = ap ten_digits (let e : accounts_of is ≡ sum_of parties (onto is []) = omega (arith, parties_of is []) in e);
      number = omega (arith, number_of is []);
    }

batches_counted : (g : Group) (bs : List Batch) (k : List Rec) → EachCounted k → EachCounted (batches_recs g bs k)
batches_counted g [] k c = c
batches_counted g (b ∷ bs) k c =
    let rest = batch_trailer_rec (total_of b.items) (ten_digits (accounts_of b.items)) (length b.items) ∷ batches_recs g bs k in
    head_passed EachCounted (text_passed []) g b _ (items_passed [] g b.items rest (trailer_counts b.items, batches_counted g bs k c))

-- EACH ITEM IS COUNTED IN ONE TRAILER
pub each_counted : (f : File) → EachCounted (file_recs f)
each_counted f = batches_counted f.group f.batches file_trailer_recs refl
