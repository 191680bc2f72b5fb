-- A FILE'S GROUP stands in columns 6 and 7 of its second line. Assumes nothing.
use Prim.Native.Nat.{ℕ, ◌≤◌}
use mathlib.Core.Path.{◌≡◌, refl, ap, ◌∙◌}
use mathlib.Core.List.{List, [], ◌∷◌, ◌++◌}
use mathlib.Core.Option.{Option, none, some}
use native.Mathlib.Omega.{arith}
use lib.ListN.{length, take, drop}
use Rattle.format.specs.Rules.{group_text}
use Rattle.format.specs.Language.{Rec, Batch, File, batch_header_rec, batches_recs, file_trailer_recs, Ending, end_bytes, line_of, lines_of, Reads}
use Rattle.format.specs.Cutting.{after_next}
use Rattle.format.specs.declared.Group.{Group}
use Rattle.format.specs.declared.Group.TheVariants.{Payments, Debits}
use Rattle.format.proofs.Reader.{State, Path, go}
use Rattle.format.proofs.Link.{line_length, line_end_lem}
use Rattle.format.proofs.Cutting.{after_is}
use Rattle.format.proofs.Complete.{complete}

after_record : (z : Ending) {s : State} {r : Rec} {rs : List Rec} → Path s (r ∷ rs) → after_next (lines_of (end_bytes z) (r ∷ rs)) ≡ lines_of (end_bytes z) rs
unfolding lines_of
after_record z (go {s = s} {rs} k x pl o p) = after_is z (line_of (end_bytes z) (k, x)) (record { long = line_length pl s x o (end_bytes z); ended = line_end_lem pl s x o (end_bytes z) }) (lines_of (end_bytes z) rs)

header_group : (z : List ℕ) (g : Group) (account sequence : ℕ) (identification : Option (List ℕ)) (rest : List ℕ) → take 2 (drop 5 (line_of z (batch_header_rec g account sequence identification) ++ rest)) ≡ group_text g
header_group z Payments account sequence none rest = refl
header_group z Payments account sequence (some t) rest = refl
header_group z Debits account sequence none rest = refl
header_group z Debits account sequence (some t) rest = refl

batches_group : (z : List ℕ) (g : Group) (bs : List Batch) → 1 ≤ length bs → take 2 (drop 5 (lines_of z (batches_recs g bs file_trailer_recs))) ≡ group_text g
unfolding lines_of
batches_group z g [] h = absurd (omega arith)
batches_group z g (b ∷ bs) h = header_group z g b.account b.sequence b.identification _

pub reads_group : (b : List ℕ) (f : File) → Reads b f → take 2 (drop 5 (after_next b)) ≡ group_text f.group
unfolding Reads
reads_group b f r =
    let z = r.1.0 in
    ap (λ l. take 2 (drop 5 (after_next l))) r.1.1
    ∙ ap (λ l. take 2 (drop 5 l)) (after_record z (complete f r.0))
    ∙ batches_group (end_bytes z) f.group f.batches r.0.some_batch
