-- What is taken of a buffer. Assumes nothing.
use Prim.Native.Nat.{ℕ, zero, suc, ◌+◌, ◌-◌, ◌≤◌, ◌<◌, min}
use mathlib.Core.Path.{◌≡◌, refl, sym, ap, subst, ◌∙◌}
use mathlib.Core.List.{List, ◌++◌}
use mathlib.Core.Bool.{Bool, true, false, ◌||◌}
use native.Mathlib.Omega.{arith}
use borrow.Author.Tests.{leb-true, lt-ltb}
use lib.ListN.{length, take}
use lib.Dec.{leb, ltb, eqb}
use lib.Seq.{take-length}
use Rattle.format.specs.Cutting.{cut_of, next_line}
use Rattle.format.specs.declared.Cut.{Cut}
use Rattle.format.proofs.Cutting.{cut_bytes}
use Rattle.field.proofs.Picks.{pick_yes, pick_no}
use Rattle.streams.specs.Taking.{left_in, passed_one, is_ready, carried_in, Pulled}
use Rattle.streams.specs.declared.lines.Lines.{Lines}
use Rattle.streams.proofs.Carrying.{left_length, carried_first}

-- ## What is left

pub ready_by : {x : List ℕ} {c : Cut} (l : Lines) (buffer : List ℕ) → x ≡ left_in l buffer → c ≡ cut_of x → (l.over || leb c.bytes (length x)) ≡ is_ready l buffer
ready_by {x} l buffer e p = ap (λ (y : Cut). l.over || leb y.bytes (length x)) p ∙ ap (λ y. l.over || leb (cut_of y).bytes (length y)) e

-- ## Pulling

or-true : (t : Bool) → (t || true) ≡ true
or-true true = refl
or-true false = refl

ready_some : (over : Bool) (c n at end m : ℕ) → 50 < c → n ≡ min end m - at → (over || leb c n) ≡ true → (ltb at end || over) ≡ true
ready_some true c n at end m h e t = or-true (ltb at end)
ready_some false c n at end m h e t = let k : c ≤ n = leb-true c n t in rw (lt-ltb at end (omega arith)) refl

some_filled : (n k m : ℕ) → (ltb 0 (n + k) || (eqb k 0 || ltb (n + k) m)) ≡ true
some_filled n zero m = or-true (ltb 0 (n + 0))
some_filled n (suc k) m = rw (lt-ltb 0 (n + suc k) (omega arith)) refl

module _ {t : Bool} (l : Lines) (b : List ℕ) (e : t ≡ is_ready l b) where
  pub pulled_ready : t ≡ true → Pulled l b l b
  pulled_ready h =
      let q : is_ready l b ≡ true = sym e ∙ h in
      record {
        left = ready_some l.over _ _ l.at l.end (length b) (cut_bytes (left_in l b)).0 (left_length l b) q;
        kept = pick_yes (is_ready l b) l l q refl;
        bytes = pick_yes (is_ready l b) b b q refl;
        carried = take-length (left_in l b);
      }

  pub pulled_anew : {n : ℕ} {now : List ℕ} (c m : ℕ) (failed : Bool) (read : List ℕ) → t ≡ false → n ≡ length (left_in l b) → now ≡ carried_in l b
      → Pulled l b (record { at = 0; end = n + c; over = eqb c 0 || ltb (n + c) m; failed = failed }) (take n now ++ read)
  pulled_anew {n} c m failed read h k f =
      let q : is_ready l b ≡ false = sym e ∙ h in
      record { left = some_filled n c m; kept = pick_no (is_ready l b) l _ q refl; bytes = pick_no (is_ready l b) b _ q refl; carried = carried_first l b k f c read }

-- ## The next line

abbrev moved_to : Lines → ℕ → Lines
moved_to l at = record { at = at; end = l.end; over = l.over; failed = l.failed }

pub next_pulled : {r : List ℕ} {n : Lines} {b : List ℕ} (l : Lines) (buffer : List ℕ) → r ≡ next_line (left_in l buffer) → Pulled (moved_to l (l.at + length r)) buffer n b → Pulled (passed_one l buffer) buffer n b
next_pulled {n = n} {b} l buffer e h = subst (λ x. Pulled (moved_to l (l.at + length x)) buffer n b) e h
