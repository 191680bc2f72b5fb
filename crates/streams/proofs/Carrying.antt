-- What is left of a buffer, carried to its front. Assumes nothing.
use Prim.Native.Nat.{ℕ, ◌+◌, ◌-◌, ◌≤◌, ◌<◌, min}
use mathlib.Core.Path.{◌≡◌, sym, ap, ◌∙◌}
use mathlib.Core.List.{List, ◌++◌}
use native.Mathlib.Omega.{arith}
use native.Mathlib.Numerals.{add-one}
use lib.ListN.{length, get_or, set, take, drop, length-take, length-drop, length-set}
use lib.Seq.{paste, paste-suc, drop-paste, take-take, take-append_seam, get_or-take, get_or-drop}
use Rattle.streams.specs.Taking.{left_in, carried_in}
use Rattle.streams.specs.declared.lines.Lines.{Lines}

pub left_length : (l : Lines) (b : List ℕ) → length (left_in l b) ≡ min l.end (length b) - l.at
left_length l b = length-drop l.at (take l.end b) ∙ ap (λ n. n - l.at) (length-take l.end b)

-- ## Byte by byte

-- i of the n bytes that are left stand at the front
pub record Carrying (l : Lines) (b : List ℕ) (n : ℕ) (now : List ℕ) (i : ℕ) : Type 0 where
  pub all : n ≡ length (left_in l b)
  pub within : i ≤ n
  pub fits : n ≤ length b - l.at
  pub kept : length now ≡ length b
  pub is : now ≡ paste b 0 (left_in l b) i

module _ {l : Lines} {b : List ℕ} {n : ℕ} {now : List ℕ} {i : ℕ} (p : Carrying l b n now i) where
  -- a byte that is not moved yet stands where it stood
  there : i < n → get_or now (l.at + i) 0 ≡ get_or (left_in l b) i 0
  there k =
      let q : l.at + i ≡ 0 + i + l.at = omega arith in
      let e : l.at + i < l.end = omega (arith, p.all, left_length l b) in
      let s : i ≤ length (left_in l b) = omega (arith, p.all) in
      ap (λ m. get_or now m 0) q
      ∙ sym (get_or-drop (0 + i) now l.at 0)
      ∙ ap (λ m. get_or (drop (0 + i) m) l.at 0) p.is
      ∙ ap (λ m. get_or m l.at 0) (drop-paste b 0 (left_in l b) i (omega arith) s)
      ∙ get_or-drop (0 + i) b l.at 0
      ∙ ap (λ m. get_or b m 0) (sym q)
      ∙ sym (get_or-take l.end b (l.at + i) 0 e)
      ∙ sym (get_or-drop l.at (take l.end b) i 0)

  pub carry_more : i < n → Carrying l b n (set now i (get_or now (l.at + i) 0)) (i + 1)
  carry_more k =
      let r : 0 + i < length b = omega (arith, p.all, left_length l b) in
      let s : i < length (left_in l b) = omega (arith, p.all) in
      let z : i ≡ 0 + i = omega arith in
      record {
        all = p.all;
        within = omega arith;
        fits = p.fits;
        kept = length-set now i (get_or now (l.at + i) 0) ∙ p.kept;
        is =
            ap (set now i) (there k)
            ∙ ap (λ m. set now m (get_or (left_in l b) i 0)) z
            ∙ ap (λ m. set m (0 + i) (get_or (left_in l b) i 0)) p.is
            ∙ rw add-one (paste-suc b 0 (left_in l b) i 0 r s);
      }

-- ## At the front

module _ {n : ℕ} {now : List ℕ} (l : Lines) (b : List ℕ) (k : n ≡ length (left_in l b)) (e : now ≡ carried_in l b) where
  -- whatever is read behind it
  pub carried_first : (c : ℕ) (read : List ℕ) → take (length (left_in l b)) (take (n + c) (take n now ++ read)) ≡ left_in l b
  carried_first c read =
      let f : take n now ≡ left_in l b = ap (take n) e ∙ ap (λ m. take m (carried_in l b)) k ∙ take-append_seam (left_in l b) (drop (length (left_in l b)) b) in
      let m : length (left_in l b) ≤ n + c = omega (arith, k) in
      take-take (length (left_in l b)) (n + c) (take n now ++ read) m
      ∙ ap (λ x. take (length (left_in l b)) (x ++ read)) f
      ∙ take-append_seam (left_in l b) read
