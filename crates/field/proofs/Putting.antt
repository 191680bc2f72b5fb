-- A text put into a room from an offset on. Assumes nothing.
use Prim.Native.Nat.{ℕ, ◌+◌, ◌-◌, ◌≤◌, ◌<◌}
use mathlib.Core.Path.{◌≡◌, refl, sym, ap, ap₂, ◌∙◌}
use mathlib.Core.List.{List, ◌++◌, append_assoc}
use native.Mathlib.Omega.{arith}
use native.Mathlib.Numerals.{add-one}
use borrow.Author.Rules.{rules}
use borrow.Author.Tests.{le-leb, lt-leb}
use lib.ListN.{length, get_or, set, take, drop, length-set, length-append}
use lib.Seq.{paste, paste-zero, paste-suc, length-paste, take-paste, drop-paste, take_all, drop-drop}
use Rattle.machine.specs.Lists.{pick, pasted, put_in}

whole : (room : List ℕ) (at : ℕ) (text : List ℕ) → paste room at text (length text) ≡ pasted room at text
unfolding pasted
whole room at text = ap (λ x. (take at room ++ x) ++ drop (at + length text) room) (take_all (length text) text (omega arith))

-- ## Byte by byte

-- i bytes of it stand
pub record Putting (room text now : List ℕ) (at i : ℕ) : Type 0 where
  pub within : i ≤ length text
  pub fits : at + length text ≤ length room
  pub kept : length now ≡ length room
  pub is : now ≡ paste room at text i

pub put_none : (room text : List ℕ) (at : ℕ) → at + length text ≤ length room → Putting room text room at 0
put_none room text at h = record { within = omega arith; fits = h; kept = refl; is = paste-zero room at text }

module _ {room text now : List ℕ} {at i : ℕ} (p : Putting room text now at i) where
  pub put_more : i < length text → Putting room text (set now (at + i) (get_or text i 0)) at (i + 1)
  put_more k =
      record {
        within = omega arith;
        fits = p.fits;
        kept = length-set now (at + i) (get_or text i 0) ∙ p.kept;
        is = rw (add-one, p.is) (paste-suc room at text i 0 (omega (arith, p.fits)) k);
      }

  pub put_in_lem : i < length text → at + i < length now
  put_in_lem k = omega (arith, p.kept, p.fits)

  pub put_all : length text ≤ i → now ≡ pasted room at text
  put_all k = let e : i ≡ length text = omega (arith, p.within) in p.is ∙ ap (paste room at text) e ∙ whole room at text

pub ruleset puts = (put_none, put_more, put_in_lem, put_all, rules)

-- ## Where it fits

module _ (room : List ℕ) (at : ℕ) (text : List ℕ) where
  pub put_fitting : {o : List ℕ} → at ≤ length room → length text ≤ length room - at → o ≡ pasted room at text → o ≡ put_in room at text
  unfolding put_in pick
  put_fitting h k e = e ∙ rw (le-leb (at + length text) (length room) (omega arith)) refl

  pub put_beyond : length room < at → room ≡ put_in room at text
  unfolding put_in pick
  put_beyond h = rw (lt-leb (at + length text) (length room) (omega arith)) refl

  pub put_long : at ≤ length room → length room - at < length text → room ≡ put_in room at text
  unfolding put_in pick
  put_long h k = rw (lt-leb (at + length text) (length room) (omega arith)) refl

-- ## For those who put

pub put_fits : {o : List ℕ} (room : List ℕ) (at : ℕ) (text : List ℕ) → at + length text ≤ length room → o ≡ put_in room at text → o ≡ pasted room at text
unfolding put_in pick
put_fits room at text h e = e ∙ rw (le-leb (at + length text) (length room) h) refl

pub pasted_front : (room text : List ℕ) → pasted room 0 text ≡ text ++ drop (length text) room
unfolding pasted
pasted_front room text = let e : 0 + length text ≡ length text = omega arith in ap (λ n. text ++ drop n room) e

pub put_front : {o : List ℕ} (room text : List ℕ) → length text ≤ length room → o ≡ put_in room 0 text → o ≡ text ++ drop (length text) room
put_front room text h e = put_fits room 0 text (omega arith) e ∙ pasted_front room text

pub length_pasted : (room : List ℕ) (at : ℕ) (text : List ℕ) → at + length text ≤ length room → length (pasted room at text) ≡ length room
length_pasted room at text h = ap length (sym (whole room at text)) ∙ length-paste room at text (length text) h (omega arith)

-- one text after the other is both at once
pub pasted_both : (d : List ℕ) (at : ℕ) (s t : List ℕ) → at + length s ≤ length d → pasted (pasted d at s) (at + length s) t ≡ pasted d at (s ++ t)
unfolding pasted
pasted_both d at s t h =
    let a : length s ≤ length s = omega arith in
    let b : at ≤ length d = omega arith in
    let w = whole d at s in
    let f : take (at + length s) (pasted d at s) ≡ take at d ++ s = ap (take (at + length s)) (sym w) ∙ take-paste d at s (length s) b a ∙ ap (λ x. take at d ++ x) (take_all (length s) s a) in
    let g : drop (at + length s) (pasted d at s) ≡ drop (at + length s) d = ap (drop (at + length s)) (sym w) ∙ drop-paste d at s (length s) b a in
    let q : at + length s + length t ≡ at + length (s ++ t) = rw length-append (omega arith) in
    let r : drop (at + length s + length t) (pasted d at s) ≡ drop (at + length (s ++ t)) d
    = sym (drop-drop (length t) (at + length s) (pasted d at s)) ∙ ap (drop (length t)) g ∙ drop-drop (length t) (at + length s) d ∙ ap (λ n. drop n d) q in
    ap₂ (λ x y. (x ++ t) ++ y) f r ∙ ap (λ x. x ++ drop (at + length (s ++ t)) d) (append_assoc (take at d) s t)

-- a text after another that stands
pub put_next : {p o : List ℕ} (room : List ℕ) (at : ℕ) (s t : List ℕ) → at + (length s + length t) ≤ length room → p ≡ pasted room at s → o ≡ put_in p (at + length s) t → o ≡ pasted room at (s ++ t)
put_next {p} room at s t h e f =
    let k : length p ≡ length room = ap length e ∙ length_pasted room at s (omega arith) in
    put_fits p (at + length s) t (omega arith) f ∙ ap (λ u. pasted u (at + length s) t) e ∙ pasted_both room at s t (omega arith)

pub put_both : {p o : List ℕ} (room : List ℕ) (at : ℕ) (s t : List ℕ) → at + (length s + length t) ≤ length room → p ≡ put_in room at s → o ≡ put_in p (at + length s) t → o ≡ pasted room at (s ++ t)
put_both room at s t h e = put_next room at s t h (put_fits room at s (omega arith) e)
