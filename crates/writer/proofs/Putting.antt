-- Fields put into a line. Assumes nothing.
use Prim.Native.Nat.{ℕ, zero, suc, ◌-◌, ◌*◌, ◌^◌, ◌≤◌, ◌<◌}
use mathlib.Core.Path.{◌≡◌, refl, sym, ◌∙◌, ap}
use mathlib.Core.List.{List}
use mathlib.Core.Bool.{Bool, true, false}
use native.Mathlib.Omega.{arith}
use borrow.Author.Tests.{lt-ltb}
use lib.ListN.{length, take, drop, length-drop}
use lib.Seq.{take_all}
use Rattle.std.proofs.Math.Nat.{pow-succ'}
use lib.Dec.{ltb}
use Rattle.machine.specs.Lists.{pick, all, is_space, put_in}
use Rattle.machine.specs.Digits.{pow10, decimal}
use Rattle.machine.proofs.Digits.{length_decimal, decimal_last}
use Rattle.format.specs.declared.Kind.{Kind}
use Rattle.record.specs.Read.{text_part}
use Rattle.record.specs.declared.read.Part.{Part}
use Rattle.writer.specs.Encoding.{unfit, number_in, text_in}

-- ## Whether a number has so many digits

power : (w : ℕ) → pow10 w ≡ 10 ^ w
power zero = refl
power (suc w) = ap (λ p. 10 * p) (power w) ∙ sym (pow-succ' 10 w)

-- below the power where that is a number of the machine, and else always
pub below_power : {limit : ℕ} (n w : ℕ) → limit ≡ 10 ^ w → ltb n limit ≡ ltb n (pow10 w)
below_power n w e = ap (ltb n) (e ∙ sym (power w))

pub below_every : (n w : ℕ) → n < 2 ^ 64 → (10 ^ w < 2 ^ 64 → ⊥) → true ≡ ltb n (pow10 w)
below_every n w h k = sym (ap (ltb n) (power w) ∙ lt-ltb n (10 ^ w) (omega arith))

-- ## What a field cannot carry

module _ {x : List ℕ} (line : List ℕ) (at w : ℕ) where
  pub number_fits : {b : Bool} {d s : List ℕ} (n : ℕ) → w ≤ 20 → b ≡ ltb n (pow10 w) → b ≡ true → d ≡ decimal 20 n → s ≡ take w (drop (20 - w) d) → x ≡ put_in line at s → x ≡ put_in line at (number_in w n)
  unfolding number_in pick
  number_fits n k e t f g h =
      let q = length_decimal w n in
      let v = g ∙ ap (λ l. take w (drop (20 - w) l)) f ∙ ap (take w) (decimal_last (20 - w) w 20 n (omega arith)) ∙ take_all w (decimal w n) (omega arith) in
      rw (← e, t) (h ∙ ap (put_in line at) v)

  pub number_unfit : {b : Bool} (n : ℕ) → b ≡ ltb n (pow10 w) → b ≡ false → x ≡ put_in line at (unfit w) → x ≡ put_in line at (number_in w n)
  unfolding number_in pick
  number_unfit n e t h = rw (← e, t) h

beyond : {b : Bool} {p : List ℕ} (w : ℕ) (t : List ℕ) → p ≡ take (length t) (drop w t) → b ≡ all is_space p → all is_space (drop w t) ≡ b
beyond w t d e = sym (e ∙ ap (all is_space) (d ∙ take_all (length t) (drop w t) (rw length-drop (omega arith))))

module _ {x p : List ℕ} {b : Bool} {y : Part} (line : List ℕ) (k : Kind) (t : List ℕ) (f : y ≡ text_part k) (d : p ≡ take (length t) (drop y.width t)) (e : b ≡ all is_space p) where
  own : x ≡ put_in line y.at (text_in y.width t) → x ≡ put_in line (text_part k).at (text_in (text_part k).width t)
  own h = h ∙ ap (λ (z : Part). put_in line z.at (text_in z.width t)) f

  pub text_fits : {q : List ℕ} → b ≡ true → q ≡ take y.width (drop 0 t) → x ≡ put_in line y.at q → x ≡ put_in line (text_part k).at (text_in (text_part k).width t)
  unfolding text_in pick
  text_fits c g h = own (rw (beyond y.width t d e, c) (h ∙ ap (put_in line y.at) g))

  pub text_unfit : b ≡ false → x ≡ put_in line y.at (unfit y.width) → x ≡ put_in line (text_part k).at (text_in (text_part k).width t)
  unfolding text_in pick
  text_unfit c h = own (rw (beyond y.width t d e, c) h)
