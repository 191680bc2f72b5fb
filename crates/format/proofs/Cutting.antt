-- All that is known of how lines are cut and ended. What depends on the ends there are stands first; the rest follows from it.
use Rattle.std.specs.Prelude.{Some, None}
use Rattle.format.specs.declared.LineEnd.TheVariants.{CrLf, Lf}
use mathlib.Core.Path.{◌≡◌, refl, sym, ap, ap₂, ◌∙◌, subst}
use mathlib.Core.Bool.{Bool, true, false, cond, ◌&&◌, and-true}
use mathlib.Core.List.{List, [], ◌∷◌, ◌++◌}
use mathlib.Core.Option.{none, some}
use Prim.Native.Nat.{ℕ, zero, suc, ◌+◌, ◌-◌, ◌≤◌, ◌<◌}
use native.Mathlib.Omega.{arith}
use lib.ListN.{length, get_or, take, drop, length-take, length-drop, length-append, take-append-drop, drop_of_length-le}
use lib.Seq.{take_all, take_at, drop_at, take-take, take-append-le, drop-drop, drop-cons, length-take-le}
use lib.Dec.{eqb}
use borrow.Author.Tests.{ne_eqb}
use Rattle.machine.specs.Lists.{pick, same}
use Rattle.machine.specs.Lines.{Split, Exactly, no_lines, one_more}
use Rattle.machine.proofs.Base.{drop_take, never, same→eq, of_eq, unlike}
use Rattle.machine.proofs.Lines.{Cuts}
use Rattle.format.specs.Language.{Ending, crlf, lf, end_bytes}
use Rattle.format.specs.Cutting.{is_open, ends_in, broken_cut, cut_of, next_line, after_next, lines_from, lines_in, no_ending, cut, turn, EndingSoFar}
use Rattle.format.specs.declared.Cut.{Cut}
use Rattle.format.specs.declared.LineEnd.{LineEnd}
use Rattle.format.specs.contracts.LineEnd.{the_type}
use denote.Enum.Bare.{sameb}

-- ## Which line may follow

pub no_end_lem : {line : EndingSoFar} (e : EndingSoFar) → line ≡ None → false ≡ is_open e line
no_end_lem e h = rw h

pub first_end : {so_far line : EndingSoFar} {z : LineEnd} → so_far ≡ None → line ≡ Some z → true ≡ is_open so_far line
first_end {z = z} h k = rw (h, k) (by z)
  where
    by : (z : LineEnd) → true ≡ is_open None (Some z)
    by CrLf = refl
    by Lf = refl

pub same_end : {so_far line : EndingSoFar} {x z : LineEnd} {b : Bool} → so_far ≡ Some x → line ≡ Some z → b ≡ sameb the_type x z → b ≡ is_open so_far line
same_end {x = x} {z = z} h k e = e ∙ rw (h, k) (by x z)
  where
    by : (x z : LineEnd) → sameb the_type x z ≡ is_open (Some x) (Some z)
    by CrLf CrLf = refl
    by CrLf Lf = refl
    by Lf CrLf = refl
    by Lf Lf = refl

pub ruleset opens = (no_end_lem, first_end, same_end)

-- ## The ends that there are

abbrev pub ending_is : Ending → EndingSoFar
ending_is crlf = Some CrLf
ending_is lf = Some Lf

-- those that are still open
abbrev pub Open : EndingSoFar → Ending → Type 0
Open e z = is_open e (ending_is z) ≡ true

pub ending_open : (z : Ending) → Open (ending_is z) z
ending_open crlf = refl
ending_open lf = refl

pub ending_only : (z y : Ending) → Open (ending_is z) y → z ≡ y
ending_only crlf crlf o = refl
ending_only lf lf o = refl
ending_only crlf lf o = never o
ending_only lf crlf o = never o

pub all_open : (z : Ending) → Open no_ending z
all_open crlf = refl
all_open lf = refl

abbrev pub an_ending : EndingSoFar → Ending
an_ending None = crlf
an_ending (Some CrLf) = crlf
an_ending (Some Lf) = lf

pub is_open_lem : (e : EndingSoFar) → Open e (an_ending e)
is_open_lem None = refl
is_open_lem (Some CrLf) = refl
is_open_lem (Some Lf) = refl

-- none is no end
none_closed : (e : EndingSoFar) → is_open e None ≡ true → ⊥
none_closed e o = never o

-- bytes tell their end
pub end_one : (z y : Ending) (r q : List ℕ) → end_bytes z ++ r ≡ end_bytes y ++ q → z ≡ y
end_one crlf crlf r q e = refl
end_one lf lf r q e = refl
end_one crlf lf r q e = let h : ◌≡◌ {A = ℕ} 13 10 = ap (λ l. get_or l 0 0) e in absurd (omega arith)
end_one lf crlf r q e = let h : ◌≡◌ {A = ℕ} 10 13 = ap (λ l. get_or l 0 0) e in absurd (omega arith)

-- ## The cut by those ends

-- 50 characters and then their end
pub record Line (z c : List ℕ) : Type 0 where
  pub long : length c ≡ 50 + length z
  pub ended : drop 50 c ≡ z

abbrev pub cut_by : Ending → Cut
cut_by z = record { bytes = 50 + length (end_bytes z); ending = ending_is z }

-- a line with one of these ends, or none
data CutView (b : List ℕ) : Cut → Type 0 where
  ended : (z : Ending) → Line (end_bytes z) (take (cut_by z).bytes b) → CutView b (cut_by z)
  broken : CutView b broken_cut

some_end : (z : Ending) → 0 < length (end_bytes z)
some_end crlf = omega arith
some_end lf = omega arith

ends_so : (z : Ending) (b : List ℕ) → ends_in z (take (cut_by z).bytes b) ≡ true → Line (end_bytes z) (take (cut_by z).bytes b)
ends_so z b h =
    let d : drop 50 (take (cut_by z).bytes b) ≡ end_bytes z = same→eq (drop 50 (take (cut_by z).bytes b)) (end_bytes z) (of_eq _ h) in
    record { long = omega (arith, ap length d, length-drop 50 (take (cut_by z).bytes b), some_end z); ended = d }

cut_view : (b : List ℕ) → CutView b (cut_of b)
unfolding cut_of pick
cut_view b = by (ends_in lf (take 51 b)) refl (ends_in crlf (take 52 b)) refl
  where
    by : (p : Bool) → ends_in lf (take 51 b) ≡ p → (q : Bool) → ends_in crlf (take 52 b) ≡ q → CutView b (pick p (cut_by lf) (pick q (cut_by crlf) broken_cut))
    by true h q g = ended lf (ends_so lf b h)
    by false h true g = ended crlf (ends_so crlf b g)
    by false h false g = broken

pub cut_bytes : (b : List ℕ) → (50 < (cut_of b).bytes) × ((cut_of b).bytes ≤ 52)
cut_bytes b = by (cut_view b)
  where
    by : {k : Cut} → CutView b k → (50 < k.bytes) × (k.bytes ≤ 52)
    by (ended crlf l) = omega arith
    by (ended lf l) = omega arith
    by broken = omega arith

-- after 50 bytes: what the shorter end looks at is the first byte of what the longer one does
first_of_two : (b : List ℕ) → drop 50 (take 51 b) ≡ take 1 (drop 50 (take 52 b))
first_of_two b = drop_take 50 1 b ∙ sym (ap (take 1) (drop_take 50 2 b) ∙ take-take 1 2 (drop 50 b) (omega arith))

end_cut : (z : Ending) (b : List ℕ) → Line (end_bytes z) (take (cut_by z).bytes b) → cut_of b ≡ cut_by z
unfolding cut_of pick same
end_cut lf b h = rw h.ended
end_cut crlf b h = rw (first_of_two b, h.ended)

-- the first line's own bytes tell its cut
same_cut : (a b : List ℕ) → take (cut_of b).bytes a ≡ next_line b → cut_of a ≡ cut_of b
unfolding cut_of
same_cut a b e = by (cut_view b) refl e
  where
    by : {k : Cut} → CutView b k → cut_of b ≡ k → take k.bytes a ≡ take k.bytes b → cut_of a ≡ k
    by (ended z l) i h = end_cut z a (subst (Line (end_bytes z)) (sym h) l)
    by broken i h =
        let f : take 51 a ≡ take 51 b = sym (take-take 51 52 a (omega arith)) ∙ ap (take 51) h ∙ take-take 51 52 b (omega arith) in
        ap₂ (λ c d. pick (ends_in lf c) (cut_by lf) (pick (ends_in crlf d) (cut_by crlf) broken_cut)) f h ∙ i

pub line_cut : (z : Ending) (c : List ℕ) → Line (end_bytes z) c → cut_of c ≡ cut_by z
line_cut z c h = end_cut z c (subst (Line (end_bytes z)) (sym (take_all (cut_by z).bytes c (omega (arith, h.long)))) h)

-- a line that is whole, in an end that is still open
pub record Whole (e : EndingSoFar) (b : List ℕ) : Type 0 where
  pub z : Ending
  pub still : Open e z
  pub is : Line (end_bytes z) (next_line b)
  pub by : cut_of b ≡ cut_by z

pub whole_line : (e : EndingSoFar) (b : List ℕ) → is_open e (cut_of b).ending ≡ true → Whole e b
whole_line e b h = on (cut_view b) refl h
  where
    on : {k : Cut} → CutView b k → cut_of b ≡ k → is_open e k.ending ≡ true → Whole e b
    on (ended z l) i o = record { z = z; still = o; is = subst (λ (k : Cut). Line (end_bytes z) (take k.bytes b)) (sym i) l; by = i }
    on broken i o = absurd (none_closed e o)

-- ## What follows: the first line and the rest

-- its 50 characters
pub next_fifty : (b : List ℕ) → take 50 (next_line b) ≡ take 50 b
next_fifty b = take-take 50 (cut_of b).bytes b (omega (arith, cut_bytes b))

pub cut_own : (b : List ℕ) → cut_of (next_line b) ≡ cut_of b
cut_own b = same_cut (next_line b) b (take-take (cut_of b).bytes (cut_of b).bytes b (omega arith))

pub whole_long : (e : EndingSoFar) (b : List ℕ) → is_open e (cut_of b).ending ≡ true → (cut_of b).bytes ≤ length b
whole_long e b h =
    let w = whole_line e b h in
    omega (arith, ap (λ (k : Cut). k.bytes) w.by, w.is.long, length-take (cut_of b).bytes b)

pub whole_fifty : (e : EndingSoFar) (b : List ℕ) → is_open e (cut_of b).ending ≡ true → length (take 50 b) ≡ 50
whole_fifty e b h = length-take-le 50 b (omega (arith, whole_long e b h, cut_bytes b))

-- its characters and its end
pub whole_is : (e : EndingSoFar) (b : List ℕ) → is_open e (cut_of b).ending ≡ true → (z : Ending) → (cut_of b).ending ≡ ending_is z → next_line b ≡ take 50 b ++ end_bytes z
whole_is e b h z i =
    let w = whole_line e b h in
    let y : w.z ≡ z = ending_only w.z z (subst (λ x. is_open x (ending_is z) ≡ true) (sym i ∙ ap (λ (k : Cut). k.ending) w.by) (ending_open z)) in
    sym (take-append-drop 50 (next_line b))
    ∙ ap₂ ◌++◌ (next_fifty b) (w.is.ended ∙ ap end_bytes y)

-- whatever follows it
pub whole_next : (e : EndingSoFar) (c r : List ℕ) → is_open e (cut_of c).ending ≡ true → next_line (c ++ r) ≡ next_line c
whole_next e c r h =
    let t = take-append-le (cut_of c).bytes c r (whole_long e c h) in
    ap (λ (k : Cut). take k.bytes (c ++ r)) (same_cut (c ++ r) c t) ∙ t

module _ (z : Ending) (c : List ℕ) (h : Line (end_bytes z) c) (r : List ℕ) where
  first_is : take (cut_by z).bytes (c ++ r) ≡ c
  first_is = take_at c r (cut_by z).bytes h.long

  line_first : cut_of (c ++ r) ≡ cut_by z
  line_first = end_cut z (c ++ r) (subst (Line (end_bytes z)) (sym first_is) h)

  pub next_is : next_line (c ++ r) ≡ c
  next_is = ap (λ (k : Cut). take k.bytes (c ++ r)) line_first ∙ first_is

  pub after_is : after_next (c ++ r) ≡ r
  after_is = ap (λ (k : Cut). drop k.bytes (c ++ r)) line_first ∙ drop_at c r (cut_by z).bytes h.long

  -- THE CUT OF A LINE, whatever follows it
  pub cut_by_lem : (e : EndingSoFar) → Open e z → (cut e (c ++ r) ≡ some (c, r)) × (turn e c ≡ ending_is z)
  cut_by_lem e o = (
    ap (λ (k : Cut). cond {A = Split} (is_open e k.ending) (some (next_line (c ++ r), after_next (c ++ r))) none) line_first
        ∙ ap (λ q. cond {A = Split} q (some (next_line (c ++ r), after_next (c ++ r))) none) o
        ∙ ap₂ {C = Split} (λ x y. some (x, y)) next_is after_is,
    ap (λ (k : Cut). k.ending) (line_cut z c h),
  )

pub record CutAs (e : EndingSoFar) (b c r : List ℕ) : Type 0 where
  pub whole : is_open e (cut_of b).ending ≡ true
  pub line : next_line b ≡ c
  pub rest : after_next b ≡ r
  pub z : Ending
  pub still : Open e z
  pub is : Line (end_bytes z) c
  pub after : turn e c ≡ ending_is z

pub cut_as : (e : EndingSoFar) (b c r : List ℕ) → cut e b ≡ some (c, r) → CutAs e b c r
cut_as e b c r h = by (is_open e (cut_of b).ending) refl h
  where
    by : (q : Bool) → is_open e (cut_of b).ending ≡ q → cond {A = Split} q (some (next_line b, after_next b)) none ≡ some (c, r) → CutAs e b c r
    by true w h =
        let p : ◌≡◌ {A = List ℕ × List ℕ} (next_line b, after_next b) (c, r) = cc in
        let l : next_line b ≡ c = ap (λ (u : List ℕ × List ℕ). u.0) p in
        let v = whole_line e b w in
        let i = subst (Line (end_bytes v.z)) l v.is in
        record { whole = w; line = l; rest = ap (λ (u : List ℕ × List ℕ). u.1) p; z = v.z; still = v.still; is = i; after = ap (λ (k : Cut). k.ending) (line_cut v.z c i) }
    by false w h = absurd (let z : ◌≡◌ {A = ℕ} 0 1 = cc in omega arith)

-- the three laws
pub cuts : (e : EndingSoFar) → Cuts (cut e)
cuts e =
    record {
      splits = λ b c r h. let w = cut_as e b c r h in rw (← w.line, ← w.rest) (sym (take-append-drop (cut_of b).bytes b));
      shrinks = λ b c r h. let w = cut_as e b c r h in rw (← w.rest, length-drop) (omega (arith, whole_long e b w.whole, cut_bytes b));
      stable = λ b c r h r'. let w = cut_as e b c r h in (cut_by_lem w.z c w.is r' e w.still).0;
    }

-- ## All lines

after_first : (x : ℕ) (xs : List ℕ) → drop ((cut_of (x ∷ xs)).bytes - 1) xs ≡ after_next (x ∷ xs)
after_first x xs = let e : suc ((cut_of (x ∷ xs)).bytes - 1) ≡ (cut_of (x ∷ xs)).bytes = omega (arith, cut_bytes (x ∷ xs)) in ap (λ n. drop n (x ∷ xs)) e

-- bytes and their lines, one by one
pub data Lined : List ℕ → List (List ℕ) → Type 0 where
  no_line : Lined [] []
  one_line : {x : ℕ} {xs : List ℕ} {lines : List (List ℕ)} → Lined (after_next (x ∷ xs)) lines → Lined (x ∷ xs) (next_line (x ∷ xs) ∷ lines)

pub lined : (k : ℕ) (xs : List ℕ) → Lined (drop k xs) (lines_from k xs)
unfolding lines_from
lined zero [] = no_line
lined (suc k) [] = no_line
lined (suc k) (x ∷ xs) = lined k xs
lined zero (x ∷ xs) = let n = (cut_of (x ∷ xs)).bytes - 1 in one_line (subst (λ r. Lined r (lines_from n xs)) (after_first x xs) (lined n xs))

passed : (k : ℕ) (xs : List ℕ) → lines_from k xs ≡ lines_in (drop k xs)
unfolding lines_from
passed zero xs = refl
passed (suc k) [] = refl
passed (suc k) (x ∷ xs) = passed k xs

pub lines_first : (xs : List ℕ) → 0 < length xs → lines_in xs ≡ next_line xs ∷ lines_in (after_next xs)
unfolding lines_from
lines_first [] h = absurd (omega arith)
lines_first (x ∷ xs) h = ap (λ r. next_line (x ∷ xs) ∷ r) (passed ((cut_of (x ∷ xs)).bytes - 1) xs ∙ ap lines_in (after_first x xs))

drop_taken : (n : ℕ) (xs : List ℕ) → drop n xs ≡ drop (length (take n xs)) xs
drop_taken zero xs = refl
drop_taken (suc n) [] = refl
drop_taken (suc n) (x ∷ xs) = drop_taken n xs

-- the line at a place
module _ {p : List ℕ} (xs : List ℕ) (i : ℕ) (h : i < length xs) (e : p ≡ next_line (drop i xs)) where
  pub line_inside : (0 < length p) × (i + length p ≤ length xs)
  line_inside =
      let l = ap length e ∙ length-take (cut_of (drop i xs)).bytes (drop i xs) in
      (omega (arith, cut_bytes (drop i xs), length-drop i xs), omega (arith, length-drop i xs))

  pub lines_at : lines_in (drop i xs) ≡ p ∷ lines_in (drop (i + length p) xs)
  lines_at =
      let l : 0 < length (drop i xs) = rw length-drop (omega arith) in
      rw e (lines_first (drop i xs) l ∙ ap (λ r. next_line (drop i xs) ∷ lines_in r) (drop_taken (cut_of (drop i xs)).bytes (drop i xs) ∙ drop-drop (length (next_line (drop i xs))) i xs))

pub lines_none : (xs : List ℕ) (i : ℕ) → length xs ≤ i → lines_in (drop i xs) ≡ []
unfolding lines_from
lines_none xs i h = ap lines_in (drop_of_length-le xs h)

-- a first line alone
pub lines_one : (xs : List ℕ) → 0 < length xs → lines_in (next_line xs) ≡ next_line xs ∷ []
unfolding lines_from
lines_one xs h =
    let n = (cut_of xs).bytes in
    let l : length (next_line xs) ≤ n = rw length-take (omega arith) in
    lines_first (next_line xs) (line_inside xs 0 h refl).0
    ∙ ap (λ (k : Cut). take k.bytes (next_line xs) ∷ lines_in (drop k.bytes (next_line xs))) (cut_own xs)
    ∙ ap₂ (λ x y. x ∷ lines_in y) (take_all n (next_line xs) l) (drop_of_length-le (next_line xs) l)

pub lines_line : (z : Ending) (c r : List ℕ) → Line (end_bytes z) c → lines_in (c ++ r) ≡ c ∷ lines_in r
lines_line z c r h =
    let n : 0 < length (c ++ r) = rw length-append (omega (arith, h.long)) in
    lines_first (c ++ r) n ∙ ap₂ (λ x ys. x ∷ lines_in ys) (next_is z c h r) (after_is z c h r)

-- bytes that are n lines have n
pub count_lines : {e : EndingSoFar} {n : ℕ} {b : List ℕ} → Exactly cut turn e n b → n ≡ length (lines_in b)
unfolding lines_from
count_lines no_lines = refl
count_lines (one_more {e = e} {b = b} c r h x) =
    let w = cut_as e b c r h in
    let l : 0 < length b = omega (arith, whole_long e b w.whole, cut_bytes b) in
    omega (arith, ap length (lines_first b l), count_lines x, ap (λ y. length (lines_in y)) w.rest)

-- ## The code's cut

byte_51 : (b : List ℕ) → 51 ≤ length b → drop 50 (take 51 b) ≡ get_or b 50 0 ∷ []
byte_51 b h = drop_take 50 1 b ∙ ap (take 1) (drop-cons b 50 0 h)

bytes_51_52 : (b : List ℕ) → 52 ≤ length b → drop 50 (take 52 b) ≡ get_or b 50 0 ∷ get_or b 51 0 ∷ []
bytes_51_52 b h = drop_take 50 2 b ∙ ap (take 2) (drop-cons b 50 0 (omega arith) ∙ ap (λ (r : List ℕ). get_or b 50 0 ∷ r) (drop-cons b 51 0 h))

-- fewer bytes than an end has are none
too_short : (z : Ending) (b : List ℕ) → length b < 50 + length (end_bytes z) → ends_in z (take (cut_by z).bytes b) ≡ false
too_short z b h =
    sym (unlike (drop 50 (take (cut_by z).bytes b)) (end_bytes z) (λ e. omega (arith, length-drop 50 (take (cut_by z).bytes b), length-take (cut_by z).bytes b, some_end z)))

module _ (rest : List ℕ) where
  -- neither end
  neither : {k : Cut} → ends_in lf (take 51 rest) ≡ false → ends_in crlf (take 52 rest) ≡ false → k ≡ broken_cut → k ≡ cut_of rest
  unfolding cut_of pick
  neither p q h = h ∙ rw (p, q)

  pub cut_short : {k : Cut} → length rest < 51 → k ≡ broken_cut → k ≡ cut_of rest
  cut_short l h = neither (too_short lf rest l) (too_short crlf rest (omega arith)) h

  module _ (l : 51 ≤ length rest) where
    pub cut_lf : get_or rest 50 0 ≡ 10 → cut_by lf ≡ cut_of rest
    unfolding cut_of pick same
    cut_lf e = rw (byte_51 rest l, e)

    module _ (n : get_or rest 50 0 ≡ 10 → ⊥) where
      no_lf : ends_in lf (take 51 rest) ≡ false
      unfolding same
      no_lf = rw (byte_51 rest l, ne_eqb (get_or rest 50 0) 10 n)

      pub cut_shorter : {k : Cut} → length rest < 52 → k ≡ broken_cut → k ≡ cut_of rest
      cut_shorter s h = neither no_lf (too_short crlf rest s) h

      crlf_by : 52 ≤ length rest → ends_in crlf (take 52 rest) ≡ (eqb (get_or rest 50 0) 13 && eqb (get_or rest 51 0) 10)
      unfolding same
      crlf_by m = rw (bytes_51_52 rest m) (ap (λ c. eqb (get_or rest 50 0) 13 && c) (and-true (eqb (get_or rest 51 0) 10)))

      pub cut_crlf : 52 ≤ length rest → (eqb (get_or rest 50 0) 13 && eqb (get_or rest 51 0) 10) ≡ true → cut_by crlf ≡ cut_of rest
      unfolding cut_of pick
      cut_crlf m q = sym (rw (no_lf, crlf_by m, q))

      pub cut_neither : {k : Cut} → 52 ≤ length rest → (eqb (get_or rest 50 0) 13 && eqb (get_or rest 51 0) 10) ≡ false → k ≡ broken_cut → k ≡ cut_of rest
      cut_neither m q h = neither no_lf (crlf_by m ∙ q) h

pub ruleset line_cuts = (cut_short, cut_lf, cut_shorter, cut_crlf, cut_neither)
