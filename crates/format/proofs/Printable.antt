-- EVERY CHARACTER OF A RECORD'S LINE IS PRINTABLE: none of the 50 is a byte 10 or 13. Assumes nothing.
use mathlib.Core.Bool.{Bool, ◌||◌}
use mathlib.Core.List.{List, [], ◌∷◌, ◌++◌}
use Prim.Native.Nat.{ℕ, ◌≤◌}
use native.Mathlib.Omega.{arith}
use lib.Dec.{T, leb, leb→le, le→leb, eqb→eq}
use Rattle.machine.specs.Lists.{all, is_digit, is_space}
use Rattle.machine.proofs.Base.{and_l, and_r, and_i}
use Rattle.format.specs.Fields.{Field, numeric, filled, optional, free, filler, printable, left_justified, well_formed, write_field, Values, write_fields, Fits}
use Rattle.format.specs.Records.{layout, code, Fields}
use Rattle.format.specs.declared.Kind.{Kind}
use Rattle.format.proofs.Every.{every}
use Rattle.format.proofs.Checks.{field_read}

all_then : (p q : ℕ → Bool) → ((c : ℕ) → T (p c) → T (q c)) → (l : List ℕ) → T (all p l) → T (all q l)
all_then p q f [] t = tt
all_then p q f (c ∷ l) t = and_i (q c) (all q l) (f c (and_l (p c) (all p l) t)) (all_then p q f l (and_r (p c) (all p l) t))

all_both : (p : ℕ → Bool) (a b : List ℕ) → T (all p a) → T (all p b) → T (all p (a ++ b))
all_both p [] b s t = t
all_both p (c ∷ a) b s t = and_i (p c) (all p (a ++ b)) (and_l (p c) (all p a) s) (all_both p a b (and_r (p c) (all p a) s) t)

between : (c : ℕ) → 32 ≤ c → c ≤ 126 → T (printable c)
between c h k = and_i (leb 32 c) (leb c 126) (le→leb 32 c h) (le→leb c 126 k)

digit : (c : ℕ) → T (is_digit c) → T (printable c)
digit c t = between c (omega (arith, leb→le 48 c (and_l (leb 48 c) (leb c 57) t))) (omega (arith, leb→le c 57 (and_r (leb 48 c) (leb c 57) t)))

space : (c : ℕ) → T (is_space c) → T (printable c)
space c t = between c (omega (arith, eqb→eq c 32 t)) (omega (arith, eqb→eq c 32 t))

formed : (f : Field) (l : List ℕ) → T (well_formed f l) → T (all printable l)
formed (numeric w) l t = all_then is_digit printable digit l t
formed (filled w) l t = and_l (all printable l) (left_justified l) t
formed (optional w) l t = and_l (all printable l) (all is_space l || left_justified l) t
formed (free w) l t = t
formed (filler w) l t = all_then is_space printable space l t

fields_printable : (fs : List Field) (x : Values fs) → Fits fs x → T (all printable (write_fields fs x))
fields_printable [] x h = tt
fields_printable (f ∷ fs) x h =
    all_both printable (write_field f x.0) (write_fields fs x.1) (formed f (write_field f x.0) (field_read f x.0 h.0).0) (fields_printable fs x.1 h.1)

pub record_printable : (k : Kind) (x : Fields k) → Fits (layout k) x → T (all printable (code k ++ write_fields (layout k) x))
record_printable k x h =
    all_both printable (code k) (write_fields (layout k) x) (every (λ k. T (all printable (code k))) tt tt tt tt tt tt tt tt tt tt tt tt tt tt k) (fields_printable (layout k) x h)
