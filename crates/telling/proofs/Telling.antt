-- Texts told by a table. Assumes nothing.
use Prim.Native.Nat.{ℕ, ◌+◌, ◌≤◌, ◌<◌}
use mathlib.Core.Path.{◌≡◌, refl, sym, ◌∙◌, subst⁻¹}
use mathlib.Core.List.{List, []}
use mathlib.Core.Logic.{◌⊎◌, inl, inr}
use borrow.Author.Rules.{rules}
use borrow.Author.Tests.{eq-eqb, ne_eqb}
use lib.ListN.{length, get_or, drop}
use lib.Dec.{eqb}
use Rattle.std.specs.Borrow.{Bor}
use Rattle.std.proofs.lemmas.List.{at_drop_more, at_drop_all}
use Rattle.machine.specs.Lists.{pick}
use Rattle.format.specs.declared.Kind.{Kind}
use Rattle.telling.specs.Names.{name_in}
use Rattle.telling.specs.Words.{looked_up}

-- ## The rows that are left

-- the rows from i on have what the whole table has
pub record Left (rows : List (ℕ × Bor (List ℕ))) (n i : ℕ) : Type 0 where
  pub rest : looked_up (drop i rows) n ≡ looked_up rows n

pub left_all : (rows : List (ℕ × Bor (List ℕ))) (n : ℕ) → Left rows n 0
left_all rows n = record { rest = refl }

module _ {rows : List (ℕ × Bor (List ℕ))} {n i : ℕ} (d : ℕ × Bor (List ℕ)) (p : Left rows n i) where
  module _ (h : i < length rows) where
    by_next : looked_up rows n ≡ pick (eqb n (get_or rows i d).0) (get_or rows i d).1.now (looked_up (drop (i + 1) rows) n)
    by_next = sym p.rest ∙ at_drop_more (λ l. looked_up l n) rows i d h

    pub left_here : (get_or rows i d).0 ≡ n → (get_or rows i d).1.now ≡ looked_up rows n
    unfolding pick
    left_here e = sym (by_next ∙ rw (eq-eqb n (get_or rows i d).0 (sym e)) refl)

    pub left_later : ((get_or rows i d).0 ≡ n → ⊥) → Left rows n (i + 1)
    unfolding pick
    left_later e = record { rest = sym (by_next ∙ rw (ne_eqb n (get_or rows i d).0 (λ q. e (sym q))) refl) }

pub left_none : {rows : List (ℕ × Bor (List ℕ))} {n : ℕ} (i : ℕ) → Left rows n i → length rows ≤ i → [] ≡ looked_up rows n
left_none {rows} {n} i p h = sym (at_drop_all (λ l. looked_up l n) rows i h) ∙ p.rest

pub ruleset lefts = (left_all, left_here, left_later, left_none, rules)

-- ## A choice

module _ {t : List ℕ} (n m : ℕ) (here later : List ℕ) where
  pub tells_here : n ≡ m → t ≡ here → t ≡ pick (eqb n m) here later
  unfolding pick
  tells_here h p = rw (eq-eqb n m h) p

  pub tells_later : (n ≡ m → ⊥) → t ≡ later → t ≡ pick (eqb n m) here later
  unfolding pick
  tells_later h p = rw (ne_eqb n m h) p

pub ruleset tells = (tells_here, tells_later, rules)

module _ {t : List ℕ} {k : Kind} (column : ℕ) where
  pub of_kind : (j : Kind) → k ≡ j → t ≡ name_in j column → t ≡ name_in k column
  of_kind j e p = subst⁻¹ (λ i. t ≡ name_in i column) e p

  pub of_either : (i j : Kind) → (k ≡ i) ⊎ (k ≡ j) → t ≡ name_in i column → t ≡ name_in j column → t ≡ name_in k column
  of_either i j e p q = elim e [ inl h ↦ of_kind i h p | inr h ↦ of_kind j h q ]

pub ruleset kinds = (of_kind, of_either)
