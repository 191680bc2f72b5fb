-- A reader of lines over an abstract step, whatever a line is. Three laws of `cut` are all that is asked of the cutting.
use mathlib.Core.Path.{◌≡◌, refl, sym, ap, ◌∙◌, subst}
use mathlib.Core.Bool.{Bool, true, false, not, cond}
use mathlib.Core.List.{List, [], ◌∷◌, ◌++◌, append_assoc}
use mathlib.Core.Option.{none, some}
use mathlib.Core.Logic.{◌≢◌, ◌↔◌}
use Prim.Native.Nat.{ℕ, zero, suc, ◌+◌, ◌<◌}
use native.Mathlib.Omega.{arith}
use lib.ListN.{length}
use lib.Dec.{T, T_not}
use Rattle.machine.specs.Lines.{Split, first_of, front, Exactly, no_lines, one_more}
use Rattle.machine.proofs.Base.{Outcome, next, refuse, Result, accepted, refused, of_eq, of_eq_not, next≢refuse}

-- what is owed of one cut: the line and the rest are the bytes; the rest is less; the line is cut off the same whatever follows it
pub record Cuts (cut : List ℕ → Split) : Type 0 where
  pub splits : (b c r : List ℕ) → cut b ≡ some (c, r) → b ≡ c ++ r
  pub shrinks : (b c r : List ℕ) → cut b ≡ some (c, r) → length r < length b
  pub stable : (b c r : List ℕ) → cut b ≡ some (c, r) → (r' : List ℕ) → cut (c ++ r') ≡ some (c, r')

module _ (S : Type 0) (step : S → List ℕ → Outcome S) (is_end : S → Bool) {E : Type 0} (cut : E → List ℕ → Split) (turn : E → List ℕ → E) where
  abbrev pub follow : Outcome S → ℕ → (S → Result) → Result
  follow (next s) n k = k s
  follow (refuse c col) n k = refused c (suc n) col

  abbrev pub on_line : Split → S → E → ℕ → (S → E → List ℕ → Result) → Result
  on_line none s e n k = refused 1 (suc n) 0
  on_line (some (c, r)) s e n k = follow (step s c) n (λ s'. k s' (turn e c) r)

  -- n lines are read; the fuel is more than the bytes that are left
  unfoldable pub run : ℕ → S → E → ℕ → List ℕ → Result
  run zero s e n b = refused 10 (suc n) 0
  run (suc k) s e n [] = cond (is_end s) (accepted n) (refused 10 (suc n) 0)
  run (suc k) s e n (x ∷ xs) = cond (is_end s) (refused 11 (suc n) 0) (on_line (cut e (x ∷ xs)) s e n (λ s' e' r. run k s' e' (suc n) r))

  unfoldable pub answer : S → E → List ℕ → Result
  answer s e b = run (suc (length b)) s e 0 b

  pub data Acc : S → E → List ℕ → Type 0 where
    stop : {s : S} {e : E} → T (is_end s) → Acc s e []
    line : {s : S} {e : E} {b : List ℕ} (s' : S) (c r : List ℕ) → T (not (is_end s)) → cut e b ≡ some (c, r) → step s c ≡ next s' → Acc s' (turn e c) r → Acc s e b

  data Trace : S → E → ℕ → List ℕ → Result → Type 0 where
    t_end : {s : S} {e : E} {n : ℕ} → T (is_end s) → Trace s e n [] (accepted n)
    t_early : {s : S} {e : E} {n : ℕ} → T (not (is_end s)) → Trace s e n [] (refused 10 (suc n) 0)
    t_late : {s : S} {e : E} {n x : ℕ} {xs : List ℕ} → T (is_end s) → Trace s e n (x ∷ xs) (refused 11 (suc n) 0)
    t_broken : {s : S} {e : E} {n x : ℕ} {xs : List ℕ} → T (not (is_end s)) → cut e (x ∷ xs) ≡ none → Trace s e n (x ∷ xs) (refused 1 (suc n) 0)
    t_refuse : {s : S} {e : E} {n : ℕ} {b : List ℕ} {k col : ℕ} (c r : List ℕ) → T (not (is_end s)) → cut e b ≡ some (c, r) → step s c ≡ refuse k col → Trace s e n b (refused k (suc n) col)
    t_next : {s : S} {e : E} {n : ℕ} {b : List ℕ} {a : Result} (s' : S) (c r : List ℕ) → T (not (is_end s)) → cut e b ≡ some (c, r) → step s c ≡ next s' → Trace s' (turn e c) (suc n) r a → Trace s e n b a

  module _ (L : (e : E) → Cuts (cut e)) where
    nil_uncut : (e : E) (c r : List ℕ) → cut e [] ≡ some (c, r) → ⊥
    nil_uncut e c r h = omega (arith, (L e).shrinks [] c r h)

    at_end : (s : S) (e : E) (n : ℕ) (q : Bool) → is_end s ≡ q → Trace s e n [] (cond q (accepted n) (refused 10 (suc n) 0))
    at_end s e n true q = t_end (of_eq _ q)
    at_end s e n false q = t_early (of_eq_not _ q)

    at_step : (k : ℕ) (s : S) (e : E) (n : ℕ) (b c r : List ℕ) → T (not (is_end s)) → cut e b ≡ some (c, r) → ((s' : S) → Trace s' (turn e c) (suc n) r (run k s' (turn e c) (suc n) r))
        → (o : Outcome S) → step s c ≡ o → Trace s e n b (follow o n (λ s'. run k s' (turn e c) (suc n) r))
    at_step k s e n b c r t h ih (next s') g = t_next s' c r t h g (ih s')
    at_step k s e n b c r t h ih (refuse m col) g = t_refuse c r t h g

    at_line : (k : ℕ) (s : S) (e : E) (n x : ℕ) (xs : List ℕ) → ((s' : S) (e' : E) (r : List ℕ) → length r < suc (length xs) → Trace s' e' (suc n) r (run k s' e' (suc n) r))
        → (q : Bool) → is_end s ≡ q → (o : Split) → cut e (x ∷ xs) ≡ o → Trace s e n (x ∷ xs) (cond q (refused 11 (suc n) 0) (on_line o s e n (λ s' e' r. run k s' e' (suc n) r)))
    at_line k s e n x xs ih true q o h = t_late (of_eq _ q)
    at_line k s e n x xs ih false q none h = t_broken (of_eq_not _ q) h
    at_line k s e n x xs ih false q (some (c, r)) h = at_step k s e n (x ∷ xs) c r (of_eq_not _ q) h (λ s'. ih s' (turn e c) r ((L e).shrinks (x ∷ xs) c r h)) (step s c) refl

    trace : (k : ℕ) (s : S) (e : E) (n : ℕ) (b : List ℕ) → length b < k → Trace s e n b (run k s e n b)
    unfolding run
    trace zero s e n b h = absurd (omega arith)
    trace (suc k) s e n [] h = at_end s e n (is_end s) refl
    trace (suc k) s e n (x ∷ xs) h = at_line k s e n x xs (λ s' e' r l. trace k s' e' (suc n) r (omega arith)) (is_end s) refl (cut e (x ∷ xs)) refl

    acc_line : {s : S} {e : E} {b : List ℕ} (c r : List ℕ) → cut e b ≡ some (c, r) → Acc s e b → (s' : S) × (step s c ≡ next s') × Acc s' (turn e c) r
    acc_line c r h (stop {e = e} t) = absurd (nil_uncut e c r h)
    acc_line c r h (line {s = s} {e} s' c' r' t h' g a) =
        let q : ◌≡◌ {A = List ℕ × List ℕ} (c, r) (c', r') = cc in
        (s', ap (λ (p : List ℕ × List ℕ). step s p.0) q ∙ g, subst (λ (p : List ℕ × List ℕ). Acc s' (turn e p.0) p.1) (sym q) a)

    acc_empty : {s : S} {e : E} → T (not (is_end s)) → Acc s e [] → ⊥
    acc_empty {s} t (stop u) = T_not (is_end s) t u
    acc_empty {e = e} t (line s' c r u h g a) = nil_uncut e c r h

    acc_more : {s : S} {e : E} {x : ℕ} {xs : List ℕ} → T (is_end s) → Acc s e (x ∷ xs) → ⊥
    acc_more {s} t (line s' c r u h g a) = T_not (is_end s) u t

    acc_broken : {s : S} {e : E} {x : ℕ} {xs : List ℕ} → cut e (x ∷ xs) ≡ none → Acc s e (x ∷ xs) → ⊥
    acc_broken h (line s' c r u h' g a) = let z : ◌≡◌ {A = ℕ} 0 1 = cc in omega arith

    acc_refuse : {s : S} {e : E} {b : List ℕ} {k col : ℕ} (c r : List ℕ) → cut e b ≡ some (c, r) → step s c ≡ refuse k col → Acc s e b → ⊥
    acc_refuse {k = k} {col} c r h g a = let q = acc_line c r h a in next≢refuse q.0 k col (sym g ∙ q.1)

    trace_accepted : {s : S} {e : E} {n : ℕ} {b : List ℕ} {m : ℕ} → Trace s e n b (accepted m) → Acc s e b
    trace_accepted (t_end t) = stop t
    trace_accepted (t_next s' c r t h g p) = line s' c r t h g (trace_accepted p)

    acc_trace : {s : S} {e : E} {n : ℕ} {b : List ℕ} {a : Result} → Trace s e n b a → Acc s e b → (m : ℕ) × (a ≡ accepted m)
    acc_trace (t_end {n = n} t) a = (n, refl)
    acc_trace (t_early t) a = absurd (acc_empty t a)
    acc_trace (t_late t) a = absurd (acc_more t a)
    acc_trace (t_broken t h) a = absurd (acc_broken h a)
    acc_trace (t_refuse c r t h g) a = absurd (acc_refuse c r h g a)
    acc_trace (t_next {e = e} s' c r t h g p) a = let q = acc_line c r h a in acc_trace p (subst (λ u. Acc u (turn e c) r) (cc) q.2)

    pub accepts : (s : S) (e : E) (b : List ℕ) → ((m : ℕ) × (answer s e b ≡ accepted m)) ↔ Acc s e b
    unfolding answer
    accepts s e b =
        (λ p. trace_accepted (subst (Trace s e 0 b) p.1 (trace (suc (length b)) s e 0 b (omega arith))), λ a. acc_trace (trace (suc (length b)) s e 0 b (omega arith)) a)

    trace_lines : {s : S} {e : E} {n : ℕ} {b : List ℕ} {m : ℕ} → Trace s e n b (accepted m) → (j : ℕ) × (m ≡ n + j) × Exactly cut turn e j b
    trace_lines (t_end t) = (0, omega arith, no_lines)
    trace_lines (t_next s' c r t h g p) = let q = trace_lines p in (suc q.0, q.1 ∙ omega arith, one_more c r h q.2)

    -- the line of an acceptance is the number of lines
    pub accepted_lines : (s : S) (e : E) (b : List ℕ) (m : ℕ) → answer s e b ≡ accepted m → Exactly cut turn e m b
    unfolding answer
    accepted_lines s e b m h =
        let q = trace_lines (subst (Trace s e 0 b) h (trace (suc (length b)) s e 0 b (omega arith))) in
        let j : q.0 ≡ m = omega (arith, q.1) in
        subst (λ i. Exactly cut turn e i b) j q.2

    -- a beginning that some continuation makes accepted
    abbrev pub Live : S → E → List ℕ → Type 0
    Live s e p = (q : List ℕ) × Acc s e (p ++ q)

    module _ (Inv : S → Type 0) (inv-step : (s s' : S) (e : E) (b c r : List ℕ) → cut e b ≡ some (c, r) → Inv s → step s c ≡ next s' → Inv s') (live : (s : S) (e : E) → Inv s → (q : List ℕ) × Acc s e q) where
      abbrev lines : E → ℕ → List ℕ → List ℕ
      lines = front cut turn

      abbrev Told : S → E → ℕ → List ℕ → ℕ → ℕ → Type 0
      Told s e n b k m = (j : ℕ) × (m ≡ suc (n + j)) × Exactly cut turn e j (lines e j b) × Live s e (lines e j b) × (k ≢ 1 → k ≢ 10 → Live s e (lines e (suc j) b) → ⊥)

      front_line : (j : ℕ) (e : E) (b c r : List ℕ) → cut e b ≡ some (c, r) → lines e (suc j) b ≡ c ++ lines (turn e c) j r
      unfolding front
      front_line j e b c r h = ap (λ o. first_of o b (λ c r. lines (turn e c) j r)) h

      cut_front : (j : ℕ) (e : E) (b c r : List ℕ) → cut e b ≡ some (c, r) → (q : List ℕ) → cut e (lines e (suc j) b ++ q) ≡ some (c, lines (turn e c) j r ++ q)
      cut_front j e b c r h q = rw (front_line j e b c r h, append_assoc) ((L e).stable b c r h (lines (turn e c) j r ++ q))

      more_lines : (j : ℕ) (e : E) (b c r : List ℕ) → cut e b ≡ some (c, r) → Exactly cut turn (turn e c) j (lines (turn e c) j r) → Exactly cut turn e (suc j) (lines e (suc j) b)
      more_lines j e b c r h x = one_more {e = e} {b = lines e (suc j) b} c (lines (turn e c) j r) (rw (front_line j e b c r h) ((L e).stable b c r h (lines (turn e c) j r))) x

      live_line : {s s' : S} {e : E} (b c r : List ℕ) → T (not (is_end s)) → cut e b ≡ some (c, r) → step s c ≡ next s' → (j : ℕ) → Live s e (lines e (suc j) b) ↔ Live s' (turn e c) (lines (turn e c) j r)
      live_line {s} {s'} {e} b c r t h g j = (
        λ l. let q = acc_line c (lines (turn e c) j r ++ l.0) (cut_front j e b c r h l.0) l.1 in (l.0, subst (λ u. Acc u (turn e c) (lines (turn e c) j r ++ l.0)) (cc) q.2),
        λ l. (l.0, line s' c (lines (turn e c) j r ++ l.0) t (cut_front j e b c r h l.0) g l.1),
      )

      late : (s : S) (e : E) (x : ℕ) (xs : List ℕ) → T (is_end s) → (o : Split) → cut e (x ∷ xs) ≡ o → Live s e (first_of o (x ∷ xs) (λ c r. lines (turn e c) 0 r)) → ⊥
      late s e x xs t none h l = acc_more t l.1
      late s e x xs t (some ([], r)) h l = omega (arith, ap length ((L e).splits (x ∷ xs) [] r h), (L e).shrinks (x ∷ xs) [] r h)
      late s e x xs t (some (y ∷ c, r)) h l = acc_more t l.1

      trace_refused : {s : S} {e : E} {n : ℕ} {b : List ℕ} {k m col : ℕ} → Inv s → Trace s e n b (refused k m col) → Told s e n b k m
      unfolding front
      trace_refused {s} {e} i (t_early t) = (0, omega arith, no_lines, live s e i, λ u v. absurd (v refl))
      trace_refused {s} {e} i (t_late {x = x} {xs} t) = (0, omega arith, no_lines, live s e i, λ u v. late s e x xs t (cut e (x ∷ xs)) refl)
      trace_refused {s} {e} i (t_broken t h) = (0, omega arith, no_lines, live s e i, λ u v. absurd (u refl))
      trace_refused {s} {e} {b = b} i (t_refuse c r t h g) = (0, omega arith, no_lines, live s e i, λ u v l. acc_refuse c ([] ++ l.0) (cut_front 0 e b c r h l.0) g l.1)
      trace_refused {s} {e} {b = b} i (t_next s' c r t h g p) =
          let q = trace_refused (inv-step s s' e b c r h i g) p in
          (suc q.0, q.1 ∙ omega arith, more_lines q.0 e b c r h q.2, (live_line b c r t h g q.0).1 q.3, λ u v l. q.4 u v ((live_line b c r t h g (suc q.0)).0 l))

      -- what a refusal tells: the lines before the named one are whole lines and can be completed; with it, none can, unless it is broken (1) or lacking (10)
      pub refusal : (s : S) (e : E) → Inv s → (b : List ℕ) (k m col : ℕ) → answer s e b ≡ refused k m col
          → (j : ℕ) × (m ≡ suc j) × Exactly cut turn e j (front cut turn e j b) × Live s e (front cut turn e j b) × (k ≢ 1 → k ≢ 10 → Live s e (front cut turn e (suc j) b) → ⊥)
      unfolding answer
      refusal s e i b k m col h =
          let q = trace_refused {col = col} i (subst (Trace s e 0 b) h (trace (suc (length b)) s e 0 b (omega arith))) in
          (q.0, q.1 ∙ omega arith, q.2, q.3, q.4)
