-- The theorems of the language, of the answer that the check of a whole file gives. Assumes nothing.
use Prim.Native.Nat.{ℕ, ◌≤◌}
use mathlib.Core.Path.{◌≡◌, refl, sym, ap, ◌∙◌, subst}
use mathlib.Core.Logic.{◌↔◌, ◌≢◌}
use mathlib.Core.List.{List}
use native.Mathlib.Omega.{arith}
use Rattle.machine.proofs.Base as base
use Rattle.format.specs.Answers.{accepted, beyond_limits, refusal, acceptance}
use Rattle.format.specs.declared.Answer.{Answer}
use Rattle.format.specs.Cutting.{AreLines}
use Rattle.format.specs.Statements.{InLanguage, RefusalTells}
use Rattle.format.proofs.Theorem.{read_file}
use Rattle.format.proofs.Theorem as the
use Rattle.reading.specs.State.{max_line}
use Rattle.reading.specs.Check.{check_of, read_of}
use Rattle.reading.specs.declared.FileRead.{FileRead}
use Rattle.file.specs.Meaning.{Means}
use Rattle.file.proofs.Counted.{each_counted}
use Rattle.file.proofs.Lines.{of_no_state}
use Rattle.file.proofs.Run.{Says, yes, no, same_answer}

-- of an answer that says what the language's reader says
means_as : (b : List ℕ) {a : Answer} {r : base.Result} → Says a r → read_file b ≡ r → Means b a
means_as b (yes n h) e =
    record {
      accepted_exactly = (λ z. (the.language b).0 (n, e), λ f. refl);
      accepted_lines = λ z. (the.lines_read b n e, refl);
      one_reading = the.one_reading b;
      each_counted = λ f r. each_counted f;
      refusal = λ z. absurd (z refl);
      numbers = refl;
    }
means_as b (no number n column h) e =
    record {
      accepted_exactly = (λ z. absurd (omega arith), λ f. absurd (let w = (the.language b).1 f in accepted≢refused w.0 (sym w.1 ∙ e)));
      accepted_lines = λ z. absurd (omega arith);
      one_reading = the.one_reading b;
      each_counted = λ f r. each_counted f;
      refusal = λ z. the.refusals b number n column e;
      numbers = h.1;
    }
  where
    accepted≢refused : (m : ℕ) → base.accepted m ≡ base.refused number n column → ⊥
    accepted≢refused m e = let z : ◌≡◌ {A = ℕ} 0 1 = cc in omega arith

-- THE ANSWER OF A FILE MEANS what is said of it
pub means : (b : List ℕ) → Means b (check_of b)
means b = means_as b (same_answer b) refl

-- ## The same of equal answers

-- ACCEPTED exactly when it is in the language
pub language : (b : List ℕ) → ((n : ℕ) × (check_of b ≡ acceptance n)) ↔ InLanguage b
language b = (
  λ a. (means b).accepted_exactly.0 (ap (λ (r : Answer). r.number) a.1),
  λ f.
      let z = (means b).accepted_exactly.1 f in
      let c = ((means b).accepted_lines z).1 in
      ((check_of b).line, λ i. refusal (z i) (check_of b).line (c i)),
)

-- an acceptance names the number of lines
pub lines_read : (b : List ℕ) (n : ℕ) → check_of b ≡ acceptance n → AreLines n b
lines_read b n e = subst (λ m. AreLines m b) (ap (λ (r : Answer). r.line) e) ((means b).accepted_lines (ap (λ (r : Answer). r.number) e)).0

-- WHAT A REFUSAL TELLS
pub refusals : (b : List ℕ) (number n column : ℕ) → number ≢ accepted → check_of b ≡ refusal number n column → RefusalTells b number n
refusals b number n column z e = subst (λ (r : Answer). RefusalTells b r.number r.line) e ((means b).refusal (λ w. z (sym (ap (λ (r : Answer). r.number) e) ∙ w)))

-- NO FILE IS ANSWERED 24
pub never_beyond : (b : List ℕ) → (check_of b).number ≢ beyond_limits
never_beyond b = of_no_state (check_of b).number (means b).numbers

-- no accepted file has more lines than 01's limit
pub none_longer : (b : List ℕ) (n : ℕ) → check_of b ≡ acceptance n → n ≤ max_line
none_longer b n e = by (same_answer b) e
  where
    by : {a : Answer} {r : base.Result} → Says a r → a ≡ acceptance n → n ≤ max_line
    by (yes m h) e = subst (λ (r : Answer). r.line ≤ max_line) e h
    by (no k m c h) e = let q : k ≡ 0 = ap (λ (r : Answer). r.number) e in absurd (omega arith)

-- what the answer means that a call gave
pub meant : {r : FileRead} (b : List ℕ) → r ≡ read_of b → Means b r.answer
meant b e = subst (λ (r : FileRead). Means b r.answer) (sym e) (means b)
