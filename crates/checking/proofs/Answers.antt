-- Inputs checked line by line. Assumes nothing.
use Prim.Native.Nat.{ℕ}
use mathlib.Core.Path.{◌≡◌, refl, subst⁻¹}
use mathlib.Core.List.{List, [], ◌++◌}
use lib.ListN.{take}
use Rattle.std.proofs.lemmas.Fn.{chained_keeps}
use Rattle.format.specs.Cutting.{next_line}
use Rattle.reading.specs.State.{start_state}
use Rattle.reading.specs.Step.{step_at}
use Rattle.reading.specs.declared.State.{State}
use Rattle.file.specs.Reached.{at_start, one_step, InRun}
use Rattle.file.specs.Totals.{RunTotals}
use Rattle.file.proofs.Completing.{reached_totals}
use Rattle.streams.specs.Taking.{left_in, Took}
use Rattle.streams.specs.declared.lines.Lines.{Lines}
use Rattle.checking.specs.Answered.{Answered, Steps}
use Rattle.checking.specs.declared.Checked.{Checked}
use Rattle.checking.specs.declared.run.Run.{Run}

abbrev checked_by : Run → Lines → Checked
checked_by r l = record { answer = r.answer; state = r.state; lines = l }

reached_first : {s : State} → s ≡ start_state → InRun s
unfolding InRun
reached_first e = subst⁻¹ InRun e ([], at_start)

reached_after : (r : Run) (bytes : List ℕ) {r' : Run} → InRun r.state → Steps r bytes r' → InRun r'.state
unfolding InRun
reached_after r bytes h e = subst⁻¹ InRun e.1 (_, one_step bytes h.1)

reached_before : {r r' : Run} {line : List ℕ} (t : Took Steps r line r') → InRun r.state → InRun t.before.state
reached_before {r} t h = chained_keeps Steps (λ _ q. InRun q.state) (λ xs q x v k e. reached_after q x k e) t.lines r t.before h t.through

answered_at : {r : Run} {buffer : List ℕ} (s : State) (bytes : List ℕ) (l : Lines) → InRun s → bytes ≡ next_line (left_in l buffer) → (r.answer ≡ (step_at s bytes).answer) × (r.state ≡ (step_at s bytes).next) → Answered (checked_by r l) buffer
unfolding InRun
answered_at s bytes l h n e =
    record {
      read = h.0;
      before = s;
      bytes = bytes;
      run = h.1;
      next = n;
      answer = e.0;
      state = e.1;
      totals = subst⁻¹ (λ x. RunTotals (h.0 ++ take (step_at s bytes).bytes bytes) x) e.1 (reached_totals (one_step bytes h.1));
    }

pub answered : {first r : Run} {buffer : List ℕ} (l : Lines) → first.state ≡ start_state → Took Steps first (next_line (left_in l buffer)) r → Answered (checked_by r l) buffer
answered l e t = answered_at t.before.state _ l (reached_before t (reached_first e)) refl t.at
