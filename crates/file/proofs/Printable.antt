-- EVERY CHARACTER OF A LINE THAT IS TAKEN IS PRINTABLE: no byte 10 is among its 50. Assumes nothing.
use Prim.Native.Nat.{ℕ}
use mathlib.Core.Path.{◌≡◌, sym, ap, ◌∙◌, subst}
use mathlib.Core.List.{List, [], ◌++◌, append-nil}
use native.Mathlib.Omega.{arith}
use lib.ListN.{length, take, drop_of_length-le}
use lib.Dec.{T}
use Rattle.machine.specs.Lists.{pick, all}
use Rattle.format.specs.Fields.{printable, write_fields}
use Rattle.format.specs.Records.{layout, code}
use Rattle.format.proofs.Cutting.{whole_fifty}
use Rattle.format.proofs.Link as link
use Rattle.format.proofs.Printable.{record_printable}
use Rattle.format.specs.Cutting.{cut_of}
use Rattle.reading.specs.Step.{judged_line, with_cut, judged_first}
use Rattle.reading.specs.declared.State.{State}
use Rattle.reading.specs.Step.{Judged}
use Rattle.reading.proofs.Verdicts.{Taken, cut_number}
use Rattle.file.proofs.Places.{phase_of, context_of, place_of}
use Rattle.file.proofs.Lines.{Agrees, goes, stops, line_agrees}

pub taken_printable : {s : State} {xs : List ℕ} → Taken s xs → T (all printable (take 50 xs))
unfolding judged_first pick
taken_printable {s} {xs} t = by (line_agrees s l) number
  where
    l : List ℕ
    l = take 50 xs

    long : length l ≡ 50
    long = whole_fifty s.before.ending xs t.whole

    number : (judged_line s l).number ≡ 0
    number =
        let e : with_cut (cut_of xs) (judged_line s l) ≡ _ = rw (t.limits, t.unended, t.whole) at t.is in
        sym (cut_number (cut_of xs) (judged_line s l)) ∙ ap (λ (j : Judged). j.number) e

    by : {j : Judged} → Agrees s l j → j.number ≡ 0 → T (all printable l)
    by (goes k u e d) z =
        let w = link.taken [] (phase_of s) (context_of s.before s.batch) l (place_of u) (record { long = long; ended = drop_of_length-le l {i = 50} (omega (arith, long)) }) e in
        let q = write_fields (layout w.kind) w.fields_of in
        subst (λ c. T (all printable c)) (sym (w.line ∙ ap (λ r. code w.kind ++ r) (append-nil q))) (record_printable w.kind w.fields_of w.ok.fits)
    by (stops c n i e) z = absurd (omega arith)
