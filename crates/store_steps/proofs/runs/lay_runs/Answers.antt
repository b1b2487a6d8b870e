use Rattle.std.proofs.Common.{◌≡◌, ◌+◌, ℕ, List, [], ◌∷◌, length, map, drop, refl, sym, ap, subst, ◌∙◌, arith}
use Rattle.std.specs.Option.{option_map}
use Rattle.page_model.specs.Pages.{all_written, written}
use Rattle.page_model.specs.Steps.{MayUse, Uses}
use Rattle.page_model.specs.Frames.{write}
use Rattle.page_model.proofs.StepLemmas.{uses_nowhere}
use Rattle.store_data.specs.Store.{Run}
use Rattle.undo_model.specs.Reading.{RunsFit}
use Rattle.undo_records.specs.Views.{run_of}
use Rattle.undo_records.specs.declared.runs.Run.{Run as OldRun}
use Rattle.store_pages.specs.Runs.{writes_of}
use Rattle.store_steps.specs.Runs.{run_pages, laid_room}
use Rattle.store_steps.proofs.RunLemmas.{drop_item, drop_all, may_first, may_rest, uses_first, uses_both, lays_then}
use Rattle.store_steps.proofs.runs.lay_runs.Goals as goal

pub write-requires-clause-may : goal.write-requires-clause-may
write-requires-clause-may g c =
    let runs = c.args.runs.now in
    let i = c.loop-run.run-index in
    let x = c.run-item.result in
    let rest = map run_of (drop (i + 1) runs) in
    let cut = ap (λ (rs : List OldRun). map run_of rs) (drop_item i runs x c.loop-run-test.true c.run-item.is) in
    let may = subst (λ (rs : List Run). MayUse (run_pages rs) 0 (laid_room rs) (g.P.Pages.state c.loop-run.p)) cut
    c.loop-run.invariant.may in
    subst (λ (bs : List ℕ). MayUse (x.page.0 ∷ []) 0 (length bs + 8) (g.P.Pages.state c.loop-run.p))
    (sym c.as_slice.ensures.value) (may_first (run_of x) rest _ may)

pub returns-in_err-write-clause-uses : goal.returns-in_err-write-clause-uses
returns-in_err-write-clause-uses g c =
    let runs = c.args.runs.now in
    let i = c.loop-run.run-index in
    let x = c.run-item.result in
    let rest = map run_of (drop (i + 1) runs) in
    let cut = ap (λ (rs : List OldRun). map run_of rs) (drop_item i runs x c.loop-run-test.true c.run-item.is) in
    let wrote = subst (λ (bs : List ℕ). Uses {T = g.row.P.Denot} g.P.Pages.state g.P.Pages.stays (x.page.0 ∷ []) 0 (length bs + 8)
    c.loop-run.p c.write.new.self) c.as_slice.ensures.value c.write.ensures.uses in
    c.loop-run.invariant.uses c.write.new.self
    (subst (λ (rs : List Run). Uses {T = g.row.P.Denot} g.P.Pages.state g.P.Pages.stays (run_pages rs) 0 (laid_room rs)
    c.loop-run.p c.write.new.self) (sym cut) (uses_first (run_of x) rest _ _ wrote))

pub loop-run-preserved : goal.loop-run-preserved
loop-run-preserved g c =
    let runs = c.args.runs.now in
    let i = c.loop-run.run-index in
    let x = c.run-item.result in
    let rest = map run_of (drop (i + 1) runs) in
    let cut = ap (λ (rs : List OldRun). map run_of rs) (drop_item i runs x c.loop-run-test.true c.run-item.is) in
    let wrote = subst (λ (bs : List ℕ). Uses {T = g.row.P.Denot} g.P.Pages.state g.P.Pages.stays (x.page.0 ∷ []) 0 (length bs + 8)
    c.loop-run.p c.write.new.self) c.as_slice.ensures.value c.write.ensures.uses in
    let fit = subst (λ (rs : List Run). RunsFit (g.P.Pages.state c.loop-run.p).count rs) cut c.loop-run.invariant.fit in
    let may = subst (λ (rs : List Run). MayUse (run_pages rs) 0 (laid_room rs) (g.P.Pages.state c.loop-run.p)) cut
    c.loop-run.invariant.may in
    let later = c.write.ensures.cause.later in
    let before = c.loop-run.invariant.faults in
    record {
      fit = subst (λ (n : ℕ). RunsFit n rest) (sym c.write.ensures.uses.count) fit.2;
      may = may_rest (run_of x) rest _ _ may wrote;
      told = lays_then (g.P.Pages.state c.loop-run.p).told (g.P.Pages.state c.write.new.self).told _
          (write x.page.0 x.at (run_of x).bytes) (writes_of rest)
          (subst (λ (bs : List ℕ). (g.P.Pages.state c.write.new.self).told
          ≡ option_map (λ pages. written pages x.page.0 x.at bs) (g.P.Pages.state c.loop-run.p).told)
          c.as_slice.ensures.value c.in_ok-write.ensures.written) refl
          ∙ (subst (λ (rs : List Run). option_map (all_written (writes_of rs)) (g.P.Pages.state c.loop-run.p).told
          ≡ option_map (all_written (writes_of (map run_of runs))) (g.P.Pages.state c.args.p.now).told) cut
          c.loop-run.invariant.told);
      faults = omega (arith, later, before);
      uses = λ t rest_used. c.loop-run.invariant.uses t
          (subst (λ (rs : List Run). Uses {T = g.row.P.Denot} g.P.Pages.state g.P.Pages.stays (run_pages rs) 0 (laid_room rs)
          c.loop-run.p t) (sym cut) (uses_both g.P.Pages.stays_on (run_of x) rest _ _ _ wrote rest_used));
    }

pub returns-clause-uses : goal.returns-clause-uses
returns-clause-uses g c =
    let runs = c.args.runs.now in
    let i = c.loop-run.run-index in
    let none = ap (λ (rs : List OldRun). map run_of rs) (drop_all i runs c.loop-run-test.false) in
    c.loop-run.invariant.uses c.loop-run.p
    (subst (λ (rs : List Run). Uses {T = g.row.P.Denot} g.P.Pages.state g.P.Pages.stays (run_pages rs) 0 (laid_room rs)
    c.loop-run.p c.loop-run.p) (sym none) (uses_nowhere [] c.loop-run.p (g.P.Pages.stays_still c.loop-run.p)))
