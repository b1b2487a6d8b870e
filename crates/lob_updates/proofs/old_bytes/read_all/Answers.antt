use Rattle.std.proofs.Common.{◌+◌, ℕ, List, [], ◌∷◌, length, map, drop, sym, ap, subst, ◌∙◌, arith}
use Rattle.page_model.specs.Steps.{MayUse, Uses}
use Rattle.page_model.proofs.StepLemmas.{uses_nowhere}
use Rattle.store_data.specs.Store.{Run}
use Rattle.undo_model.specs.Old.{old_size}
use Rattle.undo_model.specs.Reading.{RunsFit}
use Rattle.undo_records.specs.Views.{run_of}
use Rattle.undo_records.specs.declared.runs.Run.{Run as OldRun}
use Rattle.store_steps.specs.Runs.{run_pages}
use Rattle.store_steps.proofs.RunLemmas.{drop_item, drop_all, length_runs}
use Rattle.lob_updates.specs.Reads.{ReadsTo}
use Rattle.lob_updates.proofs.ReadLemmas.{reads_then, reads_none, one_read, sound_old, may_read, may_read_on, uses_read, uses_read_on}
use Rattle.lob_updates.proofs.old_bytes.read_all.Goals as goal

pub read_run-requires-clause-may : goal.read_run-requires-clause-may
read_run-requires-clause-may g c =
    let runs = c.args.runs.now in
    let i = c.loop-run.run-index in
    let x = c.run-item.result in
    let rest = map run_of (drop (i + 1) runs) in
    let cut = ap (λ (rs : List OldRun). map run_of rs) (drop_item i runs x c.loop-run-test.true c.run-item.is) in
    may_read (run_of x) rest _
    (subst (λ (rs : List Run). MayUse (run_pages rs) 0 0 (g.P.Pages.state c.loop-run.p)) cut c.loop-run.invariant.may)

pub returns-in_err-read_run-clause-uses : goal.returns-in_err-read_run-clause-uses
returns-in_err-read_run-clause-uses g c =
    let runs = c.args.runs.now in
    let i = c.loop-run.run-index in
    let x = c.run-item.result in
    let rest = map run_of (drop (i + 1) runs) in
    let cut = ap (λ (rs : List OldRun). map run_of rs) (drop_item i runs x c.loop-run-test.true c.run-item.is) in
    c.loop-run.invariant.uses c.read_run.new.p
    (subst (λ (rs : List Run). Uses {T = g.row.P.Denot} g.P.Pages.state g.P.Pages.stays (run_pages rs) 0 0
    c.loop-run.p c.read_run.new.p) (sym cut) (uses_read (run_of x) rest _ _ c.read_run.ensures.uses))

pub loop-run-preserved : goal.loop-run-preserved
loop-run-preserved g c =
    let runs = c.args.runs.now in
    let i = c.loop-run.run-index in
    let x = c.run-item.result in
    let told0 = (g.P.Pages.state c.args.p.now).told in
    let rest = map run_of (drop (i + 1) runs) in
    let item = drop_item i runs x c.loop-run-test.true c.run-item.is in
    let cut = ap (λ (rs : List OldRun). map run_of rs) item in
    let fit = subst (λ (rs : List Run). RunsFit (g.P.Pages.state c.loop-run.p).count rs) cut c.loop-run.invariant.fit in
    let may = subst (λ (rs : List Run). MayUse (run_pages rs) 0 0 (g.P.Pages.state c.loop-run.p)) cut
    c.loop-run.invariant.may in
    let later = c.read_run.ensures.cause.later in
    let before = c.loop-run.invariant.faults in
    let many = ap (λ (rs : List OldRun). length rs) item in
    let size = ap old_size cut in
    let reads = c.in_ok-read_run.ensures.reads in
    let more = one_read _ c.loop-run.old c.read_run.new.old (run_of x) reads in
    let more0 = more.0 in
    let more1 = more.1 in
    let few = c.loop-run.invariant.few in
    let small = c.loop-run.invariant.small in
    record {
      fit = subst (λ (n : ℕ). RunsFit n rest) (sym c.read_run.ensures.uses.count) fit.2;
      few = omega (arith, few, many, more0);
      small = omega (arith, small, size, more1);
      may = may_read_on (run_of x) rest _ _ may c.read_run.ensures.uses;
      told = c.read_run.ensures.told ∙ c.loop-run.invariant.told;
      reads = λ new rs. c.loop-run.invariant.reads new
          (subst (λ (ms : List Run). ReadsTo told0 c.loop-run.old ms new) (sym cut)
          (reads_then told0 c.loop-run.old c.read_run.new.old new (run_of x) rest
          (subst (λ o. ReadsTo o c.loop-run.old (run_of x ∷ []) c.read_run.new.old) c.loop-run.invariant.told reads) rs));
      faults = omega (arith, later, before);
      uses = λ t rest_used. c.loop-run.invariant.uses t
          (subst (λ (rs : List Run). Uses {T = g.row.P.Denot} g.P.Pages.state g.P.Pages.stays (run_pages rs) 0 0
          c.loop-run.p t) (sym cut) (uses_read_on g.P.Pages.stays_on (run_of x) rest _ _ _ c.read_run.ensures.uses rest_used));
    }

pub returns-clause-reads : goal.returns-clause-reads
returns-clause-reads g c =
    let none = ap (λ (rs : List OldRun). map run_of rs) (drop_all c.loop-run.run-index c.args.runs.now c.loop-run-test.false) in
    let told0 = (g.P.Pages.state c.args.p.now).told in
    c.loop-run.invariant.reads c.loop-run.old
    (subst (λ (ms : List Run). ReadsTo told0 c.loop-run.old ms c.loop-run.old) (sym none) (reads_none told0 c.loop-run.old))

pub returns-clause-sound : goal.returns-clause-sound
returns-clause-sound g c =
    let none = ap (λ (rs : List OldRun). map run_of rs) (drop_all c.loop-run.run-index c.args.runs.now c.loop-run-test.false) in
    let told0 = (g.P.Pages.state c.args.p.now).told in
    let many = length_runs run_of c.args.runs.now in
    let few = c.requires.few in
    sound_old _ told0 (map run_of c.args.runs.now) c.loop-run.old c.requires.size
    (c.loop-run.invariant.reads c.loop-run.old
    (subst (λ (ms : List Run). ReadsTo told0 c.loop-run.old ms c.loop-run.old) (sym none) (reads_none told0 c.loop-run.old)))
    c.requires.fit (omega (arith, many, few)) c.requires.small

pub returns-clause-uses : goal.returns-clause-uses
returns-clause-uses g c =
    let none = ap (λ (rs : List OldRun). map run_of rs) (drop_all c.loop-run.run-index c.args.runs.now c.loop-run-test.false) in
    c.loop-run.invariant.uses c.loop-run.p
    (subst (λ (rs : List Run). Uses {T = g.row.P.Denot} g.P.Pages.state g.P.Pages.stays (run_pages rs) 0 0
    c.loop-run.p c.loop-run.p) (sym none) (uses_nowhere [] c.loop-run.p (g.P.Pages.stays_still c.loop-run.p)))
