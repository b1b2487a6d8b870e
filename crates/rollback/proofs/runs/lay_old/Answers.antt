use Rattle.std.proofs.Common.{◌≤◌, List, length, map, sym, ap, subst, ◌∙◌, arith}
use Rattle.std.specs.Option.{option_map}
use Rattle.page_model.specs.Pages.{all_written}
use Rattle.page_model.specs.Steps.{different}
use Rattle.undo_records.specs.Views.{run_of}
use Rattle.store_data.specs.Store.{Run}
use Rattle.store_model.specs.Steps.{on_lobs}
use Rattle.store_model.specs.Runs.{lobs_laid}
use Rattle.store_pages.specs.Runs.{writes_of}
use Rattle.store_steps.specs.Standing.{StandsOn}
use Rattle.lob_index.proofs.AnswerLemmas.{on_ok}
use Rattle.store_steps.specs.Runs.{run_pages, laid_room}
use Rattle.store_steps.proofs.RunLemmas.{may_few, uses_few, few_bytes, length_runs, runs_laid}
use Rattle.rollback.proofs.runs.lay_old.Goals as goal

pub lay_runs-requires-clause-may : goal.lay_runs-requires-clause-may
lay_runs-requires-clause-may g c =
    let rs = map run_of c.as_slice-runs.result.now in
    let few : different (run_pages rs) ≤ 4 =
    (let e = c.page_count-count.ensures.value in let f = c.if-count-gt-MAX_PAGES.false in omega (arith, e, f)) in
    let many : length rs ≤ 100 =
    (let e = length_runs run_of c.as_slice-runs.result.now in let m = c.as_slice-runs.ensures.most in omega (arith, e, m)) in
    may_few (run_pages rs) 4 900 (laid_room rs) _ few (few_bytes rs many c.as_slice-runs.ensures.small)
    c.requires.may

pub returns-clause-lays : goal.returns-clause-lays
returns-clause-lays g c = λ there pages store page l told on found lie.
    let rs = map run_of c.as_slice-runs.result.now in
    on_ok _ _ c.lay_runs.result (λ e. (
      all_written (writes_of rs) pages,
      e ∙ ap (option_map (all_written (writes_of rs))) told,
      subst (λ (xs : List Run). StandsOn there (all_written (writes_of xs) pages)
          (on_lobs (lobs_laid c.args.runs.now) store)) (sym c.as_slice-runs.ensures.value)
          (runs_laid there pages store page l c.args.runs.now on found lie),
    )) c.lay_runs.ensures.lays

pub returns-clause-uses : goal.returns-clause-uses
returns-clause-uses g c =
    let rs = map run_of c.as_slice-runs.result.now in
    let few : different (run_pages rs) ≤ 4 =
    (let e = c.page_count-count.ensures.value in let f = c.if-count-gt-MAX_PAGES.false in omega (arith, e, f)) in
    let many : length rs ≤ 100 =
    (let e = length_runs run_of c.as_slice-runs.result.now in let m = c.as_slice-runs.ensures.most in omega (arith, e, m)) in
    uses_few (run_pages rs) 4 900 (laid_room rs) _ _ few (few_bytes rs many c.as_slice-runs.ensures.small)
    c.lay_runs.ensures.uses
