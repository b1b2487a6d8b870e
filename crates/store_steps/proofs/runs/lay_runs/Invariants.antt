use Rattle.std.proofs.Common.{◌≡◌, ◌≤◌, map, drop}
use Rattle.std.specs.Option.{option_map}
use Rattle.page_model.specs.Pages.{all_written}
use Rattle.page_model.specs.Steps.{MayUse, Uses}
use Rattle.undo_model.specs.Reading.{RunsFit}
use Rattle.undo_records.specs.Views.{run_of}
use Rattle.store_pages.specs.Runs.{writes_of}
use Rattle.store_steps.specs.Runs.{run_pages, laid_room}
use Rattle.store_steps.proofs.runs.lay_runs.Given as goal

-- what writing the rest gives, uses and wrote from here is what all gives from the start
abbrev pub invariant-loop-run : goal.invariant-loop-run
invariant-loop-run g l = record {
  fit : RunsFit (g.P.Pages.state l.p).count (map run_of (drop l.run-index l.runs));
  may : MayUse (run_pages (map run_of (drop l.run-index l.runs))) 0
      (laid_room (map run_of (drop l.run-index l.runs))) (g.P.Pages.state l.p);
  told : option_map (all_written (writes_of (map run_of (drop l.run-index l.runs)))) (g.P.Pages.state l.p).told
      ≡ option_map (all_written (writes_of (map run_of l.runs))) (g.P.Pages.state l.fn.p).told;
  faults : (g.P.Pages.state l.fn.p).faults ≤ (g.P.Pages.state l.p).faults;
  uses : (t : g.row.P.Denot) → Uses g.P.Pages.state g.P.Pages.stays
      (run_pages (map run_of (drop l.run-index l.runs))) 0 (laid_room (map run_of (drop l.run-index l.runs))) l.p t
      → Uses g.P.Pages.state g.P.Pages.stays (run_pages (map run_of l.runs)) 0 (laid_room (map run_of l.runs)) l.fn.p t;
}
