use Rattle.std.proofs.Common.{◌≡◌, ◌+◌, ◌≤◌, List, [], length, map, drop}
use Rattle.page_model.specs.Steps.{MayUse, Uses}
use Rattle.store_data.specs.Store.{Run}
use Rattle.undo_model.specs.Old.{old_size}
use Rattle.undo_model.specs.Reading.{RunsFit}
use Rattle.undo_records.specs.Views.{run_of}
use Rattle.store_steps.specs.Runs.{run_pages}
use Rattle.lob_updates.specs.Reads.{ReadsTo}
use Rattle.lob_updates.proofs.old_bytes.read_all.Given as goal

-- what reading the rest gives and uses from here is what all gives from the start
abbrev pub invariant-loop-run : goal.invariant-loop-run
invariant-loop-run g l = record {
  fit : RunsFit (g.P.Pages.state l.p).count (map run_of (drop l.run-index l.runs));
  few : length l.old + length (drop l.run-index l.runs) ≤ 100;
  small : old_size l.old + old_size (map run_of (drop l.run-index l.runs)) ≤ 100;
  may : MayUse (run_pages (map run_of (drop l.run-index l.runs))) 0 0 (g.P.Pages.state l.p);
  told : (g.P.Pages.state l.p).told ≡ (g.P.Pages.state l.fn.p).told;
  reads : (new : List Run)
      → ReadsTo (g.P.Pages.state l.fn.p).told l.old (map run_of (drop l.run-index l.runs)) new
      → ReadsTo (g.P.Pages.state l.fn.p).told [] (map run_of l.runs) new;
  faults : (g.P.Pages.state l.fn.p).faults ≤ (g.P.Pages.state l.p).faults;
  uses : (t : g.row.P.Denot) → Uses g.P.Pages.state g.P.Pages.stays
      (run_pages (map run_of (drop l.run-index l.runs))) 0 0 l.p t
      → Uses g.P.Pages.state g.P.Pages.stays (run_pages (map run_of l.runs)) 0 0 l.fn.p t;
}
