use Rattle.std.proofs.Common.{◌≡◌, ◌<◌, ◌≤◌, ◌-◌, [], ◌∷◌, true, Some}
use Rattle.page_model.specs.Pages.{Pages}
use Rattle.page_model.specs.Steps.{Uses}
use Rattle.engine_base.specs.Addresses.{address_of}
use Rattle.undo_model.specs.Data.{Log}
use Rattle.undo_model.specs.Logs.{IsLog, end_field}
use Rattle.undo_model.specs.LogSteps.{has_page}
use Rattle.undo_logs.specs.Purged.{WalksTo}
use Rattle.undo_logs.proofs.purged.boundary.Given as goal

-- the walk has come to the place
abbrev pub invariant-records : goal.invariant-records
invariant-records g l = record {
  told : (g.P.Pages.state l.p).told ≡ (g.P.Pages.state l.fn.p).told;
  faults : (g.P.Pages.state l.fn.p).faults ≤ (g.P.Pages.state l.p).faults;
  uses : Uses g.P.Pages.state g.P.Pages.stays (l.fn.a.page.0 ∷ []) 0 0 l.fn.p l.p;
  value : (pages : Pages) (log : Log) → (g.P.Pages.state l.fn.p).told ≡ Some pages → log.page ≡ l.fn.log.0 → IsLog pages log → has_page l.fn.a.page.0 log.parts ≡ true
      → l.fn.a.at < end_field pages l.fn.a.page.0 → WalksTo log (address_of l.fn.a) l.place pages;
}

abbrev pub decreases-records : goal.decreases-records
decreases-records g l = l.fn.a.at - l.place
