use Rattle.std.proofs.Common.{◌≡◌, ℕ, ◌≤◌, ◌-◌, List, [], Option}
use Rattle.page_model.specs.Pages.{Pages}
use Rattle.page_model.specs.Steps.{Uses}
use Rattle.store_data.specs.Pieces.{Part}
use Rattle.store_data.specs.Store.{Store}
use Rattle.read_model.specs.Steps.{judging}
use Rattle.read_model.specs.OfStore.{document}
use Rattle.read_views.specs.Flights.{row_in}
use Rattle.version_read.specs.Next.{IsReading}
use Rattle.version_read.specs.Seeks.{sees_in}
use Rattle.version_read.proofs.SeekLemmas.{IsOnSearch}
use Rattle.version_read.proofs.seek.row_sought.Given as goal

-- as many rows are passed
abbrev pub invariant-rows : goal.invariant-rows
invariant-rows g l = record {
  told : (g.P.Pages.state l.p).told ≡ (g.P.Pages.state l.fn.p).told;
  faults : (g.P.Pages.state l.fn.p).faults ≤ (g.P.Pages.state l.p).faults;
  uses : Uses g.P.Pages.state g.P.Pages.stays [] l._n 0 l.fn.p l.p;
  value : (pages : Pages) (store : Store) (d : ℕ) (shown : Option (List Part))
      → IsReading (g.P.Pages.state l.fn.p).told pages store d (sees_in l.fn.views l.fn.view) shown (judging (row_in l.fn.first))
      → IsOnSearch (sees_in l.fn.views l.fn.view) (document store d) shown (8 - l._n) (row_in l.fn.first) (row_in l.row);
}
