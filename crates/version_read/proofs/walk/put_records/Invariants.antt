use Rattle.std.proofs.Common.{◌≡◌, ◌≤◌, ◌-◌, List, [], Option}
use Rattle.page_model.specs.Pages.{Pages}
use Rattle.page_model.specs.Steps.{Uses}
use Rattle.store_data.specs.Pieces.{Part}
use Rattle.store_data.specs.Store.{Store}
use Rattle.read_model.specs.Document.{Sees}
use Rattle.read_model.specs.Steps.{step}
use Rattle.read_model.specs.OfStore.{document}
use Rattle.read_views.specs.Flights.{flight_of, KeepsPlaces}
use Rattle.version_read.specs.Next.{IsReading}
use Rattle.version_read.proofs.WalkLemmas.{IsOnWalk}
use Rattle.version_read.proofs.walk.put_records.Given as goal

-- as many steps of the walk are done
abbrev pub invariant-records : goal.invariant-records
invariant-records g l = record {
  of : KeepsPlaces l.fn.flight l.flight;
  told : (g.P.Pages.state l.p).told ≡ (g.P.Pages.state l.fn.p).told;
  faults : (g.P.Pages.state l.fn.p).faults ≤ (g.P.Pages.state l.p).faults;
  uses : Uses g.P.Pages.state g.P.Pages.stays [] l._n 0 l.fn.p l.p;
  value : (pages : Pages) (store : Store) (sees : Sees) (shown : Option (List Part))
      → IsReading (g.P.Pages.state l.fn.p).told pages store l.fn.flight.doc.0 sees shown (flight_of l.fn.flight)
      → IsOnWalk sees (document store l.fn.flight.doc.0) shown (8 - l._n) (step sees (document store l.fn.flight.doc.0) (flight_of l.fn.flight)) (flight_of l.flight);
}
