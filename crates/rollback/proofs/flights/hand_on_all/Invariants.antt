use Rattle.std.proofs.Common.{◌≡◌, take, drop}
use Rattle.engine_base.specs.Addresses.{address_of}
use Rattle.read_views.specs.Flights.{record_in}
use Rattle.rollback.specs.Flights.{AreTurned, handed}
use Rattle.rollback.proofs.flights.hand_on_all.Given as goal

abbrev pub invariant-loop-flight : goal.invariant-loop-flight
invariant-loop-flight l =
    AreTurned (handed (address_of l.newest.place) (record_in l.newest.rec))
    (take l.flight-index l.fn.flights) (take l.flight-index l.flights)
    × (drop l.flight-index l.flights ≡ drop l.flight-index l.fn.flights)
