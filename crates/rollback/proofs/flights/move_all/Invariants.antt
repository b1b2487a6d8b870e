use Rattle.std.proofs.Common.{◌≡◌, take, drop}
use Rattle.engine_base.specs.Addresses.{address_of}
use Rattle.rollback.specs.Flights.{AreTurned, led_on}
use Rattle.rollback.proofs.flights.move_all.Given as goal

abbrev pub invariant-loop-flight : goal.invariant-loop-flight
invariant-loop-flight l =
    AreTurned (led_on (address_of l.node) (address_of l.head)) (take l.flight-index l.fn.flights)
    (take l.flight-index l.flights)
    × (drop l.flight-index l.flights ≡ drop l.flight-index l.fn.flights)
