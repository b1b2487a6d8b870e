-- Reads under way, as an event of a rollback leaves them.
--     AreTurned turn old new      each read is turned, and keeps what isn't plain data
--     handed      what the undoing of a record makes of a read
--     led_on      what it makes of one that a node which is freed goes on at its head
use Rattle.std.specs.Prelude.{◌≡◌, List, [], ◌∷◌}
use Rattle.page_model.specs.Pages.{Address}
use Rattle.store_data.specs.Store.{Record}
use Rattle.read_model.specs.Flight.{Flight as Read}
use Rattle.read_model.specs.Steps.{moved}
use Rattle.read_views.specs.declared.flight.Flight.{Flight}
use Rattle.read_views.specs.Flights.{flight_of, handed_to, KeepsPlaces}

abbrev pub AreTurned : (Flight → Read) → List Flight → List Flight → Type 0
AreTurned turn [] [] = Unit {0}
AreTurned turn [] (g ∷ gs) = ⊥
AreTurned turn (f ∷ fs) [] = ⊥
AreTurned turn (f ∷ fs) (g ∷ gs) = (flight_of g ≡ turn f) × KeepsPlaces f g × AreTurned turn fs gs

abbrev pub handed : Address → Record → Flight → Read
handed a u f = handed_to f.doc.0 a u (flight_of f)

abbrev pub led_on : Address → Address → Flight → Read
led_on node head f = moved node head (flight_of f)
