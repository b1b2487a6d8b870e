-- The newest version of a touched piece, as it goes.
--     is_raised      it is the one that the change behind version v pushed
--     version_gone      the store, once it has gone where it is that one
--     pop_turn      what becomes of a read then
--     CanPop      there is a version before that one
use Rattle.std.specs.Prelude.{◌≡◌, ◌≢◌, ℕ, suc, Bool, true, false, ◌==◌, if◌then◌else◌, List, [], ◌∷◌, Option, Some, None}
use Rattle.page_model.specs.Pages.{Pages, Address}
use Rattle.store_data.specs.Store.{Version, Piece, Lob, Store}
use Rattle.undo_model.specs.Rows.{RowPage}
use Rattle.store_model.specs.Lobs.{lob_of, pieces_of}
use Rattle.store_model.specs.Takes.{piece_of}
use Rattle.store_model.specs.Undo.{version_popped}
use Rattle.read_model.specs.Flight.{Flight as Read}
use Rattle.read_views.specs.declared.flight.Flight.{Flight}
use Rattle.read_views.specs.Flights.{flight_of}
use Rattle.store_steps.specs.Standing.{StandsOn}
use Rattle.rollback.specs.Flights.{led_on}

abbrev pub is_raised : ℕ → Option Piece → Bool
is_raised v None = false
is_raised v (Some p) = p.head.number == suc v

abbrev pub piece_at : ℕ → ℕ → Store → Option Piece
piece_at page k store = piece_of k (pieces_of (lob_of store.lobs page))

abbrev pub version_gone : ℕ → ℕ → ℕ → List Address → Store → Store
version_gone page k v free store =
    if is_raised v (piece_at page k store) then version_popped page k free store else store

-- a search at the node that is freed goes on at the head
abbrev pub led_in : List Version → Address → Flight → Read
led_in [] head f = flight_of f
led_in (x ∷ xs) head f = led_on x.place head f

abbrev pub turned_by : Bool → Option Piece → Flight → Read
turned_by b None f = flight_of f
turned_by true (Some p) f = led_in p.older p.head.place f
turned_by false (Some p) f = flight_of f

abbrev pub pop_turn : ℕ → ℕ → ℕ → Store → Flight → Read
pop_turn page k v store f =
    turned_by (is_raised v (piece_at page k store)) (piece_at page k store) f

abbrev pub PopsVersion : List RowPage → ℕ → ℕ → ℕ → Store → Pages → Type 0
PopsVersion there page k v store new =
    (free : List Address) × StandsOn there new (version_gone page k v free store)

abbrev pub CanPop : ℕ → ℕ → Lob → Type 0
CanPop k v l = (p : Piece) → piece_of k l.pieces ≡ Some p → p.head.number ≡ suc v → p.older ≢ []
