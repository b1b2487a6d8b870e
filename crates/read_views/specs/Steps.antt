-- The steps of a read that rest on no page, as changes of the read.
--     piece_start, piece_room      where a piece begins in the buffer, and how many bytes there are
--         for it
--     with_copy      another piece is copied
--     HasPlaceFor n      the piece that is copied next may have so many bytes
--     KeepsLent      what was lent, and what it holds, stays
use Rattle.std.specs.Prelude.{◌≡◌, ◌⊎◌, ℕ, zero, suc, ◌+◌, ◌*◌, ◌^◌, ◌<◌, ◌≤◌, List, [], ◌∷◌, ◌++◌, length, take, drop, Some, None}
use Rattle.page_model.specs.Pages.{Address}
use Rattle.store_data.specs.Pieces.{Part}
use Rattle.store_data.specs.Store.{Row}
use Rattle.read_model.specs.Flight.{Phase, Unpatch, Flight, onward}
use Rattle.read_model.specs.Buffer.{data_at}
use Rattle.read_views.specs.declared.flight.Flight.{Flight as FlightThere}

abbrev pub piece_start : ℕ → ℕ
piece_start zero = 0
piece_start (suc k) = 15_680 + k * 16_327

abbrev pub piece_room : ℕ → ℕ
piece_room zero = 15_680
piece_room (suc k) = 16_327

-- these bytes of that page, of the LOB with that first page
abbrev pub part_of : ℕ → ℕ → List ℕ → Part
part_of lob page bytes = record { page = page; at = data_at lob page; bytes = bytes }

abbrev pub with_node : Address → Flight → Flight
with_node a f = record f { node = Some a }

abbrev pub with_copy : Part → Flight → Flight
with_copy part f = record f { node = None; copied = f.copied ++ part ∷ [] }

-- from the document's present row on
abbrev pub with_walk : Row → Flight → Flight
with_walk row f = record f { phase = Unpatch; cursor = onward f.row row; node = None }

abbrev pub with_phase : Phase → Flight → Flight
with_phase p f = record f { phase = p }

-- bytes put into a buffer from a place on
abbrev pub with_bytes : ℕ → List ℕ → List ℕ → List ℕ
with_bytes start bytes buffer =
    take start buffer ++ (bytes ++ drop (length bytes) (drop start buffer))

-- they fill the piece's place in the buffer, or are the last of it
pub record HasPlaceFor (f : FlightThere) (n : ℕ) : Type 0 where
  pub piece : f.piece < length f.from.items
  pub few : length f.from.items < 2 ^ 32
  pub room : piece_start f.piece + n ≤ length f.buffer.items
  pub fills : (n ≡ piece_room f.piece)
      ⊎ ((n ≤ piece_room f.piece) × (piece_start f.piece + n ≡ length f.buffer.items))

pub record KeepsLent (old new : FlightThere) : Type 0 where
  pub view : new.view ≡ old.view
  pub doc : new.doc ≡ old.doc
  pub piece : new.piece ≡ old.piece
  pub head : new.head ≡ old.head
  pub from : new.from ≡ old.from
  pub buffer : new.buffer ≡ old.buffer
