-- A read under way of the code, as plain data.
--     flight_of      the read behind it
--     handed_to      the read, once a record of a document is undone
--     parts_put      the pieces of a buffer with the old bytes of a record put back
use Rattle.std.specs.Prelude.{◌≡◌, length, ℕ, List, [], ◌∷◌, ◌++◌, map, take, drop, Option, Some, None, option_map, ◌==◌, if◌then◌else◌}
use Rattle.page_model.specs.Pages.{Address}
use Rattle.engine_base.specs.Addresses.{address_of}
use Rattle.engine_base.specs.declared.ids.PageNo.{PageNo}
use Rattle.store_data.specs.Pieces.{Part}
use Rattle.store_data.specs.Store.{Row as StoreRow, Record}
use Rattle.store_model.specs.History.{absent_row}
use Rattle.store_model.specs.Runs.{all_laid, old_runs}
use Rattle.store_parts.specs.Shows.{row_of as shown_row, record_of as shown_record}
use Rattle.undo_model.specs.Data.{led, Body}
use Rattle.undo_model.specs.Old.{put_old}
use Rattle.undo_records.specs.Records.{row_of, record_of}
use Rattle.undo_records.specs.declared.record_type.Row.{Row}
use Rattle.undo_records.specs.declared.record_type.UndoRecord.{UndoRecord}
use Rattle.read_model.specs.Flight.{Phase as ReadPhase, Seek as seek, Found as found, Pieces as pieces, Unpatch as unpatch, Ready as ready, Absent as gone, Flight as Read}
use Rattle.read_model.specs.Steps.{hand_on}
use Rattle.read_model.specs.Buffer.{data_at, parts_in}
use Rattle.read_views.specs.declared.flight.Phase.{Phase}
use Rattle.read_views.specs.declared.flight.Phase.TheVariants.{Seek, Found, Pieces, Unpatch, Ready, Absent}
use Rattle.read_views.specs.declared.flight.Flight.{Flight}

abbrev pub phase_of : Phase → ReadPhase
phase_of Seek = seek
phase_of (Found n) = found n
phase_of Pieces = pieces
phase_of Unpatch = unpatch
phase_of Ready = ready
phase_of Absent = gone

abbrev pub row_in : Row → StoreRow
row_in r = shown_row (row_of r)

-- before the first event there is no row
abbrev pub row_read : Option Row → StoreRow
row_read None = absent_row
row_read (Some r) = row_in r

abbrev pub record_in : UndoRecord → Record
record_in r = shown_record (record_of r)

abbrev pub numbers_of : List PageNo → List ℕ
numbers_of pages = map (λ (p : PageNo). p.0) pages

-- the pieces that are copied; none before the buffer is lent
abbrev pub copied_in : Phase → List Part → List Part
copied_in Seek parts = []
copied_in (Found n) parts = []
copied_in Pieces parts = parts
copied_in Unpatch parts = parts
copied_in Ready parts = parts
copied_in Absent parts = []

abbrev pub pages_copied : Flight → List ℕ
pages_copied f = take f.piece (numbers_of f.from.items)

abbrev pub flight_of : Flight → Read
flight_of f = record {
  phase = phase_of f.phase;
  row = row_read f.row;
  cursor = led f.cursor.0;
  node = option_map address_of f.node;
  copied = copied_in f.phase (parts_in (row_read f.row).lob.page (pages_copied f) f.buffer.items);
}

-- the read of document d, once the record u at that place, the newest of its document, is undone
abbrev pub handed_to : ℕ → Address → Record → Read → Read
handed_to d a u f = if u.doc == d then hand_on a u f else f

-- a buffer whose pieces come from these pages, the first with so many bytes, with the old bytes of
-- a record put back into each
abbrev pub put_cut : Body → ℕ → ℕ → List ℕ → List ℕ → List ℕ
put_cut body lob size [] buffer = buffer
put_cut body lob size (page ∷ pages) buffer =
    put_old page (data_at lob page) body (take size buffer)
    ++ put_cut body lob 16_327 pages (drop size buffer)

-- the old bytes of a record are put back into the copied pieces
abbrev pub with_put : Record → Read → Read
with_put u f = record f { copied = map (all_laid (old_runs u.body)) f.copied }

abbrev pub HasCopied : Phase → Type 0
HasCopied Seek = ⊥
HasCopied (Found n) = ⊥
HasCopied Pieces = Unit {0}
HasCopied Unpatch = Unit {0}
HasCopied Ready = Unit {0}
HasCopied Absent = ⊥

-- what an event of another leaves of a read beside what it is as plain data
pub record KeepsPlaces (old new : Flight) : Type 0 where
  pub view : new.view ≡ old.view
  pub doc : new.doc ≡ old.doc
  pub phase : new.phase ≡ old.phase
  pub piece : new.piece ≡ old.piece
  pub head : new.head ≡ old.head
  pub from : new.from ≡ old.from
  pub buffer : length new.buffer.items ≡ length old.buffer.items
