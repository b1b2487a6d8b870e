-- The steps of a read, and what an undo step does to the reads under way.
--     opened, step      a read's own events: up to 8 records judged, up to 8 nodes looked at, up
--         to 8 records put back
--     hand_on, moved      an undo record goes, a node of a version list is freed
use Rattle.std.specs.Prelude.{ℕ, zero, suc, List, [], ◌∷◌, ◌++◌, length, map, drop, Bool, false, nat_le, Option, Some, None, if◌then◌else◌}
use Rattle.page_model.specs.Pages.{Address}
use Rattle.store_data.specs.Pieces.{Part, part_of}
use Rattle.store_model.specs.Runs.{all_laid, old_runs}
use Rattle.store_data.specs.Store.{RowState, absent, live, deleted, Row, Record, Version, Piece}
use Rattle.store_model.specs.Undo.{record_at, same_place}
use Rattle.read_model.specs.Document.{Document, Sees, pieces_at}
use Rattle.read_model.specs.Flight.{Phase, Seek, Found, Pieces, Unpatch, Ready, Absent, Flight, lent, onward}

-- ---- Seek

abbrev pub arrival : Row → RowState → Phase
arrival row absent = Absent
arrival row live = Found row.lob.length
arrival row deleted = Absent

-- the view sees the row
abbrev pub arrived : Row → Flight
arrived row = record {
  phase = arrival row row.state;
  row = row;
  cursor = None;
  node = None;
  copied = [];
}

abbrev pub judging : Row → Flight
judging row = record { phase = Seek; row = row; cursor = None; node = None; copied = [] }

abbrev pub behind : Document → Row → Option Record
behind doc row = elim row.roll [ None ↦ None | Some a ↦ record_at doc.records a ]

abbrev pub followed : (Row → Flight) → Row → Option Record → Flight
followed on row None = judging row
followed on row (Some r) = on r.before

-- judges the row, and then those behind up to n records
abbrev pub seek : ℕ → Sees → Document → Row → Flight
seek zero sees doc row = if sees row.trx then arrived row else judging row
seek (suc n) sees doc row =
    if sees row.trx then arrived row else followed (seek n sees doc) row (behind doc row)

-- ---- Pieces

pub data Looked : Type 0 where
  At : Version → Looked
  More : Address → Looked
  Gone : Looked

-- up to n of these versions
abbrev pub look : ℕ → ℕ → List Version → Looked
look n v [] = Gone
look zero v (x ∷ xs) = More x.place
look (suc n) v (x ∷ xs) = if nat_le x.number v then At x else look n v xs

abbrev pub from_place : Address → List Version → List Version
from_place a [] = []
from_place a (x ∷ xs) = if same_place x.place a then (x ∷ xs) else from_place a xs

abbrev pub versions_from : Option Address → Piece → List Version
versions_from None piece = piece.head ∷ piece.older
versions_from (Some a) piece = from_place a (piece.head ∷ piece.older)

abbrev pub walking : Document → Flight → Flight
walking doc f = record f { phase = Unpatch; cursor = onward f.row doc.row; node = None }

-- another piece is copied, and no more is left
abbrev pub with_part : Document → List Piece → Part → Flight → Flight
with_part doc [] part f = walking doc (record f { node = None; copied = f.copied ++ part ∷ [] })
with_part doc (piece ∷ more) part f = record f { node = None; copied = f.copied ++ part ∷ [] }

abbrev pub looked : Document → List Piece → Flight → Looked → Flight
looked doc more f (At x) = with_part doc more (part_of x) f
looked doc more f (More a) = record f { node = Some a }
looked doc more f Gone = f

abbrev pub copy_from : Document → List Piece → Flight → Flight
copy_from doc [] f = walking doc f
copy_from doc (piece ∷ more) f =
    looked doc more f (look 8 f.row.lob.version (versions_from f.node piece))

abbrev pub copy : Document → Flight → Flight
copy doc f = copy_from doc (drop (length f.copied) (pieces_at doc.lobs f.row.lob.page)) f

-- ---- Unpatch

-- the record's old bytes are put back, and the walk goes on behind it
abbrev pub put : Record → Flight → Flight
put r f = record f {
  cursor = onward f.row r.before;
  copied = map (all_laid (old_runs r.body)) f.copied;
}

abbrev pub put_found : (Flight → Flight) → Option Record → Flight → Flight
put_found on None f = f
put_found on (Some r) f = on (put r f)

-- up to n records; ready where none is left
abbrev pub walk : ℕ → Document → Flight → Flight
walk zero doc f = elim f.cursor [ None ↦ record f { phase = Ready } | Some a ↦ f ]
walk (suc n) doc f = elim f.cursor [
  | None ↦ record f { phase = Ready }
  | Some a ↦ put_found
      (walk n doc) (record_at doc.records a) f
]

-- ---- one event of a read

abbrev pub step : Sees → Document → Flight → Flight
step sees doc f = elim f.phase [
  | Seek ↦ seek 8 sees doc f.row
  | Found n ↦ f
  | Pieces ↦ copy doc f
  | Unpatch ↦ walk 8 doc f
  | Ready ↦ f
  | Absent ↦ f
]

-- where the visible row is found, the buffer is lent in the same event
abbrev pub lent_in : Phase → Flight → Flight
lent_in Seek f = f
lent_in (Found n) f = lent f
lent_in Pieces f = f
lent_in Unpatch f = f
lent_in Ready f = f
lent_in Absent f = f

abbrev pub event_of_read : Sees → Document → Flight → Flight
event_of_read sees doc f = lent_in (step sees doc f).phase (step sees doc f)

-- the first event
abbrev pub opened : Sees → Document → Flight
opened sees doc = event_of_read sees doc (judging doc.row)

-- ---- what an undo step does to a read of its document

abbrev pub leads_to : Option Address → Address → Bool
leads_to None a = false
leads_to (Some b) a = same_place b a

-- the record, the newest of the document, goes
abbrev pub hand_on : Address → Record → Flight → Flight
hand_on a r f = elim f.phase [
  | Seek ↦ if leads_to f.row.roll a then record f { row = r.before } else f
  | Found n ↦ f
  | Pieces ↦ record f { copied = map (all_laid (old_runs r.body)) f.copied }
  | Unpatch ↦ if leads_to f.cursor a then put r f else f
  | Ready ↦ f
  | Absent ↦ f
]

-- the node of a version list is freed whose head that is
abbrev pub moved : Address → Address → Flight → Flight
moved node head f = if leads_to f.node node then record f { node = Some head } else f
