-- A document's row, its undo records and its LOBs, and what a view sees of them.
--     part_at, parts_at      a piece at a LOB version, a LOB at a reference's version
--     IsSeen      the records from a row down to the first row that a view sees
--     IsVisible, under      what a view sees of a document
use Rattle.std.specs.Prelude.{◌≡◌, ◌≢◌, ℕ, List, [], ◌∷◌, ◌++◌, map, Bool, true, false, Option, Some, None, if◌then◌else◌}
use Rattle.page_model.specs.Pages.{Address}
use Rattle.store_data.specs.Pieces.{Part, part_of, piece_at}
use Rattle.store_data.specs.Store.{Reference, absent, live, deleted, Row, Version, Piece, Lob}
use Rattle.store_model.specs.Lobs.{lob_of, pieces_of}
use Rattle.read_model.specs.Patches.{Entry, back}

-- ---- pieces at a version

-- no bytes where each version is newer
abbrev pub part_or : Option Version → Part
part_or None = record { page = 0; at = 0; bytes = [] }
part_or (Some x) = part_of x

abbrev pub part_at : ℕ → Piece → Part
part_at v piece = part_or (piece_at piece v)

abbrev pub pieces_at : List Lob → ℕ → List Piece
pieces_at lobs page = pieces_of (lob_of lobs page)

abbrev pub parts_at : List Lob → Reference → List Part
parts_at lobs r = map (part_at r.version) (pieces_at lobs r.page)

-- ---- what a view sees

-- a document without a row has an absent one, of transaction 0
pub record Document : Type 0 where
  pub row : Row
  -- the records that the roll pointers lead through from the row, the newest first
  pub records : List Entry
  pub lobs : List Lob

-- whether a view sees what a transaction did
abbrev pub Sees : Type 0
Sees = ℕ → Bool

-- these records, and no others, lead from the row to the first row that the view sees
abbrev pub IsSeen : Sees → Row → List Entry → Row → Type 0
IsSeen sees row [] v = (row ≡ v) × (sees v.trx ≡ true)
IsSeen sees row (e ∷ es) v =
    (sees row.trx ≡ false) × (row.roll ≡ Some e.0) × IsSeen sees e.1.before es v

-- the view sees the row v, which stands behind the records `above`
pub record IsVisible (sees : Sees) (doc : Document) (above older : List Entry)
    (v : Row) : Type 0 where
  pub records : doc.records ≡ above ++ older
  pub walk : IsSeen sees doc.row above v

-- a row's content: that of its LOB at its version, with the old bytes of the records above the row
-- put back; none where it isn't live
abbrev pub content : List Lob → Row → List Entry → Option (List Part)
content lobs row above =
    elim row.state [
      | absent ↦ None
      | live ↦ Some
          (map (back above) (parts_at lobs row.lob))
      | deleted ↦ None
    ]

-- ---- the same as functions

abbrev pub above_of : Sees → Row → List Entry → List Entry
above_of sees row [] = []
above_of sees row (e ∷ es) = if sees row.trx then [] else (e ∷ above_of sees e.1.before es)

abbrev pub visible_of : Sees → Row → List Entry → Row
visible_of sees row [] = row
visible_of sees row (e ∷ es) = if sees row.trx then row else visible_of sees e.1.before es

-- the document under a view
abbrev pub under : Sees → Document → Option (List Part)
under sees doc = content doc.lobs (visible_of sees doc.row doc.records)
    (above_of sees doc.row doc.records)

-- each record stands at an address of its own
abbrev pub IsOther : Address → List Entry → Type 0
IsOther a [] = Unit {0}
IsOther a (e ∷ es) = (e.0 ≢ a) × IsOther a es

abbrev pub AreDistinct : List Entry → Type 0
AreDistinct [] = Unit {0}
AreDistinct (e ∷ es) = IsOther e.0 es × AreDistinct es
