-- A read under way, and what holds of it between two events, whatever others do.
use Rattle.std.specs.Prelude.{◌≡◌, ◌≢◌, ◌⊎◌, ℕ, ◌<◌, List, [], ◌∷◌, ◌++◌, length, map, drop, true, ◌==◌, Option, Some, None, if◌then◌else◌}
use Rattle.page_model.specs.Pages.{Address}
use Rattle.store_data.specs.Pieces.{Part}
use Rattle.store_data.specs.Store.{live, Row, Version, Piece}
use Rattle.read_model.specs.Patches.{Entry, back}
use Rattle.read_model.specs.Document.{Document, Sees, IsVisible, content, pieces_at, parts_at}

pub data Phase : Type 0 where
  Seek : Phase
  -- found, with the length of the document, until the buffer is lent
  Found : ℕ → Phase
  Pieces : Phase
  Unpatch : Phase
  Ready : Phase
  Absent : Phase

pub record Flight : Type 0 where
  pub phase : Phase
  -- in Seek the row that is judged next, from Found on the visible row
  pub row : Row
  -- in Unpatch the record that is put back next; None where none is left
  pub cursor : Option Address
  -- in Pieces where the search for the next piece stands; None at its head
  pub node : Option Address
  -- the pieces copied so far, each with the page that it came from
  pub copied : List Part

-- the buffer is lent, in the event that found the visible row
abbrev pub lent : Flight → Flight
lent f = record f { phase = Pieces; node = None; copied = [] }

abbrev pub row_behind : Row → List Entry → Row
row_behind row [] = row
row_behind row (e ∷ es) = row_behind e.1.before es

-- the record to go on with from a row: none at the visible one. Of the rows above it none is of its
-- transaction, since the view sees none of these. Their roll pointers don't tell them apart: the
-- visible row's record may be purged, and its place taken again
abbrev pub onward : Row → Row → Option Address
onward v row = if row.trx == v.trx then None else row.roll

-- the copied pieces, with the old bytes of these records put back, are the first of those that are
-- to be shown
abbrev pub AreFirst : List Entry → List Part → List Part → Type 0
AreFirst es [] parts = Unit {0}
AreFirst es (c ∷ cs) [] = ⊥
AreFirst es (c ∷ cs) (p ∷ ps) = (back es c ≡ p) × AreFirst es cs ps

-- a search for version v stands at one of these, and those before it are newer
abbrev pub Stands : ℕ → Address → List Version → Type 0
Stands v a [] = ⊥
Stands v a (x ∷ xs) = (x.place ≡ a) ⊎ ((v < x.number) × Stands v a xs)

abbrev pub IsSearch : ℕ → Option Address → Piece → Type 0
IsSearch v None piece = Unit {0}
IsSearch v (Some a) piece = Stands v a (piece.head ∷ piece.older)

-- the search in the piece that is copied next
abbrev pub IsSearchIn : ℕ → Option Address → List Piece → Type 0
IsSearchIn v at [] = Unit {0}
IsSearchIn v at (piece ∷ more) = IsSearch v at piece

-- ---- the invariant

-- the row that is judged next stands in the chain, and the visible row is that row or a later one
pub record IsInChain (sees : Sees) (doc : Document) (shown : Option (List Part))
    (f : Flight) : Type 0 where
  pub passed : List Entry
  pub rest : List Entry
  pub older : List Entry
  pub v : Row
  pub visible : IsVisible sees doc (passed ++ rest) older v
  pub holds : content doc.lobs v (passed ++ rest) ≡ shown
  pub judged : f.row ≡ row_behind doc.row passed

-- it is an absent or deleted row that the view sees, and no document is shown. It need not stand in
-- the chain any more
pub record IsGone (sees : Sees) (doc : Document) (shown : Option (List Part))
    (f : Flight) : Type 0 where
  pub above : List Entry
  pub older : List Entry
  pub v : Row
  pub visible : IsVisible sees doc above older v
  pub holds : content doc.lobs v above ≡ shown
  pub seen : sees f.row.trx ≡ true
  pub state : f.row.state ≢ live
  pub nothing : shown ≡ None

-- its row is the visible one. What is copied, with the old bytes of the records from the row's
-- present head down to the visible row put back, is the first of what is to be shown; so is what
-- stands in the LOB at the visible row's version, and that is all of it
pub record IsCopying (sees : Sees) (doc : Document) (parts : List Part) (f : Flight) : Type 0 where
  pub above : List Entry
  pub older : List Entry
  pub visible : IsVisible sees doc above older f.row
  pub state : f.row.state ≡ live
  pub holds : map (back above) (parts_at doc.lobs f.row.lob) ≡ parts
  pub copied : AreFirst above f.copied parts
  pub search : IsSearchIn f.row.lob.version f.node
      (drop (length f.copied) (pieces_at doc.lobs f.row.lob.page))

-- all is copied: with the old bytes of the records from the cursor down to the visible row put back
-- it is what is to be shown. No LOB counts any more
pub record IsPutting (sees : Sees) (doc : Document) (parts : List Part) (f : Flight) : Type 0 where
  pub newer : List Entry
  pub rest : List Entry
  pub older : List Entry
  pub visible : IsVisible sees doc (newer ++ rest) older f.row
  pub state : f.row.state ≡ live
  pub cursor : f.cursor ≡ onward f.row (row_behind doc.row newer)
  pub copied : map (back rest) f.copied ≡ parts

-- of a read that is to show these parts, or no document
abbrev pub IsFlightIn : Phase → Sees → Document → Option (List Part) → Flight → Type 0
IsFlightIn Seek sees doc shown f = IsInChain sees doc shown f ⊎ IsGone sees doc shown f
IsFlightIn (Found n) sees doc shown f =
    (parts : List Part) × (shown ≡ Some parts) × IsCopying sees doc parts (lent f)
    × (n ≡ f.row.lob.length)
IsFlightIn Pieces sees doc shown f =
    (parts : List Part) × (shown ≡ Some parts) × IsCopying sees doc parts f
IsFlightIn Unpatch sees doc shown f =
    (parts : List Part) × (shown ≡ Some parts) × IsPutting sees doc parts f
IsFlightIn Ready sees doc shown f = shown ≡ Some f.copied
IsFlightIn Absent sees doc shown f = shown ≡ None

abbrev pub IsFlight : Sees → Document → Option (List Part) → Flight → Type 0
IsFlight sees doc shown f = IsFlightIn f.phase sees doc shown f
