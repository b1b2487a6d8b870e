-- The events of others, as relations between a document before and behind them. What they ask of
-- LOBs is asked at the row that the view sees.
--     Adds, Removes, Forgets      a record is put at the head of the chain, or goes again, with
--         its row or without
--     Touches, Frees      LOBs alone change, a node of a version list is freed
--     Passes, Sweeps      purge goes past records, a deleted row is purged
--     AllMove, all_after      any events, one after the other, and what they leave of a read
use Rattle.std.specs.Prelude.{◌≡◌, ◌≢◌, ℕ, List, [], ◌∷◌, ◌++◌, true, false, Some}
use Rattle.page_model.specs.Pages.{Address}
use Rattle.store_model.specs.Runs.{all_laid}
use Rattle.store_data.specs.Store.{Run, Row, live, Piece}
use Rattle.read_model.specs.Patches.{Entry, runs}
use Rattle.read_model.specs.Document.{Document, Sees, IsVisible, IsOther, AreDistinct, part_at, pieces_at}
use Rattle.read_model.specs.Flight.{Flight, Stands, row_behind}
use Rattle.read_model.specs.Steps.{event_of_read, hand_on, moved}

-- at version v the new piece leads back to the old one by these runs, and a search goes on in it
pub record LeadsBack (ps : List Run) (v : ℕ) (old new : Piece) : Type 0 where
  pub part : all_laid ps (part_at v new) ≡ part_at v old
  pub search : (a : Address) → Stands v a (old.head ∷ old.older) → Stands v a (new.head ∷ new.older)

-- the runs were put back
pub record IsPutBack (ps : List Run) (v : ℕ) (old new : Piece) : Type 0 where
  pub part : part_at v new ≡ all_laid ps (part_at v old)
  pub search : (a : Address) → Stands v a (old.head ∷ old.older) → Stands v a (new.head ∷ new.older)

-- no change at version v, but that a node is freed: a search that stands there goes on from the
-- head
pub record IsMoved (node head : Address) (v : ℕ) (old new : Piece) : Type 0 where
  pub part : part_at v new ≡ part_at v old
  pub search : (a : Address) → a ≢ node → Stands v a (old.head ∷ old.older)
      → Stands v a (new.head ∷ new.older)
  pub freed : Stands v node (old.head ∷ old.older) → Stands v head (new.head ∷ new.older)

pub record IsSame (v : ℕ) (old new : Piece) : Type 0 where
  pub part : part_at v new ≡ part_at v old
  pub search : (a : Address) → Stands v a (old.head ∷ old.older) → Stands v a (new.head ∷ new.older)

-- as many pieces, each related to its own
abbrev pub EachPiece : (Piece → Piece → Type 0) → List Piece → List Piece → Type 0
EachPiece P [] [] = Unit {0}
EachPiece P [] (y ∷ ys) = ⊥
EachPiece P (x ∷ xs) [] = ⊥
EachPiece P (x ∷ xs) (y ∷ ys) = P x y × EachPiece P xs ys

-- P holds of the pieces of the LOB that the view sees
abbrev pub AtVisible : Sees → Document → Document → (ℕ → Piece → Piece → Type 0) → Type 0
AtVisible sees old new P =
    (above older : List Entry) (v : Row) → IsVisible sees old above older v → v.state ≡ live
    → EachPiece (P v.lob.version) (pieces_at old.lobs v.lob.page) (pieces_at new.lobs v.lob.page)

-- no row is left
pub record IsEmpty (sees : Sees) (doc : Document) : Type 0 where
  pub seen : sees doc.row.trx ≡ true
  pub state : doc.row.state ≢ live

-- a transaction that the view doesn't see changes the row
pub record Adds (sees : Sees) (old new : Document) (e : Entry) : Type 0 where
  pub unseen : sees new.row.trx ≡ false
  pub led : new.row.roll ≡ Some e.0
  pub before : e.1.before ≡ old.row
  pub records : new.records ≡ e ∷ old.records
  pub pieces : AtVisible sees old new (LeadsBack (runs e))

-- the newest record is undone
pub record Removes (sees : Sees) (old new : Document) (e : Entry) : Type 0 where
  pub unseen : sees old.row.trx ≡ false
  pub records : old.records ≡ e ∷ new.records
  pub other : IsOther e.0 new.records
  pub row : new.row ≡ e.1.before
  pub pieces : AtVisible sees old new (IsPutBack (runs e))

-- and where the row before was absent, or deleted with its deletion purged, no row is left
pub record Forgets (sees : Sees) (old new : Document) (e : Entry) : Type 0 where
  pub unseen : sees old.row.trx ≡ false
  pub records : old.records ≡ e ∷ new.records
  pub other : IsOther e.0 new.records
  pub before : sees e.1.before.trx ≡ true
  pub state : e.1.before.state ≢ live
  pub none : IsEmpty sees new

pub record Touches (sees : Sees) (old new : Document) : Type 0 where
  pub row : new.row ≡ old.row
  pub records : new.records ≡ old.records
  pub pieces : AtVisible sees old new IsSame

pub record Frees (sees : Sees) (old new : Document) (node head : Address) : Type 0 where
  pub row : new.row ≡ old.row
  pub records : new.records ≡ old.records
  pub pieces : AtVisible sees old new (IsMoved node head)

-- the records from some place of the chain on are purged; the row above them is one that the view
-- sees
pub record Passes (sees : Sees) (old new : Document) : Type 0 where
  pub row : new.row ≡ old.row
  pub gone : List Entry
  pub records : old.records ≡ new.records ++ gone
  pub seen : sees (row_behind old.row new.records).trx ≡ true
  pub pieces : AtVisible sees old new IsSame

-- a deleted row is purged; the view sees the deletion
pub record Sweeps (sees : Sees) (old new : Document) : Type 0 where
  pub seen : sees old.row.trx ≡ true
  pub state : old.row.state ≢ live
  pub none : IsEmpty sees new

-- ---- every order of events

pub data Event : Type 0 where
  -- the read's own
  reads : Event
  adds : Entry → Event
  removes : Entry → Event
  forgets : Entry → Event
  touches : Event
  frees : Address → Address → Event
  passes : Event
  sweeps : Event
  -- a commit, and whatever else leaves the document's row, records and LOBs
  passes_by : Event

abbrev pub Moves : Sees → Event → Document → Document → Type 0
Moves sees reads old new = new ≡ old
Moves sees (adds e) old new = Adds sees old new e
Moves sees (removes e) old new = Removes sees old new e
Moves sees (forgets e) old new = Forgets sees old new e
Moves sees touches old new = Touches sees old new
Moves sees (frees node head) old new = Frees sees old new node head
Moves sees passes old new = Passes sees old new
Moves sees sweeps old new = Sweeps sees old new
Moves sees passes_by old new = new ≡ old

-- what the event does to a read, over the document as it was
abbrev pub after : Sees → Event → Document → Flight → Flight
after sees reads doc f = event_of_read sees doc f
after sees (adds e) doc f = f
after sees (removes e) doc f = hand_on e.0 e.1 f
after sees (forgets e) doc f = hand_on e.0 e.1 f
after sees touches doc f = f
after sees (frees node head) doc f = moved node head f
after sees passes doc f = f
after sees sweeps doc f = f
after sees passes_by doc f = f

-- events one after the other, each with the document behind it
abbrev pub AllMove : Sees → Document → List (Event × Document) → Type 0
AllMove sees doc [] = Unit {0}
AllMove sees doc (x ∷ xs) = Moves sees x.0 doc x.1 × AreDistinct x.1.records × AllMove sees x.1 xs

abbrev pub all_after : Sees → Document → List (Event × Document) → Flight → Flight
all_after sees doc [] f = f
all_after sees doc (x ∷ xs) f = all_after sees x.1 xs (after sees x.0 doc f)

abbrev pub last_of : Document → List (Event × Document) → Document
last_of doc [] = doc
last_of doc (x ∷ xs) = last_of x.1 xs
