-- The piece that a read copies next.
--     IsPast      there is none
--     IsAtPiece      it stands at that head, with these behind it
--     Begins, Finds      where the search for its version begins, and where it ends
--     IsDataOf      what was read are a version's data
--     TakesPiece      what a copy leaves of the read beside what it is as plain data
use Rattle.std.specs.Prelude.{◌≡◌, ℕ, ◌+◌, List, [], ◌∷◌, length, take, drop, Option, Some, option_map}
use Rattle.page_model.specs.Pages.{Pages, Address}
use Rattle.engine_base.specs.Addresses.{address_of}
use Rattle.store_data.specs.Pieces.{Part}
use Rattle.store_data.specs.Store.{Version, Piece, Lob, Store}
use Rattle.store_model.specs.Lobs.{lob_of}
use Rattle.row_dir.specs.declared.dir.RowDir.{RowDir}
use Rattle.read_model.specs.Document.{Sees}
use Rattle.read_model.specs.Steps.{At, look, versions_from}
use Rattle.read_views.specs.Flights.{row_read}
use Rattle.read_views.specs.declared.flight.Flight.{Flight}
use Rattle.read_views.specs.declared.flight.Phase.TheVariants.{Pieces, Unpatch}
use Rattle.version_read.specs.Reads.{IsUnderWay}
use Rattle.version_read.specs.declared.copies.Behind.{Behind}
use Rattle.version_read.specs.declared.copies.Behind.TheVariants.{Piece as NextPiece, Walk}
use Rattle.version_read.specs.declared.copies.Data.{Data}

-- all pieces of its LOB are copied
pub record IsPast (store : Store) (f : Flight) : Type 0 where
  pub lob : Lob
  pub found : lob_of store.lobs (row_read f.row).lob.page ≡ Some lob
  pub none : drop f.piece lob.pieces ≡ []

pub record IsAtPiece (told : Option Pages) (pages : Pages) (store : Store) (dir : RowDir)
    (sees : Sees) (shown : Option (List Part)) (f : Flight) (head : Address) : Type 0 where
  pub under : IsUnderWay told pages store dir sees shown f
  pub lob : Lob
  pub found : lob_of store.lobs (row_read f.row).lob.page ≡ Some lob
  pub piece : Piece
  pub more : List Piece
  pub here : drop f.piece lob.pieces ≡ piece ∷ more
  pub place : piece.head.place ≡ head

abbrev pub node_of : Flight → Option Address
node_of f = option_map address_of f.node

pub record Begins (f : Flight) (piece : Piece) (from : Address) : Type 0 where
  pub x : Version
  pub rest : List Version
  pub there : versions_from (node_of f) piece ≡ x ∷ rest
  pub place : x.place ≡ from

pub record Finds (f : Flight) (piece : Piece) (entry : Address) : Type 0 where
  pub x : Version
  pub ends : look 8 (row_read f.row).lob.version (versions_from (node_of f) piece) ≡ At x
  pub place : x.place ≡ entry

pub record IsDataOf (x : Version) (d : Data) (into : List ℕ) : Type 0 where
  pub page : d.page.0 ≡ x.page
  pub long : d.length ≡ length x.bytes
  pub bytes : take d.length into ≡ x.bytes

-- the head of the next piece is kept, or the walk has begun
abbrev pub GoesTo : Behind → Flight → Type 0
GoesTo (NextPiece a) f = (f.phase ≡ Pieces) × (f.head ≡ Some a)
GoesTo (Walk r) f = f.phase ≡ Unpatch

pub record TakesPiece (behind : Behind) (old new : Flight) : Type 0 where
  pub view : new.view ≡ old.view
  pub doc : new.doc ≡ old.doc
  pub row : new.row ≡ old.row
  pub piece : new.piece ≡ old.piece + 1
  pub from : length new.from.items ≡ length old.from.items
  pub buffer : length new.buffer.items ≡ length old.buffer.items
  pub goes : GoesTo behind new
