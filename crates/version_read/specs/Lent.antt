-- What a read was lent, a buffer and a place for the page of each piece, against the LOB that it
-- copies.
--     IsLent      they fit the LOB, and the head that the read keeps is that of the next piece
--     IsAllCopied      the buffer is the copied pieces
--     IsLentIn      what holds of them in a phase
--     Follows      what stands behind a piece
use Rattle.std.specs.Prelude.{◌≡◌, ◌≤◌, ℕ, List, [], ◌∷◌, length, map, Some, None, IfSome}
use Rattle.engine_base.specs.Addresses.{address_of}
use Rattle.store_data.specs.Store.{Row, Piece, Lob}
use Rattle.store_model.specs.Lobs.{lob_of}
use Rattle.lob_model.specs.Pieces.{lob_at, head_place}
use Rattle.lob_index.specs.Heads.{nth}
use Rattle.read_model.specs.Buffer.{left_in}
use Rattle.read_views.specs.Flights.{row_in, row_read, pages_copied}
use Rattle.read_views.specs.declared.flight.Flight.{Flight}
use Rattle.read_views.specs.declared.flight.Phase.{Phase}
use Rattle.read_views.specs.declared.flight.Phase.TheVariants.{Seek, Found, Pieces, Unpatch, Ready, Absent}
use Rattle.version_read.specs.declared.copies.Behind.{Behind}
use Rattle.version_read.specs.declared.copies.Behind.TheVariants.{Piece as NextPiece, Walk}

-- the LOB of the read's row has at the row's version as many bytes as the buffer, and as many
-- pieces as there are places
pub record IsLent (lobs : List Lob) (f : Flight) : Type 0 where
  pub lob : Lob
  pub found : lob_of lobs (row_read f.row).lob.page ≡ Some lob
  pub bytes : List ℕ
  pub whole : lob_at (row_read f.row).lob.version lob.pieces ≡ Some bytes
  pub room : length f.buffer.items ≡ length bytes
  pub places : length f.from.items ≡ length lob.pieces
  pub copied : f.piece ≤ length lob.pieces
  pub head : IfSome f.head (λ a. nth f.piece (map head_place lob.pieces) ≡ Some (address_of a))
  -- a search stands at a node only where the head is known
  pub start : f.head ≡ None → f.node ≡ None

abbrev pub IsAllCopied : Flight → Type 0
IsAllCopied f = left_in (pages_copied f) f.buffer.items ≡ []

abbrev pub IsLentIn : Phase → List Lob → Flight → Type 0
IsLentIn Seek lobs f = Unit {0}
IsLentIn (Found n) lobs f = Unit {0}
IsLentIn Pieces lobs f = IsLent lobs f
IsLentIn Unpatch lobs f = IsAllCopied f
IsLentIn Ready lobs f = IsAllCopied f
IsLentIn Absent lobs f = Unit {0}

-- behind a piece the head of the first of these stands, or, where there is none, the walk begins at
-- that row
abbrev pub Follows : Behind → Row → List Piece → Type 0
Follows (NextPiece a) row [] = ⊥
Follows (NextPiece a) row (q ∷ more) = q.head.place ≡ address_of a
Follows (Walk r) row [] = row_in r ≡ row
Follows (Walk r) row (q ∷ more) = ⊥
