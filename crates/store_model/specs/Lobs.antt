-- What a LOB shows at a version.
--     parts, joined      the pieces of a reference's LOB at its version, and their bytes
use Rattle.std.specs.Prelude.{◌≤◌, ℕ, List, [], ◌∷◌, ◌++◌, Option, Some, None, ◌==◌, if◌then◌else◌}
use Rattle.store_data.specs.Store.{Reference, Piece, Lob, Version}
use Rattle.store_data.specs.Pieces.{piece_at, Part, part_of}

abbrev pub part_list : Option Version → List Part
part_list None = []
part_list (Some v) = part_of v ∷ []

abbrev pub parts_at : List Piece → ℕ → List Part
parts_at [] v = []
parts_at (p ∷ ps) v = part_list (piece_at p v) ++ parts_at ps v

abbrev pub joined : List Part → List ℕ
joined [] = []
joined (x ∷ xs) = x.bytes ++ joined xs

-- the LOB with this first page
abbrev pub lob_of : List Lob → ℕ → Option Lob
lob_of [] page = None
lob_of (l ∷ ls) page = if l.page == page then Some l else lob_of ls page

abbrev pub pieces_of : Option Lob → List Piece
pieces_of None = []
pieces_of (Some l) = l.pieces

abbrev pub parts : List Lob → Reference → List Part
parts lobs r = parts_at (pieces_of (lob_of lobs r.page)) r.version

-- the newest data of each piece
abbrev pub heads : List Piece → List Part
heads [] = []
heads (p ∷ ps) = part_of p.head ∷ heads ps

-- no head is newer than a version
abbrev pub AreSeen : ℕ → List Piece → Type 0
AreSeen v [] = Unit {0}
AreSeen v (p ∷ ps) = (p.head.number ≤ v) × AreSeen v ps
