-- What holds of the pieces of a LOB and their versions, as plain data.
--     lob_at v      all pieces at that version, joined
--     AreFalling, AreFull      the numbers of a piece's versions fall; each piece but the last
--         fills its place
use Rattle.std.specs.Prelude.{ℕ, ◌<◌, ◌≤◌, List, [], ◌∷◌, ◌++◌, length, Option, Some, None, ◌≡◌}
use Rattle.page_model.specs.Pages.{Address}
use Rattle.store_data.specs.Store.{Version, Piece}
use Rattle.store_data.specs.Pieces.{piece_at}

abbrev pub piece_versions : Piece → List Version
piece_versions p = p.head ∷ p.older

abbrev pub versions : List Piece → List Version
versions [] = []
versions (p ∷ more) = piece_versions p ++ versions more

abbrev pub place_of : Version → Address
place_of x = x.place

abbrev pub head_place : Piece → Address
head_place p = p.head.place

-- ---- reading at a version

abbrev pub joined : Option Version → Option (List ℕ) → Option (List ℕ)
joined None rest = None
joined (Some x) None = None
joined (Some x) (Some bytes) = Some (x.bytes ++ bytes)

-- the whole document at that version; none where a piece has no version so old
abbrev pub lob_at : ℕ → List Piece → Option (List ℕ)
lob_at v [] = Some []
lob_at v (p ∷ more) = joined (piece_at p v) (lob_at v more)

abbrev pub moved : Address → Version → Version
moved place x = record x { place = place }

-- ---- order and length

-- strictly falling, and the first is below the bound
abbrev pub IsFalling : ℕ → List Version → Type 0
IsFalling bound [] = Unit {0}
IsFalling bound (x ∷ more) = (x.number < bound) × IsFalling x.number more

abbrev pub AreFalling : ℕ → List Piece → Type 0
AreFalling bound [] = Unit {0}
AreFalling bound (p ∷ more) = IsFalling bound (piece_versions p) × AreFalling bound more

abbrev pub HaveLength : ℕ → List Version → Type 0
HaveLength n [] = Unit {0}
HaveLength n (x ∷ more) = (length x.bytes ≡ n) × HaveLength n more

-- the versions of a piece are as long as its head, and each piece but the last fills its place, of
-- which the first has `room`
abbrev pub AreFull : ℕ → ℕ → List Piece → Type 0
AreFull room others [] = Unit {0}
AreFull room others (p ∷ []) =
    (length p.head.bytes ≤ room) × HaveLength (length p.head.bytes) p.older
AreFull room others (p ∷ q ∷ more) =
    HaveLength room (piece_versions p) × AreFull others others (q ∷ more)
