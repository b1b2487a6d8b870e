-- What a read still has to walk: its phase, and in it the records or the nodes that are left.
--     IsLower      a later phase, or less left in the same one
--     IsUnderWay      a phase between two events
--     AreThere      each piece has a version that is at most v, and its nodes stand at different
--         places
use Rattle.std.specs.Prelude.{◌≡◌, ◌⊎◌, ℕ, ◌+◌, ◌<◌, List, [], ◌∷◌, length, drop, true, Option, Some, None, is_some, if◌then◌else◌}
use Rattle.page_model.specs.Pages.{Address}
use Rattle.store_data.specs.Pieces.{piece_at}
use Rattle.store_data.specs.Store.{Version, Piece}
use Rattle.store_model.specs.Undo.{same_place}
use Rattle.read_model.specs.Patches.{Entry}
use Rattle.read_model.specs.Document.{Document, pieces_at}
use Rattle.read_model.specs.Flight.{Phase, Seek, Found, Pieces, Unpatch, Ready, Absent, Flight}
use Rattle.read_model.specs.Steps.{versions_from}
use Rattle.read_model.specs.Kinds.{IsNoPlace}

abbrev pub records_from : Option Address → List Entry → List Entry
records_from None es = []
records_from (Some a) [] = []
records_from (Some a) (e ∷ es) = if same_place e.0 a then (e ∷ es) else records_from (Some a) es

abbrev pub nodes_left : Option Address → List Piece → ℕ
nodes_left at [] = 0
nodes_left at (p ∷ ps) = length (versions_from at p) + nodes_left None ps

abbrev pub rank : Phase → ℕ
rank Seek = 3
rank (Found n) = 2
rank Pieces = 2
rank Unpatch = 1
rank Ready = 0
rank Absent = 0

abbrev pub left_in : Phase → Document → Flight → ℕ
left_in Seek doc f = length (records_from f.row.roll doc.records)
left_in (Found n) doc f = 0
left_in Pieces doc f = nodes_left f.node
    (drop (length f.copied) (pieces_at doc.lobs f.row.lob.page))
left_in Unpatch doc f = length (records_from f.cursor doc.records)
left_in Ready doc f = 0
left_in Absent doc f = 0

abbrev pub IsLower : Document → Flight → Flight → Type 0
IsLower doc g f = (rank g.phase < rank f.phase)
    ⊎ ((g.phase ≡ f.phase) × (left_in g.phase doc g < left_in f.phase doc f))

abbrev pub ArePlaces : List Version → Type 0
ArePlaces [] = Unit {0}
ArePlaces (x ∷ xs) = IsNoPlace x.place xs × ArePlaces xs

abbrev pub AreThere : ℕ → List Piece → Type 0
AreThere v [] = Unit {0}
AreThere v (p ∷ ps) = (is_some (piece_at p v) ≡ true) × ArePlaces (p.head ∷ p.older) × AreThere v ps

-- between two events
abbrev pub IsUnderWay : Phase → Type 0
IsUnderWay Seek = Unit {0}
IsUnderWay (Found n) = ⊥
IsUnderWay Pieces = Unit {0}
IsUnderWay Unpatch = Unit {0}
IsUnderWay Ready = ⊥
IsUnderWay Absent = ⊥
