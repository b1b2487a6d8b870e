-- A piece of a LOB, its versions, and what a reader takes of one.
--     piece_at      of a head and its older versions, the first whose number is at most v
--     Part, part_of      the data that a reader copies: their page, their place in it, and the
--         bytes
--     pushed, popped, dropped      a piece with a new version in front, without its newest,
--         without its oldest
use Rattle.std.specs.Prelude.{ℕ, List, [], ◌∷◌, Option, Some, None, nat_le, if◌then◌else◌}
use Rattle.page_model.specs.Pages.{Address}
use Rattle.store_data.specs.Store.{Version, Piece}

-- ---- reading at a version

abbrev pub version_at : List Version → ℕ → Option Version
version_at [] v = None
version_at (x ∷ xs) v = if nat_le x.number v then Some x else version_at xs v

abbrev pub piece_at : Piece → ℕ → Option Version
piece_at p v = version_at (p.head ∷ p.older) v

pub record Part : Type 0 where
  pub page : ℕ
  pub at : ℕ
  pub bytes : List ℕ

abbrev pub part_of : Version → Part
part_of v = record { page = v.page; at = v.at; bytes = v.bytes }

-- ---- changes: the head stays at its place

abbrev pub all_but_last : {A : Type 0} → List A → List A
all_but_last [] = []
all_but_last (x ∷ []) = []
all_but_last (x ∷ y ∷ ys) = x ∷ all_but_last (y ∷ ys)

-- the old head moves to a node
abbrev pub pushed : Address → Version → Piece → Piece
pushed node v p = record {
  head = record v { place = p.head.place };
  older = record p.head { place = node } ∷ p.older;
}

abbrev pub popped_to : Address → List Version → Piece → Piece
popped_to place [] p = p
popped_to place (v ∷ vs) p = record { head = record v { place = place }; older = vs }

abbrev pub popped : Piece → Piece
popped p = popped_to p.head.place p.older p

abbrev pub dropped : Piece → Piece
dropped p = record p { older = all_but_last p.older }
