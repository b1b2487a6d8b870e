-- LOBs as they begin and grow.
--     begun page      a new LOB, without pieces
--     refilled page lob      with an index page more, whose entries are free
--     bare_lob l index      a LOB that is being given back, with these index pages left
--     IsBuilding lob      its heads and then its free nodes are all its entries, in the order of
--         the pages
use Rattle.std.specs.Prelude.{◌≡◌, ℕ, List, [], ◌∷◌, ◌++◌, map}
use Rattle.store_data.specs.Store.{Piece, Lob}
use Rattle.lob_model.specs.Pieces.{head_place}
use Rattle.lob_model.specs.Places.{first_entries, index_entries, all_index_entries}

abbrev pub begun : ℕ → Lob
begun page = record { page = page; version = 1; pieces = []; index = []; free = first_entries page }

abbrev pub refilled : ℕ → Lob → Lob
refilled page lob = record lob { index = page ∷ lob.index; free = index_entries page }

abbrev pub HaveNoOlder : List Piece → Type 0
HaveNoOlder [] = Unit {0}
HaveNoOlder (p ∷ more) = (p.older ≡ []) × HaveNoOlder more

pub record IsBuilding (lob : Lob) : Type 0 where
  pub entries : map head_place lob.pieces ++ lob.free ≡ first_entries lob.page
      ++ all_index_entries lob.index
  pub older : HaveNoOlder lob.pieces

-- without pieces and free nodes, and with these index pages: a LOB that is being given back
abbrev pub bare_lob : Lob → List ℕ → Lob
bare_lob l index = record l { pieces = []; free = []; index = index }
