-- A further piece of a new LOB.
--     CanGrow bytes m      the LOB is being built, and its next piece may have these bytes
--     Adds there trx bytes page m store      the piece stands behind the others, on pages that the
--         store didn't own
use Rattle.std.specs.Prelude.{ℕ, ◌<◌, ◌≤◌, List, [], ◌∷◌, ◌++◌, length}
use Rattle.page_model.specs.Pages.{Pages, Address}
use Rattle.store_data.specs.Store.{Version, Piece, Lob, Store}
use Rattle.undo_model.specs.Rows.{RowPage}
use Rattle.lob_model.specs.Begin.{IsBuilding}
use Rattle.lob_model.specs.Changes.{piece}
use Rattle.lob_model.specs.declared.layout.TheConstants.{FIRST_ROOM, DATA_ROOM}
use Rattle.lob_bytes.specs.Growth.{IsNext, max_pieces, first_version}
use Rattle.store_model.specs.Steps.{with_nodes, with_piece}
use Rattle.store_model.specs.Events.{piece_added}
use Rattle.store_model.specs.Owned.{data_pages, AreDifferent}
use Rattle.store_model.specs.Takes.{AreUnowned}
use Rattle.store_model.specs.Versions.{AreOlderUpTo}
use Rattle.store_model.specs.Consistent.{IsConsistent}
use Rattle.store_steps.specs.Standing.{StandsOn}

pub record CanGrow (bytes : List ℕ) (m : Lob) : Type 0 where
  pub building : IsBuilding m
  pub begun : 1 ≤ m.version
  pub few : length m.index ≤ 4
  pub more : length m.pieces < max_pieces
  pub next : IsNext FIRST_ROOM DATA_ROOM m.pieces bytes

abbrev pub one_piece : Version → Piece
one_piece x = piece x []

-- the LOB may grow on: the facts on it hold again
pub record Adds (there : List RowPage) (trx : ℕ) (bytes : List ℕ) (page : ℕ) (m : Lob)
    (store : Store) (new : Pages) : Type 0 where
  pub node : Address
  pub on : ℕ
  pub taken : List ℕ
  pub free : List Address
  pub stands : StandsOn there new (piece_added page
      (one_piece (first_version m.page node on trx bytes)) (taken ++ m.index) free store)
  pub consistent : IsConsistent (piece_added page
      (one_piece (first_version m.page node on trx bytes)) (taken ++ m.index) free store)
  pub up_to : AreOlderUpTo m.version (first_version m.page node on trx bytes ∷ [])
  pub different : AreDifferent
      (taken ++ data_pages m.page (first_version m.page node on trx bytes ∷ []))
  pub unowned : AreUnowned
      (taken ++ data_pages m.page (first_version m.page node on trx bytes ∷ [])) store
  pub building : IsBuilding (with_nodes (taken ++ m.index) free
      (with_piece (one_piece (first_version m.page node on trx bytes)) m))
  pub few : length (taken ++ m.index) ≤ 4
