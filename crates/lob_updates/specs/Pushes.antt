-- A version of a piece pushed, in a LOB of a store.
--     CanPush      the head of the LOB's piece stands there, and is older than the LOB's version;
--         as many bytes are pushed as it has; a page is reserved for them, and where no node is
--         free another one
--     PushesPiece      the piece has that version, on a node and on pages that the store didn't
--         own, and the store is consistent
use Rattle.std.specs.Prelude.{◌≡◌, ℕ, ◌+◌, ◌<◌, ◌≤◌, List, ◌++◌, length, Some}
use Rattle.page_model.specs.Pages.{Pages, Address}
use Rattle.page_space.specs.Map.{free_of}
use Rattle.store_data.specs.Store.{Piece, Lob, Store}
use Rattle.undo_model.specs.Rows.{RowPage}
use Rattle.store_model.specs.Lobs.{lob_of}
use Rattle.store_model.specs.Events.{version_pushed}
use Rattle.store_model.specs.Owned.{data_page, AreDifferent}
use Rattle.store_model.specs.Takes.{piece_of, AreUnowned}
use Rattle.store_model.specs.Consistent.{IsConsistent}
use Rattle.lob_index.specs.Taking.{index_taken}
use Rattle.lob_versions.specs.Pushes.{new_version}
use Rattle.store_steps.specs.Standing.{StandsOn}

pub record CanPush (page v k : ℕ) (head : Address) (bytes : List ℕ) (l : Lob) (reserved : ℕ)
    (store : Store) : Type 0 where
  pub found : lob_of store.lobs page ≡ Some l
  pub version : l.version ≡ v
  pub piece : Piece
  pub kth : piece_of k l.pieces ≡ Some piece
  pub head' : piece.head.place ≡ head
  pub older : piece.head.number < v
  pub long : length bytes ≡ length piece.head.bytes
  pub reserve : length (index_taken 0 l.free) + 1 ≤ reserved

pub record PushesPiece (there : List RowPage) (page v k trx : ℕ) (head : Address)
    (bytes : List ℕ) (l : Lob) (reserved reserved' : ℕ) (store : Store) (new : Pages) : Type 0 where
  -- the page of the bytes; and the one that became an index page, if any
  pub data' : ℕ
  pub taken : List ℕ
  pub node : Address
  pub free : List Address
  pub stands : StandsOn there new (version_pushed page k node (new_version head data' v trx bytes)
      (taken ++ l.index) free store)
  pub consistent : IsConsistent (version_pushed page k node (new_version head data' v trx bytes)
      (taken ++ l.index) free store)
  pub different : AreDifferent (taken ++ data_page l.page (new_version head data' v trx bytes))
  pub unowned : AreUnowned (taken ++ data_page l.page (new_version head data' v trx bytes)) store
  pub spent : reserved' + (length taken + 1) ≡ reserved
  pub covered : reserved' ≤ free_of new
