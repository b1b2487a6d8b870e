-- A document that gets a new LOB.
--     IsNewLob page trx bytes store lob      the LOB is on that page, which the store doesn't own,
--         of version 1 with one piece, and it may grow
--     MakesLob      it stands in the pages, beside the store
--     Inserts, Rebuilds      the document is inserted, or gets another LOB, with that one
use Rattle.std.specs.Prelude.{◌≡◌, ℕ, ◌+◌, ◌≤◌, List, [], ◌∷◌, ◌++◌, Some}
use Rattle.page_model.specs.Pages.{Pages, Address}
use Rattle.page_space.specs.Map.{free_of}
use Rattle.undo_model.specs.Rows.{RowPage}
use Rattle.store_model.specs.Steps.{on_lobs}
use Rattle.store_steps.specs.Standing.{StandsOn}
use Rattle.store_data.specs.Store.{Reference, Lob, inserted, rebuilt, Log, Store}
use Rattle.lob_model.specs.Begin.{IsBuilding}
use Rattle.lob_model.specs.Changes.{piece}
use Rattle.lob_bytes.specs.Begin.{begin_room}
use Rattle.lob_bytes.specs.Growth.{first_version, add_room}
use Rattle.store_model.specs.Events.{Plan, insert_begun, rebuild_begun}
use Rattle.store_model.specs.Owned.{rest_of, AreDifferent}
use Rattle.store_model.specs.Takes.{AreUnowned}
use Rattle.store_model.specs.Versions.{AreUpTo}
use Rattle.row_dir.specs.declared.dir.RowDir.{RowDir}
use Rattle.transactions.specs.Changes.{change_room}
use Rattle.transactions.specs.Plans.{PlansChange}

pub record IsNewLob (page trx : ℕ) (bytes : List ℕ) (store : Store) (lob : Lob) : Type 0 where
  pub page_is : lob.page ≡ page
  pub version : lob.version ≡ 1
  pub node : Address
  pub pieces : lob.pieces ≡ piece (first_version page node page trx bytes) [] ∷ []
  pub index : lob.index ≡ []
  pub up_to : AreUpTo 1 lob.pieces
  pub different : AreDifferent (lob.page ∷ rest_of (Some lob))
  pub unowned : AreUnowned (lob.page ∷ rest_of (Some lob)) store
  pub building : IsBuilding lob

-- the store has that LOB too; nothing names it yet
pub record MakesLob (there : List RowPage) (page trx : ℕ) (bytes : List ℕ) (reserved reserved' : ℕ)
    (store : Store) (new : Pages) : Type 0 where
  pub lob : Lob
  pub fresh : IsNewLob page trx bytes store lob
  pub stands : StandsOn there new (on_lobs (λ ls. ls ++ lob ∷ []) store)
  pub spent : reserved' + 1 ≡ reserved
  pub covered : reserved' ≤ free_of new

pub record Inserts (l : Log) (plan : Address → Plan) (page trx len : ℕ) (bytes : List ℕ)
    (dir : RowDir) (store : Store) (new : Pages) : Type 0 where
  pub lob : Lob
  pub fresh : IsNewLob page trx bytes store lob
  pub plans : PlansChange l plan (inserted page) (λ p. insert_begun p lob len) dir store new

pub record Rebuilds (l : Log) (plan : Address → Plan) (page trx len : ℕ) (bytes : List ℕ)
    (dir : RowDir) (store : Store) (new : Pages) : Type 0 where
  pub lob : Lob
  pub fresh : IsNewLob page trx bytes store lob
  pub plans : PlansChange l plan (rebuilt page) (λ p. rebuild_begun p lob len) dir store new

-- what the row says of it
abbrev pub new_reference : ℕ → ℕ → Reference
new_reference page len = record { page = page; version = 1; length = len }

-- the bytes that are written at most, with the heads of the writes
abbrev pub lob_room : ℕ
lob_room = begin_room + add_room

abbrev pub new_room : ℕ
new_room = lob_room + change_room
