-- Bytes of a document's LOB patched in place.
--     runs_there pages runs      what stands in these pages where the runs are
--     CanPatch      the runs lie within the data of the LOB, on four pages at most
--     PatchesRuns      the record has what stood there, whole; no other document has bytes there;
--         and the store is the one with the runs laid
--     patch_room      the bytes that are written at most, with the heads of the writes
use Rattle.std.specs.Prelude.{◌≡◌, ◌≢◌, ℕ, ◌+◌, ◌*◌, ◌≤◌, List, [], ◌∷◌, length, Some}
use Rattle.page_model.specs.Pages.{Pages, bytes_at}
use Rattle.page_model.specs.Steps.{different, write_head}
use Rattle.store_data.specs.Store.{Run, patched, Lob, Log, Store}
use Rattle.lob_model.specs.Pieces.{versions}
use Rattle.store_model.specs.Lobs.{lob_of}
use Rattle.store_model.specs.History.{row_before}
use Rattle.store_model.specs.Events.{patch_made}
use Rattle.store_model.specs.Behind.{AllRows}
use Rattle.store_model.specs.Moves.{ArePaired, StandThere, IsUntouched}
use Rattle.store_pages.specs.Runs.{LieIn}
use Rattle.row_dir.specs.declared.dir.RowDir.{RowDir}
use Rattle.store_steps.specs.Runs.{run_pages}
use Rattle.transactions.specs.Changes.{plan_by, change_room}
use Rattle.transactions.specs.Plans.{PlansChange}

abbrev pub run_there : Pages → Run → Run
run_there pages r = record r { bytes = bytes_at pages r.page r.at (length r.bytes) }

abbrev pub runs_there : Pages → List Run → List Run
runs_there pages [] = []
runs_there pages (r ∷ rs) = run_there pages r ∷ runs_there pages rs

pub record CanPatch (doc : ℕ) (runs : List Run) (l : Lob) (store : Store) : Type 0 where
  pub found : lob_of store.lobs (row_before store doc).lob.page ≡ Some l
  pub lie : LieIn runs (versions l.pieces)
  pub few : different (run_pages runs) ≤ 4

pub record PatchesRuns (l : Log) (trx n doc : ℕ) (runs : List Run) (dir : RowDir) (store : Store)
    (new : Pages) : Type 0 where
  pub old : List Run
  pub paired : ArePaired old runs
  pub stood : StandThere old store.lobs
  pub others : (d : ℕ) → d ≢ doc → AllRows (IsUntouched runs store.lobs) store d
  pub plans : PlansChange l (plan_by trx n doc) (patched old)
      (λ plan. patch_made plan old runs) dir store new

abbrev pub patch_room : ℕ
patch_room = change_room + (100 + 100 * write_head)
