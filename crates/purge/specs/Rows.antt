-- A row that goes with its deletion.
--     SweepsRow      the row whose newest change is that record goes, and the directory is that of
--         the rows that are left
use Rattle.std.specs.Prelude.{ℕ, List}
use Rattle.page_model.specs.Pages.{Pages, Address}
use Rattle.store_data.specs.Store.{removed, Store}
use Rattle.undo_model.specs.Rows.{RowPage}
use Rattle.store_model.specs.Events.{with_row_pages}
use Rattle.store_model.specs.Undo.{swept}
use Rattle.store_parts.specs.Stored.{row_pages}
use Rattle.row_dir.specs.declared.dir.RowDir.{RowDir}
use Rattle.row_dir.specs.Directory.{IsDirectory}
use Rattle.store_steps.specs.Standing.{StandsOn}

pub record SweepsRow (place : Address) (trx doc : ℕ) (dir : RowDir) (store : Store)
    (new : Pages) : Type 0 where
  pub there : List RowPage
  pub stands : StandsOn there new
      (with_row_pages (row_pages there) (swept removed place trx doc store))
  pub directory : IsDirectory dir there
