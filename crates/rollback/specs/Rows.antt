-- A row as it was before a change.
--     CanRestore      the document has a row, and what the row before names stands, if any
--     PutsBack      the document has the row before
--     RestoresRow      the document has the row before, or none where that shows nothing and its
--         own record is purged; the directory is that of the rows
use Rattle.std.specs.Prelude.{◌≡◌, ℕ, true, List, ◌++◌, is_some}
use Rattle.page_model.specs.Pages.{Pages}
use Rattle.store_data.specs.Store.{Row, Store}
use Rattle.undo_model.specs.Rows.{RowPage}
use Rattle.store_model.specs.History.{row_of}
use Rattle.store_model.specs.Steps.{with_row}
use Rattle.store_model.specs.Events.{with_row_pages}
use Rattle.store_model.specs.Undo.{restored}
use Rattle.store_model.specs.Well.{AreDistinct}
use Rattle.store_parts.specs.Stored.{row_pages}
use Rattle.store_pages.specs.Logs.{NamesRecord}
use Rattle.row_dir.specs.declared.dir.RowDir.{RowDir}
use Rattle.row_dir.specs.Directory.{IsDirectory}
use Rattle.store_steps.specs.Standing.{StandsOn}

pub record CanRestore (d : ℕ) (before : Row) (store : Store) : Type 0 where
  pub has : is_some (row_of store d) ≡ true
  pub distinct : AreDistinct (store.active ++ store.committed)
  pub named : NamesRecord store before

pub record RestoresRow (d : ℕ) (before : Row) (dir : RowDir) (store : Store)
    (new : Pages) : Type 0 where
  pub there : List RowPage
  pub stands : StandsOn there new (with_row_pages (row_pages there) (restored d before store))
  pub directory : IsDirectory dir there

-- it has the row before
pub record PutsBack (d : ℕ) (before : Row) (dir : RowDir) (store : Store)
    (new : Pages) : Type 0 where
  pub there : List RowPage
  pub stands : StandsOn there new (with_row_pages (row_pages there) (with_row d before store))
  pub directory : IsDirectory dir there
