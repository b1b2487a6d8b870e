-- A directory's calls as changes of a whole store.
--     RowsIn old store there      the row pages of a store, and what it becomes where a document's
--         row is put or removed
use Rattle.std.specs.Prelude.{◌≡◌, ℕ, List}
use Rattle.page_model.specs.Pages.{Pages}
use Rattle.store_data.specs.Store.{Store}
use Rattle.undo_model.specs.Rows.{Keyed, RowPage}
use Rattle.store_model.specs.Steps.{with_row, without_row}
use Rattle.store_model.specs.Events.{with_row_pages}
use Rattle.store_parts.specs.Stored.{row_pages}
use Rattle.store_parts.specs.Shows.{row_of, IsStore}
use Rattle.row_dir.specs.declared.dir.RowDir.{RowDir}
use Rattle.row_dir.specs.RowPages.{CanChange}
use Rattle.row_dir.specs.Plain.{AreRows}
use Rattle.row_dir.specs.Puts.{PutsRow}
use Rattle.row_dir.specs.Removes.{RemovesRow}

pub record RowsIn (old : Pages) (store : Store) (there : List RowPage) : Type 0 where
  pub can : CanChange there old
  pub shows : AreRows store.rows there
  pub pages : store.row_pages ≡ row_pages there
  pub put : (k : Keyed) (dir : RowDir) (new : Pages) (p : PutsRow k dir there old new)
      → IsStore new (with_row_pages (row_pages p.after) (with_row k.doc (row_of k.row) store))
  pub removed : (doc : ℕ) (dir : RowDir) (new : Pages) (r : RemovesRow doc dir there old new)
      → IsStore new (with_row_pages (row_pages r.after) (without_row doc store))
