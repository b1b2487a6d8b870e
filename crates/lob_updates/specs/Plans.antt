-- A change of a live document that may be planned.
--     MayPlan      the store is consistent, the transaction is at work, no other one has a change
--         of the document, whose row is live; and the directory is that of the rows
use Rattle.std.specs.Prelude.{◌≡◌, ℕ, ◌≤◌, List, Option}
use Rattle.page_model.specs.Pages.{Pages}
use Rattle.page_space.specs.Map.{free_of}
use Rattle.store_data.specs.Store.{live, Log, Store}
use Rattle.undo_model.specs.Rows.{RowPage}
use Rattle.store_model.specs.History.{row_before}
use Rattle.store_model.specs.Locked.{OthersIdle}
use Rattle.row_dir.specs.declared.dir.RowDir.{RowDir}
use Rattle.row_dir.specs.Directory.{IsDirectory}
use Rattle.transactions.specs.Standing.{IsAt, IsAtWork}

pub record MayPlan (told : Option Pages) (trx log n doc : ℕ) (dir : RowDir) (reserved : ℕ)
    (there : List RowPage) (pages : Pages) (store : Store) (l : Log) : Type 0 where
  pub at : IsAt told there pages store
  pub work : IsAtWork trx log n store l
  pub idle : OthersIdle trx doc store.active
  pub live' : (row_before store doc).state ≡ live
  pub directory : IsDirectory dir there
  pub covered : reserved ≤ free_of pages
