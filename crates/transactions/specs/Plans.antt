-- The planning event of a change.
--     listed trx log_pages rows store      with these pages of the transaction's log and of rows
--     PlansChange l plan body event dir store      the pages are the store that the event makes, by
--         the place of its record, which is new; it is consistent, and the directory is that of its
--         rows
use Rattle.std.specs.Prelude.{◌≡◌, ◌≢◌, ℕ, List, length, Some}
use Rattle.page_model.specs.Pages.{Pages, Address}
use Rattle.store_data.specs.Store.{Body, Log, Store}
use Rattle.store_data.specs.Logs.{with_record}
use Rattle.undo_model.specs.Reading.{IsRecordPlace}
use Rattle.undo_model.specs.Rows.{RowPage}
use Rattle.store_model.specs.History.{changes, row_before}
use Rattle.store_model.specs.Steps.{log_of}
use Rattle.store_model.specs.Events.{Plan, record_of, with_log_pages, with_row_pages}
use Rattle.store_model.specs.Well.{IsNew}
use Rattle.store_model.specs.Consistent.{IsConsistent}
use Rattle.store_parts.specs.Stored.{row_pages}
use Rattle.row_dir.specs.declared.dir.RowDir.{RowDir}
use Rattle.row_dir.specs.Directory.{IsDirectory}
use Rattle.store_steps.specs.Standing.{StandsOn}

abbrev pub listed : ℕ → List ℕ → List ℕ → Store → Store
listed trx log_pages rows store = with_row_pages rows (with_log_pages trx log_pages store)

pub record PlansChange (l : Log) (plan : Address → Plan) (body : Body)
    (event : Plan → Store → Store) (dir : RowDir) (store : Store) (new : Pages) : Type 0 where
  pub place : Address
  pub log_pages : List ℕ
  pub there : List RowPage
  pub stands : StandsOn there new
      (listed (plan place).trx log_pages (row_pages there) (event (plan place) store))
  pub consistent : IsConsistent
      (listed (plan place).trx log_pages (row_pages there) (event (plan place) store))
  pub directory : IsDirectory dir there
  -- no other change of the document has its record there
  pub fresh : IsNew place (changes store (plan place).doc)
  pub within : IsRecordPlace (length new) place
  pub other : place.page ≢ 0
  -- the log is the one before, with the record
  pub log : log_of
      (listed (plan place).trx log_pages (row_pages there) (event (plan place) store)).active
      (plan place).trx
      ≡ Some (record (with_record place
      (record_of (plan place) (row_before store (plan place).doc) body) l) { pages = log_pages })
