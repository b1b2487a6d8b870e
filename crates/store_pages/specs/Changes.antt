-- The parts of a store that a call may change, each with what the store is once it has changed.
--     LogAt, RowsAt      an active log, and the rows
--     RecordsChange      a transaction's log has a record more
use Rattle.std.specs.Prelude.{◌≡◌, ℕ, List}
use Rattle.std.specs.Option.{option_map}
use Rattle.std.specs.Ordering.{nat_cmp}
use Rattle.std.specs.FinMap.Entries.{find}
use Rattle.page_model.specs.Pages.{Pages, Address}
use Rattle.store_data.specs.Store.{active, Row, Log, Store}
use Rattle.store_data.specs.Logs.{with_entry}
use Rattle.undo_model.specs.Data.{Log as LogThere, Record as RecordThere, pointer}
use Rattle.undo_model.specs.Bytes.{is_insert}
use Rattle.undo_model.specs.Logs.{IsLog}
use Rattle.undo_model.specs.Rows.{RowPage, IsRows, row_base, row_for, rows_of}
use Rattle.store_parts.specs.Stored.{row_pages}
use Rattle.store_parts.specs.Appends.{CanAppend}
use Rattle.store_model.specs.Steps.{on_log, without_log}
use Rattle.store_parts.specs.Shows.{row_of, log_of, record_of, IsStore}
use Rattle.store_parts.specs.Logs.{ChangesLog, GivesLog, ChangesRows}

-- a transaction's log has the record, at the place that the roll pointer leads to
pub record RecordsChange (trx : ℕ) (r : RecordThere) (roll : ℕ) (store : Store)
    (new : Pages) : Type 0 where
  pub place : Address
  pub leads : roll ≡ pointer (is_insert r.body) place
  pub stands : IsStore new
      (record store { active = on_log trx (with_entry place (record_of r)) store.active })

-- ---- the parts of a store that may change

-- a log of the store, in pages, and what the store is once it has changed
pub record LogAt (old : Pages) (store : Store) (trx : ℕ) (x : Log) : Type 0 where
  pub log : LogThere
  pub stands : IsLog old log
  pub room : CanAppend log old
  pub shows : log_of log ≡ x
  pub is_active : log.state ≡ active
  pub changed : (new : Pages) (f : Log → Log) → ChangesLog f log old new
      → IsStore new (record store { active = on_log trx f store.active })
  pub gone : (new : Pages) → GivesLog log old new
      → IsStore new (record store { active = without_log trx store.active })

-- the rows of the store, in pages
pub record RowsAt (old : Pages) (store : Store) : Type 0 where
  pub there : List RowPage
  pub stands : IsRows old row_base there
  pub shows : (d : ℕ) → find nat_cmp d store.rows ≡ option_map row_of (row_for d (rows_of there))
  pub pages : store.row_pages ≡ row_pages there
  pub changed : (new : Pages) (rows : List (ℕ × Row)) (c : ChangesRows rows there old new)
      → IsStore new (record store { rows = rows; row_pages = row_pages c.after })
