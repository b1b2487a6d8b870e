-- The oldest committed log, and what the store is as purge goes on in it.
use Rattle.std.specs.Prelude.{◌≡◌}
use Rattle.page_model.specs.Pages.{Pages}
use Rattle.store_data.specs.Store.{Log, Store}
use Rattle.undo_model.specs.Data.{Log as LogThere}
use Rattle.undo_model.specs.Logs.{IsLog}
use Rattle.store_model.specs.Undo.{on_oldest, log_purged}
use Rattle.store_parts.specs.Shows.{log_of, IsStore}
use Rattle.store_parts.specs.Logs.{ChangesOldest, PurgesLog}

pub record OldestAt (old : Pages) (store : Store) (x : Log) : Type 0 where
  pub log : LogThere
  pub stands : IsLog old log
  pub shows : log_of log ≡ x
  pub changed : (new : Pages) (f : Log → Log) → ChangesOldest f log old new
      → IsStore new (on_oldest f store)
  pub purged : (new : Pages) → PurgesLog log store.purged old new → IsStore new (log_purged store)
