-- Pages of a log and of rows that an event takes or gives back beside what it is named for.
use Rattle.std.specs.Prelude.{ℕ, List}
use Rattle.store_data.specs.Store.{Store}
use Rattle.store_model.specs.Events.{with_log_pages, with_row_pages}
use Rattle.store_model.specs.Undo.{log_pages_left}
use Rattle.kept_model.specs.Engine.{Engine}

-- the transaction's log has these pages, and the rows those
abbrev pub with_pages : ℕ → List ℕ → List ℕ → Store → Store
with_pages trx pages rows store = with_row_pages rows (with_log_pages trx pages store)

-- the log that is purged gives back a page: these are left
abbrev pub page_event : List ℕ → Engine → Engine
page_event pages e = record e { store = log_pages_left pages e.store }
