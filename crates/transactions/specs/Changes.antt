-- A change recorded: its undo record and its row.
--     plan_by trx number doc      the plan of a change, by the place of its record
--     changed      what a change makes of a store
--     Changes l plan before after body dir store      the record is the newest of the log l, and
--         the row behind the change stands, which leads to it; the directory is that of the rows
--     change_room      the bytes that are written at most, with the heads of the writes
use Rattle.std.specs.Prelude.{◌≡◌, ◌≢◌, ℕ, ◌+◌, ◌*◌, List, length, Some}
use Rattle.page_model.specs.Pages.{Pages, Address}
use Rattle.page_model.specs.Steps.{write_head}
use Rattle.store_data.specs.Store.{Row, Body, Log, Store}
use Rattle.store_data.specs.Logs.{with_record}
use Rattle.undo_model.specs.Reading.{IsRecordPlace}
use Rattle.undo_model.specs.Rows.{RowPage}
use Rattle.store_model.specs.History.{changes}
use Rattle.store_model.specs.Steps.{log_of}
use Rattle.store_model.specs.Events.{Plan, record_of, with_change, with_log_pages, with_row_pages}
use Rattle.store_model.specs.Well.{IsNew}
use Rattle.store_parts.specs.Stored.{row_pages}
use Rattle.row_dir.specs.declared.dir.RowDir.{RowDir}
use Rattle.row_dir.specs.Directory.{IsDirectory}
use Rattle.store_steps.specs.Standing.{StandsOn}

abbrev pub plan_by : ℕ → ℕ → ℕ → Address → Plan
plan_by trx number doc place =
    record { trx = trx; doc = doc; number = number; place = place }

-- the row names the transaction, and leads to the record
abbrev pub changed : Plan → Row → Row → Body → List ℕ → List ℕ → Store → Store
changed p before after body log_pages rows store =
    with_row_pages rows (with_log_pages p.trx log_pages
    (with_change p (record after { trx = p.trx; roll = Some p.place }) before body store))

pub record Changes (l : Log) (plan : Address → Plan) (before after : Row) (body : Body)
    (dir : RowDir) (store : Store) (new : Pages) : Type 0 where
  pub place : Address
  pub log_pages : List ℕ
  pub there : List RowPage
  pub stands : StandsOn there new
      (changed (plan place) before after body log_pages (row_pages there) store)
  pub directory : IsDirectory dir there
  -- no other change of the document has its record there
  pub fresh : IsNew place (changes store (plan place).doc)
  pub within : IsRecordPlace (length new) place
  pub other : place.page ≢ 0
  -- the log is the one before, with the record
  pub log : log_of (changed (plan place) before after body log_pages (row_pages there) store).active
      (plan place).trx ≡ Some (record (with_record place (record_of (plan place) before body) l)
      { pages = log_pages })

abbrev pub change_room : ℕ
change_room = (852 + (97 + 11 * write_head)) + (16_457 + 9 * write_head)
