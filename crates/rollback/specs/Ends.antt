-- The end of a record's undoing.
--     IsNewest n s      what was read is the newest record
--     CanEnd s      its document has a row, and what the row before names stands, if any
--     EndsRecord s      the record is out of its log, and the row is the one before
use Rattle.std.specs.Prelude.{◌≡◌, ℕ, List}
use Rattle.page_model.specs.Pages.{Pages}
use Rattle.engine_base.specs.Addresses.{address_of}
use Rattle.undo_model.specs.Rows.{RowPage}
use Rattle.store_model.specs.Events.{with_row_pages}
use Rattle.store_model.specs.Undo.{restored}
use Rattle.store_parts.specs.Stored.{row_pages}
use Rattle.read_views.specs.Flights.{record_in}
use Rattle.row_dir.specs.declared.dir.RowDir.{RowDir}
use Rattle.row_dir.specs.Directory.{IsDirectory}
use Rattle.store_steps.specs.Standing.{StandsOn}
use Rattle.rollback.specs.declared.newest.Newest.{Newest}
use Rattle.rollback.specs.Standing.{Scene}
use Rattle.rollback.specs.Records.{log_left, record_out}
use Rattle.rollback.specs.Rows.{CanRestore}

pub record IsNewest (n : Newest) (s : Scene) : Type 0 where
  pub place : address_of n.place ≡ s.place
  pub undo : record_in n.rec ≡ s.undo

abbrev pub CanEnd : Scene → Type 0
CanEnd s = CanRestore s.undo.doc s.undo.before (record_out s.trx s.store)

pub record EndsRecord (s : Scene) (dir : RowDir) (new : Pages) : Type 0 where
  pub log_pages : List ℕ
  pub there : List RowPage
  pub stands : StandsOn there new (with_row_pages (row_pages there) (log_left s.rest s.trx log_pages
      (restored s.undo.doc s.undo.before (record_out s.trx s.store))))
  pub directory : IsDirectory dir there
