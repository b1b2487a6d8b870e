-- What the events of a record's purge leave, by its kind.
--     LobGoes      a part of the LOB before goes, or with the last of it the record is passed
--     RowGoes      the same of a deletion, with which the row may go
use Rattle.std.specs.Prelude.{ℕ, ◌+◌, ◌*◌, Bool, true, false, List}
use Rattle.page_model.specs.Pages.{Pages, Address}
use Rattle.page_model.specs.Steps.{write_head}
use Rattle.store_data.specs.Logs.{passed}
use Rattle.store_data.specs.Store.{removed, Lob, Store}
use Rattle.undo_model.specs.Rows.{RowPage}
use Rattle.store_model.specs.Events.{with_row_pages}
use Rattle.store_model.specs.Steps.{on_lobs, without_lob}
use Rattle.store_model.specs.Undo.{on_oldest, swept}
use Rattle.store_parts.specs.Stored.{row_pages}
use Rattle.row_dir.specs.declared.dir.RowDir.{RowDir}
use Rattle.row_dir.specs.Directory.{IsDirectory}
use Rattle.store_steps.specs.Lobs.{has_part, FreesPart}
use Rattle.store_steps.specs.Standing.{StandsOn}

abbrev pub LobGoesBy : Bool → List RowPage → ℕ → Lob → Store → Pages → Type 0
LobGoesBy true there page m store new = FreesPart there page m store new
LobGoesBy false there page m store new =
    StandsOn there new (on_oldest passed (on_lobs (without_lob page) store))

abbrev pub LobGoes : List RowPage → ℕ → Lob → Store → Pages → Type 0
LobGoes there page m store new =
    LobGoesBy (has_part m.pieces m.index) there page m store new

-- the row pages of those rows that are left, and their directory
pub record RowGone (page : ℕ) (place : Address) (trx doc : ℕ) (dir : RowDir) (store : Store)
    (new : Pages) : Type 0 where
  pub there : List RowPage
  pub stands : StandsOn there new (with_row_pages (row_pages there)
      (on_oldest passed (swept removed place trx doc (on_lobs (without_lob page) store))))
  pub directory : IsDirectory dir there

abbrev pub RowGoesBy : Bool → List RowPage → ℕ → Lob → Address → ℕ → ℕ → RowDir → Store → Pages
    → Type 0
RowGoesBy true there page m place trx doc dir store new =
    FreesPart there page m store new × IsDirectory dir there
RowGoesBy false there page m place trx doc dir store new =
    RowGone page place trx doc dir store new

abbrev pub RowGoes : List RowPage → ℕ → Lob → Address → ℕ → ℕ → RowDir → Store → Pages → Type 0
RowGoes there page m place trx doc dir store new =
    RowGoesBy (has_part m.pieces m.index) there page m place trx doc dir store new

-- the bytes that such an event writes at most, with the heads of the writes
abbrev pub full_room : ℕ
full_room = (49 + 10 * write_head) + ((5 + 2 * write_head) + (6 + write_head))

abbrev pub removed_room : ℕ
removed_room = (49 + 10 * write_head)
    + ((5 + 2 * write_head) + ((21 + 5 * write_head) + (6 + write_head)))
