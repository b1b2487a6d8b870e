-- A version that goes.
--     DropsVersion      of the k-th piece the oldest one, where its number is at most v
--     VersionsGo      the next touched piece's, or the record is passed
use Rattle.std.specs.Prelude.{ℕ, ◌+◌, ◌*◌, List, Option, Some, None}
use Rattle.page_model.specs.Pages.{Pages, Address}
use Rattle.page_model.specs.Steps.{write_head}
use Rattle.store_data.specs.Logs.{passed}
use Rattle.store_data.specs.Store.{Store}
use Rattle.store_model.specs.Undo.{on_oldest}
use Rattle.undo_model.specs.Rows.{RowPage}
use Rattle.purge.specs.Events.{version_gone}
use Rattle.store_steps.specs.Standing.{StandsOn}

abbrev pub DropsVersion : List RowPage → ℕ → ℕ → ℕ → Store → Pages → Type 0
DropsVersion there page k v store new =
    (free : List Address) × StandsOn there new (version_gone page k v free store)

-- the next touched piece's, or where there is none the record is passed
abbrev pub VersionsGo : List RowPage → ℕ → ℕ → Store → Option ℕ → Pages → Type 0
VersionsGo there page v store None new = StandsOn there new (on_oldest passed store)
VersionsGo there page v store (Some k) new = DropsVersion there page k v store new

abbrev pub versions_room : ℕ
versions_room = 49 + 10 * write_head
