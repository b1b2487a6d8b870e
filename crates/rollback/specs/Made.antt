-- What one event of an undoing leaves.
--     event_for s at      the event that is due for the newest record
--     made e s free log_pages rows      the store that it makes; what is free in it is handed in
--     goes_on e s      whether an event is left behind it
--     event_turn e s      what it makes of a read under way
--     Made e s dir      the pages are that store, and the directory is that of its rows
--     Steps e s dir      and that store is consistent
--     behind e      the touched piece whose version went last, behind the event
--     step_behind e s      what is answered
use Rattle.std.specs.Prelude.{◌≡◌, ℕ, Bool, true, false, List, [], Option, Some, None}
use Rattle.page_model.specs.Pages.{Pages, Address}
use Rattle.store_data.specs.Pieces.{all_but_last}
use Rattle.store_data.specs.Store.{Lob, Store}
use Rattle.undo_model.specs.Rows.{RowPage}
use Rattle.store_model.specs.Consistent.{IsConsistent}
use Rattle.store_model.specs.Lobs.{lob_of}
use Rattle.store_model.specs.Events.{with_row_pages}
use Rattle.store_model.specs.Undo.{piece_freed, index_freed, undo_ended}
use Rattle.store_parts.specs.Stored.{row_pages}
use Rattle.read_model.specs.Flight.{Flight as Read}
use Rattle.read_views.specs.declared.flight.Flight.{Flight}
use Rattle.read_views.specs.Flights.{flight_of}
use Rattle.row_dir.specs.declared.dir.RowDir.{RowDir}
use Rattle.row_dir.specs.Directory.{IsDirectory}
use Rattle.store_steps.specs.Standing.{StandsOn}
use Rattle.rollback.specs.declared.job.Step.{Step}
use Rattle.rollback.specs.declared.job.Step.TheVariants.{More, Done}
use Rattle.rollback.specs.Standing.{Scene}
use Rattle.rollback.specs.Flights.{handed}
use Rattle.rollback.specs.Records.{log_left, is_left}
use Rattle.rollback.specs.Versions.{version_gone, pop_turn}
use Rattle.rollback.specs.Events.{Event, frees, frees_index, pops, ends, due_for}

abbrev pub event_for : Scene → Option ℕ → Event
event_for s at = due_for s.undo.body s.undo.before s.store.lobs at

abbrev pub made : Event → Scene → List Address → List ℕ → List ℕ → Store
made (frees page) s free log_pages rows = piece_freed page free s.store
made (frees_index page) s free log_pages rows = index_freed page s.store
made (pops page k v) s free log_pages rows = version_gone page k v free s.store
made ends s free log_pages rows =
    with_row_pages rows (log_left s.rest s.trx log_pages (undo_ended s.trx s.undo s.store))

abbrev pub goes_on : Event → Scene → Bool
goes_on (frees page) s = true
goes_on (frees_index page) s = true
goes_on (pops page k v) s = true
goes_on ends s = is_left s.rest

abbrev pub event_turn : Event → Scene → Flight → Read
event_turn (frees page) s f = flight_of f
event_turn (frees_index page) s f = flight_of f
event_turn (pops page k v) s f = pop_turn page k v s.store f
event_turn ends s f = handed s.place s.undo f

-- behind the last piece of a LOB that goes no node of it is free
abbrev pub IsBare : Event → List Address → List Lob → Type 0
IsBare (frees page) free lobs =
    (l : Lob) → lob_of lobs page ≡ Some l → all_but_last l.pieces ≡ [] → free ≡ []
IsBare (frees_index page) free lobs = Unit {0}
IsBare (pops page k v) free lobs = Unit {0}
IsBare ends free lobs = Unit {0}

pub record Made (e : Event) (s : Scene) (dir : RowDir) (new : Pages) : Type 0 where
  pub free : List Address
  pub log_pages : List ℕ
  pub there : List RowPage
  pub stands : StandsOn there new (made e s free log_pages (row_pages there))
  pub directory : IsDirectory dir there
  pub bare : IsBare e free s.store.lobs

-- and the store that it makes is consistent
pub record Steps (e : Event) (s : Scene) (dir : RowDir) (new : Pages) : Type 0 where
  pub made' : Made e s dir new
  pub consistent : IsConsistent
      (made e s made'.free made'.log_pages (row_pages made'.there))

-- the touched piece whose version went last, behind the event
abbrev pub behind : Event → Option ℕ
behind (frees page) = None
behind (frees_index page) = None
behind (pops page k v) = Some k
behind ends = None

abbrev pub step_if : Bool → Step
step_if true = More
step_if false = Done

-- Done where no record is left
abbrev pub step_behind : Event → Scene → Step
step_behind e s = step_if (goes_on e s)
