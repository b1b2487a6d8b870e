-- What one event of a purge leaves.
--     Made e dir store new      the pages are the store that the event makes, and the directory is
--         that of its rows
--     Steps      and that store is consistent
--     event_of u l store at      the event that is due for that record, the oldest one of the log
--     step_behind e      whether an event is left
use Rattle.std.specs.Prelude.{◌≡◌, ℕ, Bool, true, false, List, [], Option, Some}
use Rattle.page_model.specs.Pages.{Pages, Address}
use Rattle.store_data.specs.Pieces.{all_but_last}
use Rattle.store_data.specs.Store.{Lob, Record, Log, Store}
use Rattle.undo_model.specs.Rows.{RowPage}
use Rattle.store_model.specs.Consistent.{IsConsistent}
use Rattle.store_model.specs.Lobs.{lob_of}
use Rattle.store_parts.specs.Stored.{row_pages}
use Rattle.row_dir.specs.declared.dir.RowDir.{RowDir}
use Rattle.row_dir.specs.Directory.{IsDirectory}
use Rattle.purge.specs.declared.job.Step.{Step}
use Rattle.purge.specs.declared.job.Step.TheVariants.{More, Done}
use Rattle.purge.specs.Events.{Event, begins, drops, frees, frees_index, passes, gives, ends, due_for, made, goes_on}
use Rattle.purge.specs.Kinds.{removed_room}
use Rattle.store_steps.specs.Standing.{StandsOn}

-- behind the last piece of a LOB that goes no node of it is free
abbrev pub IsBare : Event → List Address → Store → Type 0
IsBare begins free store = Unit {0}
IsBare (drops page k v) free store = Unit {0}
IsBare (frees page) free store = (m : Lob) → lob_of store.lobs page ≡ Some m
    → all_but_last m.pieces ≡ [] → free ≡ []
IsBare (frees_index page) free store = Unit {0}
IsBare (passes place trx u) free store = Unit {0}
IsBare (gives left) free store = Unit {0}
IsBare ends free store = Unit {0}

pub record Made (e : Event) (dir : RowDir) (store : Store) (new : Pages) : Type 0 where
  pub free : List Address
  pub there : List RowPage
  pub stands : StandsOn there new (made e free (row_pages there) store)
  pub directory : IsDirectory dir there
  pub bare : IsBare e free store

-- and the store that it makes is consistent
pub record Steps (e : Event) (dir : RowDir) (store : Store) (new : Pages) : Type 0 where
  pub made' : Made e dir store new
  pub consistent : IsConsistent (made e made'.free (row_pages made'.there) store)

abbrev pub step_if : Bool → Step
step_if true = More
step_if false = Done

abbrev pub step_behind : Event → Step
step_behind e = step_if (goes_on e)

abbrev pub event_of : Address × Record → Log → Store → Option ℕ → Event
event_of u l store at = due_for u.1.body u.1.before store.lobs at (passes u.0 l.trx u.1)

abbrev pub step_room : ℕ
step_room = removed_room
