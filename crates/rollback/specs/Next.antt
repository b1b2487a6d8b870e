-- A rollback under way, between two events.
--     IsUndoing told job s      the pages are a consistent store, the newest record of the job's log
--         may be undone on, and the older ones behind it
--     later, next_scene      the scene behind an event, with the same record or the one before it
--     GoesOn      the event is made, and then a record is left that may be undone on, if any
use Rattle.std.specs.Prelude.{ℕ, List, [], ◌∷◌, Option}
use Rattle.page_model.specs.Pages.{Pages, Address}
use Rattle.store_data.specs.Store.{Record, Store}
use Rattle.undo_model.specs.Rows.{RowPage}
use Rattle.store_model.specs.Consistent.{IsConsistent}
use Rattle.store_parts.specs.Stored.{row_pages}
use Rattle.row_dir.specs.declared.dir.RowDir.{RowDir}
use Rattle.store_steps.specs.Reached.{piece_in}
use Rattle.rollback.specs.declared.job.Undoing.{Undoing}
use Rattle.rollback.specs.Standing.{Scene, IsAt}
use Rattle.rollback.specs.Events.{Event, frees, frees_index, pops, ends}
use Rattle.rollback.specs.Made.{made, Steps}
use Rattle.rollback.specs.Kinds.{CanUndo}
use Rattle.rollback.specs.Undoable.{CanGoOn, undone_lobs, AreUndoable}

-- ---- a rollback under way

pub record IsUndoing (told : Option Pages) (job : Undoing) (s : Scene) : Type 0 where
  pub at : IsAt told job.log.0 s
  pub consistent : IsConsistent s.store
  pub can : CanUndo job.reached s
  pub on : CanGoOn s.undo.body (piece_in job.reached) s.undo.before s.store.lobs
  pub older : AreUndoable s.rest (undone_lobs s.undo.body s.undo.before s.store.lobs)

-- ---- behind an event

abbrev pub later : List RowPage → Pages → Store → Scene → Scene
later there new store s = record s { there = there; pages = new; store = store }

abbrev pub next_scene : List ℕ → Address × Record → List (Address × Record) → Scene → Scene
next_scene pages u us s = record s {
  log = record s.log { records = u ∷ us; pages = pages };
  place = u.0;
  undo = u.1;
  rest = us;
}

-- the record before becomes the newest, where one is left
abbrev pub NextIn : List (Address × Record) → List ℕ → Option Pages → Undoing → Scene → Type 0
NextIn [] pages told job s = Unit {0}
NextIn (u ∷ us) pages told job s =
    IsUndoing told job (next_scene pages u us s)

abbrev pub Again : Event → List ℕ → Option Pages → Undoing → Scene → Type 0
Again (frees page) pages told job s = IsUndoing told job s
Again (frees_index page) pages told job s = IsUndoing told job s
Again (pops page k v) pages told job s = IsUndoing told job s
Again ends pages told job s = NextIn s.rest pages told job s

pub record GoesOn (told : Option Pages) (e : Event) (job : Undoing) (s : Scene) (dir : RowDir)
    (new : Pages) : Type 0 where
  pub steps : Steps e s dir new
  pub again : Again e steps.made'.log_pages told job (later steps.made'.there new
      (made e s steps.made'.free steps.made'.log_pages (row_pages steps.made'.there)) s)
