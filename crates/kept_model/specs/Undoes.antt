-- The last event of an undone record, where its log has more.
--     handed_task      what it does to another session's read
--     Undoes      what the event does to a store, for each kind of change
--     undo_event      no entry is entered
use Rattle.std.specs.Prelude.{◌≡◌, ◌≢◌, ℕ, ◌==◌, true, false, List, [], ◌∷◌, Option, Some, if◌then◌else◌}
use Rattle.page_model.specs.Pages.{Address}
use Rattle.store_data.specs.Store.{Record, Log, Store}
use Rattle.store_data.specs.Pieces.{Part}
use Rattle.store_model.specs.History.{changes, stands}
use Rattle.store_model.specs.Steps.{log_of}
use Rattle.store_model.specs.Undo.{is_gone, without_newest}
use Rattle.store_model.specs.Moves.{KeepsAll}
use Rattle.store_model.specs.Keeps.{Restores}
use Rattle.store_model.specs.Consistent.{IsConsistent}
use Rattle.read_model.specs.Document.{Sees}
use Rattle.read_model.specs.Flight.{Flight, IsFlight}
use Rattle.read_model.specs.Steps.{hand_on}
use Rattle.read_model.specs.OfStore.{document}
use Rattle.kept_model.specs.Engine.{Task, idle, asking, fetching, making, reading, undoing, Session, Engine}
use Rattle.kept_model.specs.Sessions.{record_docs, session_records}
use Rattle.kept_model.specs.Fetches.{KeepsNewest}

abbrev pub handed_flight : ℕ → Address → Record → ℕ → Flight → Flight
handed_flight doc a u d f = if d == doc then hand_on a u f else f

abbrev pub handed_task : ℕ → Address → Record → Task → Task
handed_task doc a u idle = idle
handed_task doc a u (asking d) = asking d
handed_task doc a u (fetching d f) = fetching d (handed_flight doc a u d f)
handed_task doc a u (making d left r) = making d left r
handed_task doc a u (reading d f) = reading d (handed_flight doc a u d f)
handed_task doc a u (undoing v) = undoing v

abbrev pub handed_session : ℕ → Address → Record → Session → Session
handed_session doc a u x = record x { task = handed_task doc a u x.task }

pub record Undoes (trx : ℕ) (place : Address) (u : Record) (old new : Store) : Type 0 where
  pub restores : Restores u old new
  pub last : is_gone (without_newest trx u old) u.before.state u.before ≡ true
      → changes (without_newest trx u old) u.doc ≡ []
  pub others : (d : ℕ) → d ≢ u.doc → KeepsAll d old new
  pub consistent : IsConsistent new
  pub next : new.next_trx ≡ old.next_trx
  pub commits : new.commits ≡ old.commits
  pub purged : new.purged ≡ old.purged
  pub committed : new.committed ≡ old.committed
  pub active : (x : ℕ) → stands x new.active ≡ stands x old.active
  pub logs : (x : ℕ) → x ≢ trx → log_of new.active x ≡ log_of old.active x
  pub log : record_docs (session_records old (Some trx)) ≡ u.doc
      ∷ record_docs (session_records new (Some trx))
  pub more : session_records new (Some trx) ≢ []
  pub reads : (sees : Sees) (d : ℕ) (parts : Option (List Part)) (f : Flight) → sees trx ≡ false
      → sees 0 ≡ true
      → (is_gone (without_newest trx u old) u.before.state u.before ≡ true
      → sees u.before.trx ≡ true)
      → IsFlight sees (document old d) parts f
      → IsFlight sees (document new d) parts (handed_flight u.doc place u d f)
  pub elsewhere : (d : ℕ) → d ≢ u.doc → KeepsNewest d old new

-- the log of a transaction that has more than one record
pub record HasMore (trx : ℕ) (place : Address) (u : Record) (logs : List Log) : Type 0 where
  pub log : Log
  pub second : Address × Record
  pub rest : List (Address × Record)
  pub there : log_of logs trx ≡ Some log
  pub records : log.records ≡ (place, u) ∷ second ∷ rest

abbrev pub undo_event : Address → Record → Store → Engine → Engine
undo_event place u store e = record e {
  store = store;
  sessions =
      λ t. handed_session u.doc place u (e.sessions t);
}
