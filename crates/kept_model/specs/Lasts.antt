-- The event that undoes the last record of a transaction: its log goes.
--     Ends      what the event does to a store
--     last_event      no entry is entered by it alone; the one that says so is Undone, in the same
--         event
use Rattle.std.specs.Prelude.{◌≡◌, ◌≢◌, ℕ, true, false, List, [], ◌∷◌, Option, Some, None}
use Rattle.page_model.specs.Pages.{Address}
use Rattle.store_data.specs.Store.{Record, Log, Store}
use Rattle.store_data.specs.Pieces.{Part}
use Rattle.store_model.specs.History.{changes, stands}
use Rattle.store_model.specs.Steps.{log_of}
use Rattle.store_model.specs.Undo.{is_gone, without_newest}
use Rattle.store_model.specs.Moves.{KeepsAll}
use Rattle.store_model.specs.Keeps.{Restores}
use Rattle.store_model.specs.Consistent.{IsConsistent}
use Rattle.read_model.specs.Document.{Sees}
use Rattle.read_model.specs.Flight.{Flight, IsFlight}
use Rattle.read_model.specs.OfStore.{document}
use Rattle.kept_model.specs.Engine.{Engine, with_session}
use Rattle.kept_model.specs.Sessions.{record_docs, session_records}
use Rattle.kept_model.specs.Fetches.{KeepsNewest}
use Rattle.kept_model.specs.Undoes.{handed_flight, handed_session}

pub record Ends (trx : ℕ) (place : Address) (u : Record) (old new : Store) : Type 0 where
  pub restores : Restores u old new
  pub last : is_gone (without_newest trx u old) u.before.state u.before ≡ true
      → changes (without_newest trx u old) u.doc ≡ []
  pub others : (d : ℕ) → d ≢ u.doc → KeepsAll d old new
  pub consistent : IsConsistent new
  pub next : new.next_trx ≡ old.next_trx
  pub commits : new.commits ≡ old.commits
  pub purged : new.purged ≡ old.purged
  pub committed : new.committed ≡ old.committed
  pub active : (x : ℕ) → x ≢ trx → stands x new.active ≡ stands x old.active
  pub gone : stands trx new.active ≡ false
  pub logs : (x : ℕ) → x ≢ trx → log_of new.active x ≡ log_of old.active x
  pub log : record_docs (session_records old (Some trx)) ≡ u.doc ∷ []
  pub reads : (sees : Sees) (d : ℕ) (parts : Option (List Part)) (f : Flight) → sees trx ≡ false
      → sees 0 ≡ true
      → (is_gone (without_newest trx u old) u.before.state u.before ≡ true
      → sees u.before.trx ≡ true)
      → IsFlight sees (document old d) parts f
      → IsFlight sees (document new d) parts (handed_flight u.doc place u d f)
  pub elsewhere : (d : ℕ) → d ≢ u.doc → KeepsNewest d old new

-- the log of a transaction that has one record
pub record HasOne (trx : ℕ) (place : Address) (u : Record) (logs : List Log) : Type 0 where
  pub log : Log
  pub there : log_of logs trx ≡ Some log
  pub records : log.records ≡ (place, u) ∷ []

abbrev pub last_event : ℕ → Address → Record → Store → Engine → Engine
last_event s place u store e = record e {
  store = store;
  sessions = with_session s (record (e.sessions s) { trx = None })
      (λ t. handed_session u.doc place u (e.sessions t));
}
