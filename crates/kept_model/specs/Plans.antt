-- The planning event of a change: of its store, and whole.
--     Plans p old new      what the planning event of each kind of change does to a store
--     plan_event      no entry is entered; the change is made from now on
use Rattle.std.specs.Prelude.{◌≡◌, ◌≢◌, ℕ, false, List, ◌∷◌, Option, Some}
use Rattle.journal_model.specs.Journal.{Reply}
use Rattle.store_data.specs.Store.{Store}
use Rattle.store_data.specs.Pieces.{Part}
use Rattle.store_model.specs.History.{stands}
use Rattle.store_model.specs.Steps.{log_of}
use Rattle.store_model.specs.Events.{Plan}
use Rattle.store_model.specs.Moves.{Begins}
use Rattle.store_model.specs.Consistent.{IsConsistent}
use Rattle.read_model.specs.Document.{Sees}
use Rattle.read_model.specs.Flight.{Flight, IsFlight}
use Rattle.read_model.specs.OfStore.{document}
use Rattle.kept_model.specs.Engine.{Left, making, Session, Engine, with_session}
use Rattle.kept_model.specs.Sessions.{record_docs, session_records}
use Rattle.kept_model.specs.Fetches.{KeepsNewest}

pub record Plans (p : Plan) (old new : Store) : Type 0 where
  pub begins : Begins p old new
  pub consistent : IsConsistent new
  pub next : new.next_trx ≡ old.next_trx
  pub commits : new.commits ≡ old.commits
  pub purged : new.purged ≡ old.purged
  pub committed : new.committed ≡ old.committed
  pub active : (x : ℕ) → stands x new.active ≡ stands x old.active
  pub logs : (x : ℕ) → x ≢ p.trx → log_of new.active x ≡ log_of old.active x
  pub log : record_docs (session_records new (Some p.trx)) ≡ p.doc
      ∷ record_docs (session_records old (Some p.trx))
  pub reads : (sees : Sees) (d : ℕ) (parts : Option (List Part)) (f : Flight) → sees p.trx ≡ false
      → IsFlight sees (document old d) parts f → IsFlight sees (document new d) parts f
  pub others : (d : ℕ) → d ≢ p.doc → KeepsNewest d old new

abbrev pub at_work : ℕ → Left → Reply → Session → Session
at_work d left r x = record x { task = making d left r }

abbrev pub plan_event : ℕ → Plan → Left → Reply → Store → Engine → Engine
plan_event s p left r store e = record e {
  store = store;
  sessions = with_session s (at_work p.doc left r (e.sessions s)) e.sessions;
}
