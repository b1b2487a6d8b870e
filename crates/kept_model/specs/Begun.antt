-- The first change of a transaction: its log is begun in the event that plans the change.
--     log_event      the store has the log, and the session its transaction
--     IsBegun      all parts of Kept, but that the session's log may be empty
use Rattle.std.specs.Prelude.{◌≡◌, ℕ, true, false, Some, nat_eq}
use Rattle.journal_model.specs.Journal.{Script, Opening}
use Rattle.store_model.specs.Consistent.{IsConsistent}
use Rattle.store_model.specs.Events.{log_begun}
use Rattle.kept_model.specs.Engine.{Session, Engine, with_session}
use Rattle.kept_model.specs.Names.{is_old, AreLogs}
use Rattle.kept_model.specs.Stored.{IsStored}
use Rattle.kept_model.specs.Sessions.{IsSession, own_docs, record_docs, session_records, HasRecords, IsLogged, AreLocks}
use Rattle.kept_model.specs.Views.{IsViewed, IsRead, IsMaking}
use Rattle.kept_model.specs.Fetches.{IsFetched}
use Rattle.kept_model.specs.Kept.{IsCalm, AreCounts, AreGiven}

abbrev pub with_trx : ℕ → Session → Session
with_trx trx x = record x { trx = Some trx }

-- the log's first page is handed in; the transaction gets the next id
abbrev pub log_event : ℕ → ℕ → Engine → Engine
log_event s page e = record e {
  store = log_begun e.store.next_trx page e.store;
  sessions = with_session s (with_trx e.store.next_trx (e.sessions s)) e.sessions;
}

-- between the log and the first record in it, in the midst of one event
pub record IsBegun (s : ℕ) (o : Opening) (script : Script) (e : Engine) : Type 0 where
  pub calm : IsCalm o script e.journal
  pub counts : AreCounts o e.journal e.store
  pub consistent : IsConsistent e.store
  pub given : (d : ℕ) → AreGiven e.store d
  pub zero : is_old e.store 0 ≡ true
  pub logs : AreLogs e.store e.sessions
  pub stored : (d : ℕ) → IsStored o script e d
  pub at : (t : ℕ) → IsSession script e.journal t (e.sessions t)
  -- the records agree, though there may be none
  pub records : HasRecords (e.sessions s).task (own_docs script s e.journal)
      (record_docs (session_records e.store (e.sessions s).trx))
  pub logged : (t : ℕ) → nat_eq t s ≡ false → IsLogged script e.journal t (e.sessions t) e.store
  pub locks : (d : ℕ) → AreLocks script e.journal e.locks e.sessions d
  pub views : (t : ℕ) → IsViewed o script e.journal e.store t (e.sessions t)
  pub reads : (t : ℕ) → IsRead o script e.journal e.store t (e.sessions t)
  pub making : (t : ℕ) → IsMaking o script e.journal e.store t (e.sessions t)
  pub fetched : (t : ℕ) → IsFetched e.store (e.sessions t)
