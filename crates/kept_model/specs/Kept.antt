-- The facts that tie an engine to its journal, between two events.
--     IsCalm, AreCounts      the journal is legal and nothing is due; the counts are the journal's
--     Kept, KeptPages      all of them, each part by itself
use Rattle.std.specs.Prelude.{◌≡◌, ◌≤◌, ◌<◌, ℕ, true, List, Option, None}
use Rattle.journal_model.specs.Journal.{Script, Entry, Opening}
use Rattle.journal_model.specs.Part.{commits_of, purged_of}
use Rattle.journal_model.specs.Legal.{IsLegal, commit_due, restart_due}
use Rattle.store_data.specs.Store.{Store}
use Rattle.store_model.specs.History.{history}
use Rattle.store_model.specs.Consistent.{IsConsistent}
use Rattle.kept_model.specs.Engine.{Engine}
use Rattle.kept_model.specs.Names.{is_old, AreLogs}
use Rattle.kept_model.specs.Stored.{IsStored}
use Rattle.kept_model.specs.Sessions.{IsSession, IsLogged, AreLocks}
use Rattle.kept_model.specs.Views.{AllPast, IsViewed, IsRead, IsMaking}
use Rattle.kept_model.specs.Fetches.{IsFetched}
use Rattle.kept_model.specs.Held.{IsHeld}

-- a commit is due in the midst of an event alone
pub record IsCalmAt (due : Option ℕ) (o : Opening) (script : Script) (past : List Entry) : Type 0
  where
    pub legal : IsLegal o script past
    pub commit : commit_due o script past ≡ due
    pub restart : restart_due o script past ≡ None

abbrev pub IsCalm : Opening → Script → List Entry → Type 0
IsCalm o script past = IsCalmAt None o script past

pub record AreCounts (o : Opening) (past : List Entry) (store : Store) : Type 0 where
  pub commits : store.commits ≡ commits_of o past
  pub purged : store.purged ≡ purged_of o past
  pub more : o.commits ≤ store.commits

-- transactions in rows were given
abbrev pub AreGiven : Store → ℕ → Type 0
AreGiven store d = AllPast (λ x. x < store.next_trx) (history store d)

-- without the counts of pages
pub record KeptAt (due : Option ℕ) (o : Opening) (script : Script) (e : Engine) : Type 0 where
  -- the journal
  pub calm : IsCalmAt due o script e.journal
  pub counts : AreCounts o e.journal e.store
  -- the store by itself, with no page owned twice
  pub consistent : IsConsistent e.store
  pub given : (d : ℕ) → AreGiven e.store d
  -- the id of an absent row is no transaction's
  pub zero : is_old e.store 0 ≡ true
  pub logs : AreLogs e.store e.sessions
  -- documents
  pub stored : (d : ℕ) → IsStored o script e d
  -- sessions
  pub at : (s : ℕ) → IsSession script e.journal s (e.sessions s)
  pub logged : (s : ℕ) → IsLogged script e.journal s (e.sessions s) e.store
  pub locks : (d : ℕ) → AreLocks script e.journal e.locks e.sessions d
  pub views : (s : ℕ) → IsViewed o script e.journal e.store s (e.sessions s)
  pub reads : (s : ℕ) → IsRead o script e.journal e.store s (e.sessions s)
  pub making : (s : ℕ) → IsMaking o script e.journal e.store s (e.sessions s)
  pub fetched : (s : ℕ) → IsFetched e.store (e.sessions s)

abbrev pub Kept : Opening → Script → Engine → Type 0
Kept o script e = KeptAt None o script e

-- which versions are held, beside them
pub record KeptPages (o : Opening) (script : Script) (e : Engine) : Type 0 where
  pub held : (d : ℕ) → IsHeld o script e d
