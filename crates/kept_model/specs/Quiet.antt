-- Events that leave the store: a start, an ask, a piece read, a refusal, a begin, a view, an answer
-- to a read, a rollback begun.
--     Turns      a document's front stays, or the session begins to undo
--     IsQuiet      what such an event owes of the session that acts; all else stays
--     quiet_event
use Rattle.std.specs.Prelude.{◌≡◌, ◌⊎◌, ℕ, false, List, Option, nat_eq, Some, if◌then◌else◌}
use Rattle.journal_model.specs.Journal.{Script, Entry, Opening}
use Rattle.journal_model.specs.Part.{commits_of, purged_of, docs}
use Rattle.journal_model.specs.History.{Made, history}
use Rattle.kept_model.specs.Engine.{Session, Engine, with_session}
use Rattle.kept_model.specs.Stored.{Front, whole, undone, front, IsAhead}
use Rattle.kept_model.specs.Sessions.{IsSession, IsLogged, AreLocks}
use Rattle.kept_model.specs.Views.{IsViewed, IsRead, IsMaking}
use Rattle.kept_model.specs.Fetches.{IsFetched}
use Rattle.kept_model.specs.Kept.{IsCalm}
use Rattle.kept_model.specs.Ended.{SaysSame}

abbrev pub quiet_event : ℕ → Session → (ℕ → Option ℕ) → List Entry → Engine → Engine
quiet_event s x locks past e = record e {
  sessions = with_session s x e.sessions;
  locks = locks;
  journal = past;
}

-- the locks with one more
abbrev pub granted : ℕ → ℕ → (ℕ → Option ℕ) → ℕ → Option ℕ
granted d s locks q = if nat_eq q d then Some s else locks q

abbrev pub Turns : ℕ → Front → Front → Type 0
Turns s f f' = (f' ≡ f) ⊎ ((f ≡ whole) × (f' ≡ undone s))

pub record IsQuiet (o : Opening) (script : Script) (s : ℕ) (x : Session) (locks : ℕ
    → Option ℕ) (past : List Entry) (e : Engine) : Type 0 where
  -- the entries
  pub calm : IsCalm o script past
  pub others : (t : ℕ) → nat_eq t s ≡ false → SaysSame script t e.journal past
  pub changes : (d : ℕ) → history o script past d ≡ history o script e.journal d
  pub behind : (k : ℕ) → docs o script past k ≡ docs o script e.journal k
  pub commits : commits_of o past ≡ commits_of o e.journal
  pub purged : purged_of o past ≡ purged_of o e.journal
  -- the session
  pub trx : x.trx ≡ (e.sessions s).trx
  pub at : IsSession script past s x
  pub logged : IsLogged script past s x e.store
  pub views : IsViewed o script past e.store s x
  pub reads : IsRead o script past e.store s x
  pub making : IsMaking o script past e.store s x
  pub fetched : IsFetched e.store x
  -- the locks
  pub locked : (d : ℕ) → AreLocks script past locks (with_session s x e.sessions) d
  pub turns : (d : ℕ) → Turns s (front e d) (front (quiet_event s x locks past e) d)
  pub ahead : (d : ℕ) (ms : List Made)
      → IsAhead script e.journal (history o script e.journal d) (front e d) ms
      → IsAhead script past (history o script e.journal d) (front e d) ms
