-- The end of a rollback, where nothing is left to undo.
--     IsEnding      what the entries that end it say
--     undone_event      the session is outside a transaction, and its locks are free
use Rattle.std.specs.Prelude.{◌≡◌, ◌+◌, ℕ, false, List, [], nat_eq}
use Rattle.journal_model.specs.Journal.{Script, Entry, Opening}
use Rattle.journal_model.specs.Part.{part, started, answered, commits_of, purged_of, docs}
use Rattle.journal_model.specs.History.{is_sessions, without, history}
use Rattle.kept_model.specs.Engine.{Engine, resting, with_session, released}
use Rattle.kept_model.specs.Kept.{IsCalm}

-- two journals that say the same of a session
pub record SaysSame (script : Script) (t : ℕ) (past past' : List Entry) : Type 0 where
  pub part_same : part script t past' ≡ part script t past
  pub started_same : started t past' ≡ started t past
  pub answered_same : answered t past' ≡ answered t past

pub record IsEnding (o : Opening) (script : Script) (s : ℕ) (past past' : List Entry) : Type 0 where
  pub calm : IsCalm o script past'
  pub part_none : part script s past' ≡ []
  pub count : started s past' ≡ answered s past' + 0
  pub others : (t : ℕ) → nat_eq t s ≡ false → SaysSame script t past past'
  pub changes : (d : ℕ)
      → history o script past' d ≡ without (is_sessions s) (history o script past d)
  pub behind : (k : ℕ) → docs o script past' k ≡ docs o script past k
  pub commits : commits_of o past' ≡ commits_of o past
  pub purged : purged_of o past' ≡ purged_of o past

abbrev pub undone_event : ℕ → List Entry → Engine → Engine
undone_event s past e = record e {
  sessions = with_session s resting e.sessions;
  locks = released s e.locks;
  journal = past;
}
