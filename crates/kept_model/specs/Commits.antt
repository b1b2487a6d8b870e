-- The commit of a transaction, by its statement and by a change outside one.
--     commit_event      the whole event of the statement `commit` of a session that has changed
--         something
--     due_event      the commit behind the answer to a change outside a transaction, in the same
--         event
use Rattle.std.specs.Prelude.{ℕ, suc, ◌∷◌}
use Rattle.journal_model.specs.Journal.{done, Start, Did, Commit}
use Rattle.store_model.specs.Events.{committed_by}
use Rattle.kept_model.specs.Engine.{Engine, resting, with_session, released}

-- statement i of session s, whose transaction is trx
abbrev pub commit_event : ℕ → ℕ → ℕ → Engine → Engine
commit_event s i trx e = record {
  store = committed_by trx e.store;
  sessions = with_session s resting e.sessions;
  locks = released s e.locks;
  journal = Did s i done ∷ Commit s (suc e.store.commits) ∷ Start s i ∷ e.journal;
}

abbrev pub due_event : ℕ → ℕ → Engine → Engine
due_event s trx e = record {
  store = committed_by trx e.store;
  sessions = with_session s resting e.sessions;
  locks = released s e.locks;
  journal = Commit s (suc e.store.commits) ∷ e.journal;
}
