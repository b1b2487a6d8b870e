-- The last event of the purge of a commit: its log is empty, and goes.
use Rattle.std.specs.Prelude.{suc, ◌∷◌}
use Rattle.journal_model.specs.Journal.{Purged}
use Rattle.store_model.specs.Undo.{purge_begun, log_purged}
use Rattle.kept_model.specs.Engine.{Engine}

abbrev pub purged_event : Engine → Engine
purged_event e = record e {
  store = log_purged e.store;
  journal = Purged (suc e.store.purged)
      ∷ e.journal;
}

-- the first event
abbrev pub begun_event : Engine → Engine
begun_event e = record e { store = purge_begun e.store }
