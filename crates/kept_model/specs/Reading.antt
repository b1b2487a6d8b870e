-- The events of a read.
--     view_now      the view that a session takes now
--     read_event      one more event of a read that isn't answered by it
use Rattle.std.specs.Prelude.{ℕ, map}
use Rattle.store_data.specs.Store.{Store}
use Rattle.read_model.specs.Flight.{Flight}
use Rattle.read_model.specs.Steps.{event_of_read}
use Rattle.read_model.specs.OfStore.{document}
use Rattle.kept_model.specs.Engine.{ReadView, sees_by, reading, Engine, with_session}

abbrev pub view_now : Store → ReadView
view_now store = record {
  commits = store.commits;
  limit = store.next_trx;
  active = map (λ l. l.trx) store.active;
}

abbrev pub read_event : ℕ → ℕ → Flight → ReadView → Engine → Engine
read_event s d f v e = record e {
  sessions = with_session s (record (e.sessions s) {
    task =
        reading d (event_of_read (sees_by (e.sessions s).trx v) (document e.store d) f);
  }) e.sessions;
}
