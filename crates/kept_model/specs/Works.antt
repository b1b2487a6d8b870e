-- The further events of a change that is planned: LOBs alone change.
--     Works      what such an event does to a store
--     work_event      no entry is entered
use Rattle.std.specs.Prelude.{◌≡◌, ◌≢◌, ℕ, false, List, Option}
use Rattle.journal_model.specs.Journal.{Reply}
use Rattle.store_data.specs.Store.{Lob, Store}
use Rattle.store_data.specs.Pieces.{Part}
use Rattle.store_model.specs.Steps.{on_lobs}
use Rattle.store_model.specs.Moves.{KeepsOlder, KeepsAll}
use Rattle.store_model.specs.Consistent.{IsConsistent}
use Rattle.read_model.specs.Document.{Sees}
use Rattle.read_model.specs.Flight.{Flight, IsFlight}
use Rattle.read_model.specs.OfStore.{document}
use Rattle.kept_model.specs.Engine.{Left, Engine, with_session}
use Rattle.kept_model.specs.Fetches.{KeepsNewest}
use Rattle.kept_model.specs.Plans.{at_work}

pub record Works (trx d : ℕ) (f : List Lob → List Lob) (store : Store) : Type 0 where
  pub consistent : IsConsistent (on_lobs f store)
  pub older : KeepsOlder d store (on_lobs f store)
  pub others : (q : ℕ) → q ≢ d → KeepsAll q store (on_lobs f store)
  pub reads : (sees : Sees) (q : ℕ) (parts : Option (List Part)) (fl : Flight) → sees trx ≡ false
      → IsFlight sees (document store q) parts fl
      → IsFlight sees (document (on_lobs f store) q) parts fl
  pub elsewhere : (q : ℕ) → q ≢ d → KeepsNewest q store (on_lobs f store)

abbrev pub work_event : ℕ → ℕ → Left → Reply → (List Lob → List Lob) → Engine → Engine
work_event s d left r f e = record e {
  store = on_lobs f e.store;
  sessions = with_session s (at_work d left r (e.sessions s)) e.sessions;
}
