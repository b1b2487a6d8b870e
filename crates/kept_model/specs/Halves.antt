-- The events that undo a record, but its last: LOBs alone change.
--     turned_session      what such an event does to a read
--     Halves      what it does to a store
--     half_event      no entry is entered
use Rattle.std.specs.Prelude.{◌≡◌, ◌≢◌, ℕ, false, List, [], Option, None}
use Rattle.store_data.specs.Store.{Lob, Store}
use Rattle.store_data.specs.Pieces.{Part}
use Rattle.store_model.specs.History.{row_before, history}
use Rattle.store_model.specs.Steps.{on_lobs, all_but_first}
use Rattle.store_model.specs.Moves.{KeepsOlder, KeepsAll}
use Rattle.store_model.specs.Consistent.{IsConsistent}
use Rattle.read_model.specs.Document.{Sees}
use Rattle.read_model.specs.Flight.{Flight, IsFlight}
use Rattle.read_model.specs.OfStore.{document}
use Rattle.kept_model.specs.Engine.{Task, idle, asking, fetching, making, reading, undoing, Session, Engine}
use Rattle.kept_model.specs.Fetches.{KeepsNewest}

abbrev pub turned_task : (ℕ → Flight → Flight) → Task → Task
turned_task turn idle = idle
turned_task turn (asking d) = asking d
turned_task turn (fetching d f) = fetching d (turn d f)
turned_task turn (making d left r) = making d left r
turned_task turn (reading d f) = reading d (turn d f)
turned_task turn (undoing v) = undoing v

abbrev pub turned_session : (ℕ → Flight → Flight) → Session → Session
turned_session turn x = record x { task = turned_task turn x.task }

pub record Halves (trx d : ℕ) (turn : ℕ → Flight → Flight) (f : List Lob
    → List Lob) (store : Store) : Type 0 where
  pub mine : (row_before store d).trx ≡ trx
  pub behind : all_but_first (history store d) ≢ []
  pub consistent : IsConsistent (on_lobs f store)
  pub older : KeepsOlder d store (on_lobs f store)
  pub others : (q : ℕ) → q ≢ d → KeepsAll q store (on_lobs f store)
  pub reads : (sees : Sees) (q : ℕ) (parts : Option (List Part)) (fl : Flight) → sees trx ≡ false
      → IsFlight sees (document store q) parts fl
      → IsFlight sees (document (on_lobs f store) q) parts (turn q fl)
  -- a search at a head stays there
  pub still : (q : ℕ) (fl : Flight) → fl.node ≡ None → turn q fl ≡ fl
  pub elsewhere : (q : ℕ) → q ≢ d → KeepsNewest q store (on_lobs f store)

abbrev pub half_event : (ℕ → Flight → Flight) → (List Lob → List Lob) → Engine → Engine
half_event turn f e = record e {
  store = on_lobs f e.store;
  sessions = λ t. turned_session turn (e.sessions t);
}
