-- The events that purge a record, but its last: LOBs alone change.
--     Drops      what such an event does to a store
--     drop_event      no entry is entered
use Rattle.std.specs.Prelude.{◌≡◌, ℕ, true, List, [], ◌∷◌, ◌++◌, Option}
use Rattle.store_data.specs.Store.{Log, Lob, Store}
use Rattle.store_data.specs.Pieces.{Part}
use Rattle.store_model.specs.History.{Past, history}
use Rattle.store_model.specs.Steps.{on_lobs}
use Rattle.store_model.specs.Consistent.{IsConsistent}
use Rattle.read_model.specs.Document.{Sees}
use Rattle.read_model.specs.Flight.{Flight, IsFlight}
use Rattle.read_model.specs.OfStore.{document}
use Rattle.kept_model.specs.Engine.{Engine}
use Rattle.kept_model.specs.Rows.{SameTrx, SameTo}
use Rattle.kept_model.specs.Fetches.{KeepsNewest}

pub record Drops (l : Log) (d : ℕ) (f : List Lob → List Lob) (store : Store) : Type 0 where
  -- the newest rows, that of the purged transaction, and the one before it
  pub newer : List Past
  pub own : Past
  pub before : Past
  pub was : history store d ≡ newer ++ (own ∷ before ∷ [])
  pub mine : own.trx ≡ l.trx
  pub consistent : IsConsistent (on_lobs f store)
  pub same : (q : ℕ) → SameTrx (history store q) (history (on_lobs f store) q)
  pub bytes : (q : ℕ) → SameTo l.trx (history store q) (history (on_lobs f store) q)
  pub reads : (sees : Sees) (q : ℕ) (parts : Option (List Part)) (fl : Flight) → sees l.trx ≡ true
      → IsFlight sees (document store q) parts fl
      → IsFlight sees (document (on_lobs f store) q) parts fl
  pub shows : (q : ℕ) → KeepsNewest q store (on_lobs f store)

abbrev pub drop_event : (List Lob → List Lob) → Engine → Engine
drop_event f e = record e { store = on_lobs f e.store }
