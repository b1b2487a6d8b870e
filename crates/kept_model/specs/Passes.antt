-- The event that purges a record whole: its document loses the rows before it.
--     Passes      what the event does to a store
use Rattle.std.specs.Prelude.{◌≡◌, ◌≢◌, ◌⊎◌, ℕ, true, List, [], ◌∷◌, ◌++◌, Option, None}
use Rattle.store_data.specs.Store.{Record, Log, Store}
use Rattle.store_data.specs.Pieces.{Part}
use Rattle.store_model.specs.History.{Past, history}
use Rattle.store_model.specs.Moves.{KeepsAll}
use Rattle.store_model.specs.Consistent.{IsConsistent}
use Rattle.read_model.specs.Document.{Sees}
use Rattle.read_model.specs.Flight.{Flight, IsFlight}
use Rattle.read_model.specs.OfStore.{document}
use Rattle.kept_model.specs.Engine.{Engine}
use Rattle.kept_model.specs.Rows.{SameTrx, SameTo}
use Rattle.kept_model.specs.Fetches.{KeepsNewest}

pub record Passes (l : Log) (ls : List Log) (u : Record) (old new : Store) : Type 0 where
  -- the newest rows, that of the purged transaction, and the one before it
  pub newer : List Past
  pub own : Past
  pub before : Past
  pub was : history old u.doc ≡ newer ++ (own ∷ before ∷ [])
  pub mine : own.trx ≡ l.trx
  -- the same rows in the LOBs that are left, without the one before; or an absent row in the place
  -- of a deleted one
  pub middle : List Past
  pub same : SameTrx (newer ++ (own ∷ [])) middle
  pub bytes : SameTo l.trx (newer ++ (own ∷ [])) middle
  pub now : (history new u.doc ≡ middle) ⊎ ((p : Past) × (middle ≡ p ∷ []) × (p.bytes ≡ None)
      × (history new u.doc ≡ record { trx = 0; length = 0; bytes = None } ∷ []))
  pub others : (d : ℕ) → d ≢ u.doc → KeepsAll d old new
  pub consistent : IsConsistent new
  pub next : new.next_trx ≡ old.next_trx
  pub commits : new.commits ≡ old.commits
  pub purged : new.purged ≡ old.purged
  pub active : new.active ≡ old.active
  pub log : Log
  pub committed : new.committed ≡ log ∷ ls
  pub log_trx : log.trx ≡ l.trx
  pub log_number : log.number ≡ l.number
  pub log_state : log.state ≡ l.state
  pub reads : (sees : Sees) (d : ℕ) (parts : Option (List Part)) (f : Flight) → sees l.trx ≡ true
      → sees 0 ≡ true
      → IsFlight sees (document old d) parts f → IsFlight sees (document new d) parts f
  pub shows : (d : ℕ) → KeepsNewest d old new

abbrev pub pass_event : Store → Engine → Engine
pass_event store e = record e { store = store }
