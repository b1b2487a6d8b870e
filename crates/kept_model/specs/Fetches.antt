-- What a change reads of its document: it reads as one that sees everything, under the document's
-- lock.
--     sees_all, fetched_at      its view, and its first event
--     KeepsNewest d old new      the newest row of the document is the same, and shows the same
--     IsFetched      what it has copied are the first pieces of the newest row
use Rattle.std.specs.Prelude.{◌≡◌, ℕ, Bool, true, List, ◌++◌, Option, Some, None}
use Rattle.store_data.specs.Store.{live, Store}
use Rattle.store_data.specs.Pieces.{Part}
use Rattle.store_model.specs.History.{row_before}
use Rattle.read_model.specs.Flight.{Phase, Seek, Found, Pieces, Unpatch, Ready, Absent, Flight}
use Rattle.read_model.specs.Steps.{opened, event_of_read}
use Rattle.read_model.specs.OfStore.{document}
use Rattle.kept_model.specs.Engine.{fetching, Session}
use Rattle.kept_model.specs.Views.{newest_parts}

abbrev pub sees_all : ℕ → Bool
sees_all trx = true

abbrev pub fetch_begun : Store → ℕ → Flight
fetch_begun store d = opened sees_all (document store d)

abbrev pub fetch_event : Store → ℕ → Flight → Flight
fetch_event store d f = event_of_read sees_all (document store d) f

pub record KeepsNewest (d : ℕ) (old new : Store) : Type 0 where
  pub parts : newest_parts new d ≡ newest_parts old d
  pub row : (row_before old d).state ≡ live → row_before new d ≡ row_before old d

-- these are the first of those
abbrev pub AreFirstOf : List Part → Option (List Part) → Type 0
AreFirstOf copied None = ⊥
AreFirstOf copied (Some ps) = (rest : List Part) × (ps ≡ copied ++ rest)

pub record IsCopied (store : Store) (d : ℕ) (f : Flight) : Type 0 where
  pub state : (row_before store d).state ≡ live
  pub row : f.row ≡ row_before store d
  pub first : AreFirstOf f.copied (newest_parts store d)

-- it is behind its first event, and nothing is put back
abbrev pub IsFetchIn : Phase → Store → ℕ → Flight → Type 0
IsFetchIn Seek store d f = ⊥
IsFetchIn (Found n) store d f = ⊥
IsFetchIn Pieces store d f = IsCopied store d f
IsFetchIn Unpatch store d f = (f.cursor ≡ None) × (newest_parts store d ≡ Some f.copied)
IsFetchIn Ready store d f = newest_parts store d ≡ Some f.copied
IsFetchIn Absent store d f = newest_parts store d ≡ None

pub record IsFetch (store : Store) (d : ℕ) (f : Flight) : Type 0 where
  pub node : f.node ≡ None
  pub is : IsFetchIn f.phase store d f

abbrev pub IsFetched : Store → Session → Type 0
IsFetched store x = (d : ℕ) (f : Flight) → x.task ≡ fetching d f → IsFetch store d f
