-- What an engine has between two events, as plain data.
--     ReadView, sees_by      a view: so many commits, by transaction ids
--     Task      how far the statement that is under way has come, or the rollback
--     Session, Engine
use Rattle.std.specs.Prelude.{ℕ, Bool, false, not, ◌==◌, ◌&&◌, ◌||◌, List, Option, Some, None, nat_lt, if◌then◌else◌}
use Rattle.std.specs.List.{list_any}
use Rattle.journal_model.specs.Journal.{Level, Undoer, Reply, Entry}
use Rattle.store_data.specs.Store.{Store}
use Rattle.read_model.specs.Flight.{Flight}

-- ---- views

-- made at so many commits: the next transaction id then, and the transactions that were active
pub record ReadView : Type 0 where
  pub commits : ℕ
  pub limit : ℕ
  pub active : List ℕ

abbrev pub is_own : Option ℕ → ℕ → Bool
is_own None trx = false
is_own (Some own) trx = trx == own

-- what a session with this transaction of its own sees
abbrev pub sees_by : Option ℕ → ReadView → ℕ → Bool
sees_by own v trx = is_own own trx || (nat_lt trx v.limit
    && not (list_any (λ n. n == trx) v.active))

-- ---- statements under way

-- what is left of a change that is planned: the bytes of pieces that are still to be added, or of
-- those that are to be pushed, by their numbers from 0
pub data Left : Type 0 where
  adding : List (List ℕ) → Left
  pushing : List (ℕ × List ℕ) → Left
  nothing : Left

pub data Task : Type 0 where
  idle : Task
  -- a change whose lock isn't granted
  asking : (doc : ℕ) → Task
  -- it has the lock, and reads the newest document
  fetching : (doc : ℕ) → Flight → Task
  -- it is planned: its row and its record stand
  making : (doc : ℕ) → Left → Reply → Task
  reading : (doc : ℕ) → Flight → Task
  undoing : Undoer → Task

pub record Session : Type 0 where
  pub task : Task
  -- the transaction that has a log, from its first change on
  pub trx : Option ℕ
  pub level : Option Level
  pub view : Option ReadView
  -- pages that its statement has reserved and not taken
  pub reserved : ℕ

-- the journal is read backwards; a lock leads from a document to its session
pub record Engine : Type 0 where
  pub store : Store
  pub sessions : ℕ → Session
  pub locks : ℕ → Option ℕ
  pub journal : List Entry

abbrev pub resting : Session
resting = record { task = idle; trx = None; level = None; view = None; reserved = 0 }

abbrev pub with_session : ℕ → Session → (ℕ → Session) → ℕ → Session
with_session s x sessions t = if t == s then x else sessions t

-- the locks without those of a session
abbrev pub unless : ℕ → Option ℕ → Option ℕ
unless s None = None
unless s (Some t) = if t == s then None else Some t

abbrev pub released : ℕ → (ℕ → Option ℕ) → ℕ → Option ℕ
released s locks d = unless s (locks d)
