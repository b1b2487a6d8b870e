-- What an engine remembers of its sessions, and what the journal says of them.
--     IsSession      how far the session's statement, or its rollback, has come; its transaction's
--         level
--     IsLogged      the log of its transaction has a record for each own change, one more while a
--         change is made, and fewer while changes are undone
--     AreLocks      a document's lock is the journal's, or that of a change under way
use Rattle.std.specs.Prelude.{◌≡◌, ◌≢◌, ◌⊎◌, ℕ, Bool, true, false, ◌+◌, ◌==◌, List, [], ◌∷◌, ◌++◌, map, reverse, length, Option, Some, None, IsSome}
use Rattle.journal_model.specs.Documents.{call_doc}
use Rattle.journal_model.specs.Journal.{Script, get, size, rollback, statements, Undoer, by_rollback, by_deadlock, by_end, Entry}
use Rattle.journal_model.specs.Held.{is_in}
use Rattle.journal_model.specs.Part.{part, level_in, view_since_start, own, started, answered, under_way}
use Rattle.journal_model.specs.Locks.{sessions, asks, holds, may_hold}
use Rattle.journal_model.specs.Legal.{has_deadlock}
use Rattle.page_model.specs.Pages.{Address}
use Rattle.store_data.specs.Store.{Record, Log, Store}
use Rattle.store_model.specs.Steps.{log_of}
use Rattle.kept_model.specs.Engine.{Task, idle, asking, fetching, making, reading, undoing, Session}

-- ---- tasks

module _ (script : Script) (past : List Entry) (s : ℕ) where
  abbrev pub IsUndoing : Undoer → Type 0
  IsUndoing by_rollback = (under_way script s past ≡ Some rollback)
      × IsSome (level_in script s (part script s past))
      × (has_deadlock (part script s past) ≡ false)
  IsUndoing by_deadlock = has_deadlock (part script s past) ≡ true
  IsUndoing by_end =
      (answered s past ≡ length (statements s script)) × IsSome
      (level_in script s (part script s past))
      × (has_deadlock (part script s past) ≡ false)

  abbrev pub IsAt : Task → Type 0
  IsAt idle = has_deadlock (part script s past) ≡ false
  IsAt (asking d) = (asks script s past ≡ Some d) × (has_deadlock (part script s past) ≡ false)
  IsAt (fetching d ps) = (asks script s past ≡ Some d) × (has_deadlock (part script s past) ≡ false)
  IsAt (making d left r) = (asks script s past ≡ Some d)
      × (has_deadlock (part script s past) ≡ false)
  IsAt (reading d f) = ((under_way script s past ≡ Some (get d))
      ⊎ (under_way script s past ≡ Some (size d))) × (has_deadlock (part script s past) ≡ false)
  IsAt (undoing u) = IsUndoing u

-- whether a statement is started and not answered
abbrev pub under_way_in : Task → ℕ
under_way_in idle = 0
under_way_in (asking d) = 1
under_way_in (fetching d ps) = 1
under_way_in (making d left r) = 1
under_way_in (reading d f) = 1
under_way_in (undoing by_rollback) = 1
under_way_in (undoing by_deadlock) = 0
under_way_in (undoing by_end) = 0

abbrev pub is_reading : Task → Bool
is_reading idle = false
is_reading (asking d) = false
is_reading (fetching d ps) = false
is_reading (making d left r) = false
is_reading (reading d f) = true
is_reading (undoing u) = false

pub record IsSession (script : Script) (past : List Entry) (s : ℕ) (x : Session) : Type 0 where
  pub count : started s past ≡ answered s past + under_way_in x.task
  pub at : IsAt script past s x.task
  pub level : x.level ≡ level_in script s (part script s past)
  -- a view that ends with its read
  pub since : is_reading x.task ≡ false → view_since_start (part script s past) ≡ None

-- ---- logs

-- the documents of the own changes, the newest first
abbrev pub own_docs : Script → ℕ → List Entry → List ℕ
own_docs script s past = reverse (map call_doc (own script s past))

abbrev pub record_docs : List (Address × Record) → List ℕ
record_docs us = map (λ u. u.1.doc) us

abbrev pub HasRecords : Task → List ℕ → List ℕ → Type 0
HasRecords idle docs ds = ds ≡ docs
HasRecords (asking d) docs ds = ds ≡ docs
HasRecords (fetching d ps) docs ds = ds ≡ docs
HasRecords (making d left r) docs ds = ds ≡ d ∷ docs
HasRecords (reading d f) docs ds = ds ≡ docs
HasRecords (undoing u) docs ds = (undone : List ℕ) × (docs ≡ undone ++ ds)

abbrev pub records_of : Option Log → List (Address × Record)
records_of None = []
records_of (Some l) = l.records

-- the records of the session's transaction; none where it has no log. A log that stands has records
abbrev pub session_records : Store → Option ℕ → List (Address × Record)
session_records store None = []
session_records store (Some trx) = records_of (log_of store.active trx)

pub record IsLogged (script : Script) (past : List Entry) (s : ℕ) (x : Session) (store : Store) :
    Type 0 where
  pub records : HasRecords x.task (own_docs script s past)
      (record_docs (session_records store x.trx))
  pub some : (trx : ℕ) → x.trx ≡ Some trx → session_records store x.trx ≢ []

-- ---- locks

abbrev pub has_lock : ℕ → Task → Bool
has_lock d idle = false
has_lock d (asking e) = false
has_lock d (fetching e ps) = e == d
has_lock d (making e left r) = e == d
has_lock d (reading e f) = false
has_lock d (undoing u) = false

pub record AreLocks (script : Script) (past : List Entry) (locks : ℕ → Option ℕ) (tasks : ℕ
    → Session) (d : ℕ) : Type 0 where
  pub held : (s : ℕ) → holds script s d past ≡ true → locks d ≡ Some s
  pub taken : (s : ℕ) → has_lock d (tasks s).task ≡ true → locks d ≡ Some s
  pub meant : (s : ℕ) → locks d ≡ Some s
      → (is_in s sessions ≡ true) × ((holds script s d past ≡ true)
      ⊎ ((may_hold script s d past ≡ true) ⊎ (has_lock d (tasks s).task ≡ true)))
