-- The events of the purge of the first committed log, as plain data. What is free in them, the
-- places of free nodes and the list of row pages, is handed in.
--     Event      one of them
--     due store at      the event that is due, where the version of the touched piece `at` went last
--     made e free rows store      what an event makes of a store
--     behind e      the touched piece whose version went last, behind the event
--     goes_on e      whether an event is left behind it
use Rattle.std.specs.Prelude.{ℕ, Bool, true, false, List, [], ◌∷◌, Option, Some, None, nat_le, if◌then◌else◌}
use Rattle.page_model.specs.Pages.{Address}
use Rattle.store_data.specs.Store.{Row, Version, Piece, Lob, Body, inserted, rebuilt, versioned, patched, removed, Record, LogState, active, committed, purging, Log, Store}
use Rattle.store_model.specs.Lobs.{lob_of, pieces_of}
use Rattle.store_model.specs.Steps.{last_in}
use Rattle.store_model.specs.Events.{with_row_pages}
use Rattle.store_model.specs.Takes.{piece_of}
use Rattle.store_steps.specs.Touched.{next_touched}
use Rattle.store_model.specs.Undo.{piece_freed, index_freed, purge_begun, version_dropped, record_passed, log_pages_left, log_purged}

pub data Event : Type 0 where
  -- the log's purge begins
  begins : Event
  -- of the k-th piece of a LOB the oldest version goes, where its number is at most v
  drops : (page k v : ℕ) → Event
  -- of a LOB the last piece goes, or the index page that was made last
  frees : (page : ℕ) → Event
  frees_index : (page : ℕ) → Event
  -- the record there is passed, and what is left of the LOB before it goes, and its row
  passes : (place : Address) → (trx : ℕ) → (undo : Record) → Event
  -- the log's page that was made last goes, and these are left
  gives : (left : List ℕ) → Event
  -- its first page goes, and the log with it
  ends : Event

-- ---- what is due

abbrev pub dropping : ℕ → ℕ → Event → Option ℕ → Event
dropping page v last None = last
dropping page v last (Some k) = drops page k v

-- a LOB goes from its last piece on, then its index pages
abbrev pub freeing : ℕ → Event → List Piece → List ℕ → Event
freeing page last [] [] = last
freeing page last [] (i ∷ is) = frees_index page
freeing page last (p ∷ ps) index = frees page

abbrev pub freeing_lob : ℕ → Event → Option Lob → Event
freeing_lob page last None = last
freeing_lob page last (Some l) = freeing page last l.pieces l.index

-- by the kind of the record; `last` is the event that passes it
abbrev pub due_for : Body → Row → List Lob → Option ℕ → Event → Event
due_for (inserted page) before lobs at last = last
due_for (rebuilt page) before lobs at last =
    freeing_lob before.lob.page last (lob_of lobs before.lob.page)
due_for (versioned pieces touched) before lobs at last =
    dropping before.lob.page before.lob.version last (next_touched at touched)
due_for (patched old) before lobs at last = last
due_for removed before lobs at last =
    freeing_lob before.lob.page last (lob_of lobs before.lob.page)

-- of a log without records
abbrev pub due_page : List ℕ → Event
due_page [] = ends
due_page (n ∷ []) = ends
due_page (n ∷ m ∷ more) = gives (m ∷ more)

-- the oldest record comes first
abbrev pub due_record : Log → List Lob → Option ℕ → List (Address × Record) → Event
due_record l lobs at [] = due_page l.pages
due_record l lobs at (u ∷ us) = due_for u.1.body u.1.before lobs at (passes u.0 l.trx u.1)

abbrev pub due_in : LogState → Event → Event
due_in active e = begins
due_in committed e = begins
due_in purging e = e

abbrev pub due_first : List Log → List Lob → Option ℕ → Event
due_first [] lobs at = ends
due_first (l ∷ ls) lobs at = due_in l.state (due_record l lobs at (last_in l.records))

abbrev pub due : Store → Option ℕ → Event
due store at = due_first store.committed store.lobs at

-- ---- what an event makes

-- whether the oldest version isn't the head and has a number of at most v
abbrev pub is_oldest_to : ℕ → List Version → Bool
is_oldest_to v [] = false
is_oldest_to v (x ∷ more) = nat_le x.number v

abbrev pub loses_version : ℕ → Option Piece → Bool
loses_version v None = false
loses_version v (Some p) = is_oldest_to v (last_in p.older)

abbrev pub version_gone : ℕ → ℕ → ℕ → List Address → Store → Store
version_gone page k v free store =
    if loses_version v (piece_of k (pieces_of (lob_of store.lobs page)))
    then version_dropped page k free store else store

abbrev pub made : Event → List Address → List ℕ → Store → Store
made begins free rows store = purge_begun store
made (drops page k v) free rows store = version_gone page k v free store
made (frees page) free rows store = piece_freed page free store
made (frees_index page) free rows store = index_freed page store
made (passes place trx u) free rows store = with_row_pages rows (record_passed place trx u store)
made (gives left) free rows store = log_pages_left left store
made ends free rows store = log_purged store

abbrev pub behind : Event → Option ℕ
behind begins = None
behind (drops page k v) = Some k
behind (frees page) = None
behind (frees_index page) = None
behind (passes place trx u) = None
behind (gives left) = None
behind ends = None

abbrev pub goes_on : Event → Bool
goes_on begins = true
goes_on (drops page k v) = true
goes_on (frees page) = true
goes_on (frees_index page) = true
goes_on (passes place trx u) = true
goes_on (gives left) = true
goes_on ends = false
