-- What a store shows: each document's history, and the document under a number of commits.
--     changes store d      the undo records of d that purge has still to do, newest first, with
--         their places and transactions
--     history store d      the rows of d, newest first: who made each, and the bytes that it
--         shows, None where it is absent or deleted
--     is_among store k trx      the transaction is among the first k commits
--     under store d k      the document under the first k commits
use Rattle.std.specs.Prelude.{ℕ, Bool, false, not, ◌&&◌, ◌||◌, List, [], ◌∷◌, ◌++◌, map, Option, Some, None, unwrap_or, nat_lt, ◌==◌, if◌then◌else◌}
use Rattle.std.specs.Ordering.{nat_cmp}
use Rattle.std.specs.FinMap.Entries.{find}
use Rattle.page_model.specs.Pages.{Address}
use Rattle.store_data.specs.Pieces.{Part}
use Rattle.store_data.specs.Store.{RowState, absent, live, deleted, Row, Lob, Record, Log, Store}
use Rattle.store_model.specs.Lobs.{joined, parts}
use Rattle.store_model.specs.Runs.{put_back, old_runs, lobs_laid}

-- ---- changes

pub record Change : Type 0 where
  pub place : Address
  pub trx : ℕ
  pub undo : Record

abbrev pub changes_among : ℕ → ℕ → List (Address × Record) → List Change
changes_among d trx [] = []
changes_among d trx (u ∷ us) =
    if u.1.doc == d then record { place = u.0; trx = trx; undo = u.1 }
    ∷ changes_among d trx us else changes_among d trx us

abbrev pub log_changes : ℕ → Log → List Change
log_changes d l = changes_among d l.trx l.records

-- at most one active log has changes of a document, since its lock is held
abbrev pub active_changes : ℕ → List Log → List Change
active_changes d [] = []
active_changes d (l ∷ ls) = log_changes d l ++ active_changes d ls

-- of committed logs, which stand by commit number
abbrev pub committed_changes : ℕ → List Log → List Change
committed_changes d [] = []
committed_changes d (l ∷ ls) = committed_changes d ls ++ log_changes d l

abbrev pub changes : Store → ℕ → List Change
changes store d = active_changes d store.active ++ committed_changes d store.committed

-- ---- rows and what they show

abbrev pub row_of : Store → ℕ → Option Row
row_of store d = find nat_cmp d store.rows

-- the row of a document that has none
abbrev pub absent_row : Row
absent_row = record {
  state = absent;
  trx = 0;
  roll = None;
  lob = record { page = 0; version = 0; length = 0 };
}

abbrev pub row_before : Store → ℕ → Row
row_before store d = unwrap_or (row_of store d) absent_row

abbrev pub shown : RowState → List Part → Option (List ℕ)
shown absent vs = None
shown live vs = Some (joined vs)
shown deleted vs = None

abbrev pub content : List Lob → Row → Option (List ℕ)
content lobs row = shown row.state (parts lobs row.lob)

-- the same behind changes in place that came later, the newest first
abbrev pub content_behind : List Record → List Lob → Row → Option (List ℕ)
content_behind later lobs row = shown row.state (map (put_back later) (parts lobs row.lob))

-- ---- histories

-- a row as it was: who made it, the length that its reference has, and the bytes that it shows
pub record Past : Type 0 where
  pub trx : ℕ
  pub length : ℕ
  pub bytes : Option (List ℕ)

-- of a row and the changes that led to it; `later` are the records between it and the document's
-- newest row
abbrev pub history_behind : List Record → List Lob → Row → List Change → List Past
history_behind later lobs row [] =
    record { trx = row.trx; length = row.lob.length; bytes = content_behind later lobs row } ∷ []
history_behind later lobs row (c ∷ cs) =
    record { trx = row.trx; length = row.lob.length; bytes = content_behind later lobs row } ∷ history_behind
    (later ++ c.undo ∷ []) lobs c.undo.before cs

abbrev pub history : Store → ℕ → List Past
history store d = history_behind [] store.lobs (row_before store d) (changes store d)

-- the same by LOBs in which each change in place is taken back on the way
abbrev pub history_on : List Lob → Row → List Change → List Past
history_on lobs row [] = record { trx = row.trx; length = row.lob.length; bytes = content lobs row } ∷ []
history_on lobs row (c ∷ cs) =
    record { trx = row.trx; length = row.lob.length; bytes = content lobs row } ∷ history_on
    (lobs_laid (old_runs c.undo.body) lobs) c.undo.before cs

-- the first that is seen
abbrev pub seen : (ℕ → Bool) → List Past → Option (List ℕ)
seen sees [] = None
seen sees (h ∷ hs) = if sees h.trx then h.bytes else seen sees hs

-- ---- under a number of commits

abbrev pub stands : ℕ → List Log → Bool
stands trx [] = false
stands trx (l ∷ ls) = (l.trx == trx) || stands trx ls

-- in a log with a number above k
abbrev pub stands_above : ℕ → ℕ → List Log → Bool
stands_above k trx [] = false
stands_above k trx (l ∷ ls) = (nat_lt k l.number && (l.trx == trx)) || stands_above k trx ls

-- no log has the id 0 of an absent row, which so is among them
abbrev pub is_among : Store → ℕ → ℕ → Bool
is_among store k trx = not (stands trx store.active) && not (stands_above k trx store.committed)

abbrev pub under : Store → ℕ → ℕ → Option (List ℕ)
under store d k = seen (is_among store k) (history store d)
