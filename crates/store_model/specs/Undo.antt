-- How the events of a rollback and of purge move a store.
--     piece_freed, index_freed, version_popped      the events of a rollback but the last of a
--         record
--     undo_ended      the last: what the record made is gone, the row is restored, the record is
--         popped
--     undone_record, undone_log      all events of a record, and of a transaction
--     purge_begun, version_dropped, record_passed, log_purged      the events of purge
use Rattle.std.specs.Prelude.{ℕ, suc, Bool, true, false, ◌&&◌, List, [], ◌∷◌, ◌++◌, map, Option, Some, None, is_none, ◌==◌, if◌then◌else◌}
use Rattle.page_model.specs.Pages.{Address}
use Rattle.store_data.specs.Logs.{passed}
use Rattle.store_data.specs.Pieces.{popped, dropped}
use Rattle.store_data.specs.Store.{RowState, absent, live, deleted, Row, Piece, Lob, Body, inserted, rebuilt, versioned, patched, removed, Record, purging, Log, Store}
use Rattle.store_model.specs.Runs.{lobs_laid}
use Rattle.store_model.specs.History.{row_of}
use Rattle.store_model.specs.Steps.{all_but_first, with_row, without_row, log_of, without_record, on_lob, without_lob, on_lobs, at_version, without_piece, without_index, at_piece}

-- ---- the record that a row names, where purge hasn't passed it

abbrev pub same_place : Address → Address → Bool
same_place a b = (a.page == b.page) && (a.at == b.at)

abbrev pub record_at : List (Address × Record) → Address → Option Record
record_at [] a = None
record_at (u ∷ us) a = if same_place u.0 a then Some u.1 else record_at us a

abbrev pub record_in : Option Log → Option Address → Option Record
record_in None roll = None
record_in (Some l) None = None
record_in (Some l) (Some a) = record_at l.records a

abbrev pub named : Store → Row → Option Record
named store row = record_in (log_of (store.active ++ store.committed) row.trx) row.roll

abbrev pub counts_as_purged : Store → Row → Bool
counts_as_purged store row = is_none (named store row)

-- ---- rollback

-- of a new LOB, the last piece first
abbrev pub piece_freed : ℕ → List Address → Store → Store
piece_freed page free store =
    on_lobs (on_lob page (λ l. record (without_piece l) { free = free })) store

abbrev pub index_freed : ℕ → Store → Store
index_freed page store = on_lobs (on_lob page without_index) store

-- the k-th piece's version in front goes
abbrev pub version_popped : ℕ → ℕ → List Address → Store → Store
version_popped page k free store =
    on_lobs (on_lob page (λ l. record (at_piece k popped l) { free = free })) store

-- a row with what stood before a change; one that shows nothing and whose own record is purged goes
abbrev pub is_gone : Store → RowState → Row → Bool
is_gone store absent row = true
is_gone store live row = false
is_gone store deleted row = counts_as_purged store row

abbrev pub restored : ℕ → Row → Store → Store
restored d before store =
    if is_gone store before.state before then without_row d store else with_row d before store

-- what the last event of a record's undoing does to the LOBs
abbrev pub unmade : Body → Row → List Lob → List Lob
unmade (inserted page) before lobs = without_lob page lobs
unmade (rebuilt page) before lobs = without_lob page lobs
unmade (versioned pieces touched) before lobs =
    on_lob before.lob.page (at_version before.lob.version) lobs
unmade (patched old) before lobs = lobs_laid old lobs
unmade removed before lobs = lobs

abbrev pub without_newest : ℕ → Record → Store → Store
without_newest trx u store =
    record (on_lobs (unmade u.body u.before) store) { active = without_record trx store.active }

abbrev pub undo_ended : ℕ → Record → Store → Store
undo_ended trx u store = restored u.doc u.before (without_newest trx u store)

-- the events before the last one

abbrev pub popped_at : ℕ → Piece → Piece
popped_at v p = if p.head.number == v then popped p else p

abbrev pub emptied : Body → Row → List Lob → List Lob
emptied (inserted page) before lobs = lobs
emptied (rebuilt page) before lobs = lobs
emptied (versioned pieces touched) before lobs =
    on_lob before.lob.page (λ l. record l {
      pieces = map
          (popped_at (suc before.lob.version)) l.pieces;
    }) lobs
emptied (patched old) before lobs = lobs
emptied removed before lobs = lobs

abbrev pub undone_record : ℕ → Record → Store → Store
undone_record trx u store = undo_ended trx u (on_lobs (emptied u.body u.before) store)

-- the newest first
abbrev pub undone_records : ℕ → List (Address × Record) → Store → Store
undone_records trx [] store = store
undone_records trx (u ∷ us) store = undone_records trx us (undone_record trx u.1 store)

abbrev pub undone_log : Log → Store → Store
undone_log l store = undone_records l.trx l.records store

abbrev pub undone_logs : List Log → Store → Store
undone_logs [] store = store
undone_logs (l ∷ ls) store = undone_logs ls (undone_log l store)

-- ---- purge of the first committed log

abbrev pub on_first : (Log → Log) → List Log → List Log
on_first f [] = []
on_first f (l ∷ ls) = f l ∷ ls

abbrev pub on_oldest : (Log → Log) → Store → Store
on_oldest f store = record store { committed = on_first f store.committed }

abbrev pub purge_begun : Store → Store
purge_begun store = on_oldest (λ l. record l { state = purging }) store

-- the k-th piece's oldest version goes
abbrev pub version_dropped : ℕ → ℕ → List Address → Store → Store
version_dropped page k free store =
    on_lobs (on_lob page (λ l. record (at_piece k dropped l) { free = free })) store

-- what the event that ends a record does to the LOBs
abbrev pub cleared : Body → Row → List Lob → List Lob
cleared (inserted page) before lobs = lobs
cleared (rebuilt page) before lobs = without_lob before.lob.page lobs
cleared (versioned pieces touched) before lobs = lobs
cleared (patched old) before lobs = lobs
cleared removed before lobs = without_lob before.lob.page lobs

abbrev pub is_at : Address → Option Address → Bool
is_at a None = false
is_at a (Some b) = same_place a b

-- whether the row's newest change is the record there
abbrev pub is_newest : Address → ℕ → Option Row → Bool
is_newest a trx None = false
is_newest a trx (Some row) = (row.trx == trx) && is_at a row.roll

-- a deleted row whose deletion is purged goes where nothing came after
abbrev pub swept : Body → Address → ℕ → ℕ → Store → Store
swept (inserted page) a trx d store = store
swept (rebuilt page) a trx d store = store
swept (versioned pieces touched) a trx d store = store
swept (patched old) a trx d store = store
swept removed a trx d store =
    if is_newest a trx (row_of store d) then without_row d store else store

-- the record is the oldest of the first committed log, and stands at the address
abbrev pub record_passed : Address → ℕ → Record → Store → Store
record_passed a trx u store =
    on_oldest passed (swept u.body a trx u.doc (on_lobs (cleared u.body u.before) store))

abbrev pub log_pages_left : List ℕ → Store → Store
log_pages_left pages store = on_oldest (λ l. record l { pages = pages }) store

-- the log's last page is given back
abbrev pub log_purged : Store → Store
log_purged store = record store {
  committed = all_but_first store.committed;
  purged = suc store.purged;
}
