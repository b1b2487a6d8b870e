-- How each event of a change and of a commit moves a store. What is free in them (places, pages of
-- lists) is handed in.
--     Plan      who changes which document, and where the record stands
--     insert_begun, rebuild_begun, version_begun, patch_made, delete_made      the planning event
--         of each kind of change
--     piece_added, version_pushed      the further events
--     committed_by      the commit of a transaction
use Rattle.std.specs.Prelude.{ℕ, suc, List, [], ◌∷◌, ◌++◌, Option, Some, None}
use Rattle.page_model.specs.Pages.{Address}
use Rattle.store_data.specs.Logs.{with_record}
use Rattle.store_data.specs.Pieces.{pushed}
use Rattle.store_data.specs.Store.{Reference, live, deleted, Row, Version, Piece, Lob, Run, Body, inserted, rebuilt, versioned, patched, removed, Record, active, committed, Log, Store}
use Rattle.store_model.specs.Runs.{lobs_laid}
use Rattle.store_model.specs.History.{row_before}
use Rattle.store_model.specs.Steps.{with_row, on_log, without_log, log_of, on_lob, on_lobs, at_version, with_piece, at_piece, with_nodes}

-- ---- a change is planned: its record, the row, and the first page changes

pub record Plan : Type 0 where
  pub trx : ℕ
  pub doc : ℕ
  pub number : ℕ
  pub place : Address

-- the transaction's log is made before its first record, with the next transaction id
abbrev pub log_begun : ℕ → ℕ → Store → Store
log_begun trx page store =
    record store {
      next_trx = suc trx;
      active = record {
        page = page;
        trx = trx;
        state = active;
        number = 0;
        pages = page ∷ [];
        records = [];
      } ∷ store.active;
    }

-- the pages of a log, and those of rows, as taking or giving one back leaves them
abbrev pub with_log_pages : ℕ → List ℕ → Store → Store
with_log_pages trx pages store =
    record store { active = on_log trx (λ l. record l { pages = pages }) store.active }

abbrev pub with_row_pages : List ℕ → Store → Store
with_row_pages pages store = record store { row_pages = pages }

abbrev pub record_of : Plan → Row → Body → Record
record_of p before body = record { number = p.number; doc = p.doc; before = before; body = body }

abbrev pub with_change : Plan → Row → Row → Body → Store → Store
with_change p row before body store =
    with_row p.doc row (record store {
      active = on_log p.trx
          (with_record p.place (record_of p before body)) store.active;
    })

abbrev pub planned : Plan → (Row → Row) → Body → Store → Store
planned p new body store =
    with_change p (new (row_before store p.doc)) (row_before store p.doc) body store

-- the rows that the kinds of change leave

abbrev pub new_row : Plan → ℕ → ℕ → Row → Row
new_row p page length before =
    record {
      state = live;
      trx = p.trx;
      roll = Some p.place;
      lob = record { page = page; version = 1; length = length };
    }

abbrev pub raised : Reference → Reference
raised r = record r { version = suc r.version }

abbrev pub raised_row : Plan → Row → Row
raised_row p before = record before { trx = p.trx; roll = Some p.place; lob = raised before.lob }

abbrev pub patched_row : Plan → Row → Row
patched_row p before = record before { trx = p.trx; roll = Some p.place }

abbrev pub deleted_row : Plan → Row → Row
deleted_row p before = record before { state = deleted; trx = p.trx; roll = Some p.place }

-- the planning events. A new LOB is handed in with its first piece.

abbrev pub insert_begun : Plan → Lob → ℕ → Store → Store
insert_begun p lob length store =
    on_lobs (λ ls. ls ++ lob ∷ []) (planned p (new_row p lob.page length) (inserted lob.page) store)

abbrev pub rebuild_begun : Plan → Lob → ℕ → Store → Store
rebuild_begun p lob length store =
    on_lobs (λ ls. ls ++ lob ∷ []) (planned p (new_row p lob.page length) (rebuilt lob.page) store)

abbrev pub version_begun : Plan → ℕ → List ℕ → Store → Store
version_begun p pieces touched store =
    on_lobs (on_lob (row_before store p.doc).lob.page
    (at_version (suc (row_before store p.doc).lob.version)))
    (planned p (raised_row p) (versioned pieces touched) store)

-- `old` are the bytes that stood where `new` are written
abbrev pub patch_made : Plan → List Run → List Run → Store → Store
patch_made p old new store = on_lobs (lobs_laid new) (planned p (patched_row p) (patched old) store)

abbrev pub delete_made : Plan → Store → Store
delete_made p store = planned p (deleted_row p) removed store

-- ---- the further events of a change

-- a piece of a new LOB, behind the others
abbrev pub piece_added : ℕ → Piece → List ℕ → List Address → Store → Store
piece_added page piece index free store =
    on_lobs (on_lob page (λ l. with_nodes index free (with_piece piece l))) store

-- a version of the k-th piece; its head moves to the node
abbrev pub version_pushed : ℕ → ℕ → Address → Version → List ℕ → List Address → Store → Store
version_pushed page k node v index free store =
    on_lobs (on_lob page (λ l. with_nodes index free (at_piece k (pushed node v) l))) store

-- ---- commit

abbrev pub moved : ℕ → Option Log → Store → Store
moved trx None store = store
moved trx (Some l) store = record store {
  commits = suc store.commits;
  active = without_log trx store.active;
  committed = store.committed ++ record l { state = committed; number = suc store.commits } ∷ [];
}

abbrev pub committed_by : ℕ → Store → Store
committed_by trx store = moved trx (log_of store.active trx) store
