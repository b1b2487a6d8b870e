-- What the pages of a store mean, as plain data: no layout, and no offset but the places that a
-- reader or a record keeps.
--     Row, Record, Log      rows by document, undo records, undo logs
--     Version, Piece, Lob      a LOB is a list of pieces, each a head with its older versions,
--         newest first
--     Store      all of it
--     AreRising      rows stand in rising order of their documents
use Rattle.std.specs.Prelude.{ℕ, ◌<◌, List, [], ◌∷◌, Option}
use Rattle.page_model.specs.Pages.{Address}

-- a LOB reference: the first page, the LOB version and the document's length in bytes
pub record Reference : Type 0 where
  pub page : ℕ
  pub version : ℕ
  pub length : ℕ

pub data RowState : Type 0 where
  absent : RowState
  live : RowState
  deleted : RowState

-- the roll pointer leads to the record of the row's newest change, in the log of its transaction;
-- None means that there is none
pub record Row : Type 0 where
  pub state : RowState
  pub trx : ℕ
  pub roll : Option Address
  pub lob : Reference

-- ---- LOBs

-- an entry: its place, the LOB version, its data and where they begin in their page, and who made
-- and changed it
pub record Version : Type 0 where
  pub place : Address
  pub number : ℕ
  pub page : ℕ
  pub at : ℕ
  pub bytes : List ℕ
  pub creator : ℕ
  pub modifier : ℕ
  pub creator_undo : ℕ
  pub modifier_undo : ℕ

-- the older versions, the newest of them first
pub record Piece : Type 0 where
  pub head : Version
  pub older : List Version

pub record Lob : Type 0 where
  pub page : ℕ
  pub version : ℕ
  pub pieces : List Piece
  -- the index pages, the one made last first
  pub index : List ℕ
  -- the free nodes, in the order of their list
  pub free : List Address

-- ---- undo

-- bytes at a place of a page
pub record Run : Type 0 where
  pub page : ℕ
  pub at : ℕ
  pub bytes : List ℕ

-- a patched record has the bytes that stood there before
pub data Body : Type 0 where
  inserted : (page : ℕ) → Body
  rebuilt : (page : ℕ) → Body
  versioned : (pieces : ℕ) → (touched : List ℕ) → Body
  patched : List Run → Body
  removed : Body

pub record Record : Type 0 where
  pub number : ℕ
  pub doc : ℕ
  pub before : Row
  pub body : Body

-- in the order of the numbers 1 to 3
pub data LogState : Type 0 where
  active : LogState
  committed : LogState
  purging : LogState

-- The records are those that purge has still to do, each with its address, newest first: of an
-- active log all that it has. The field of the next record to purge leads to the last of them, and
-- to none where purge has passed all.
pub record Log : Type 0 where
  pub page : ℕ
  pub trx : ℕ
  pub state : LogState
  -- the commit number, 0 in an active log
  pub number : ℕ
  -- with the first page
  pub pages : List ℕ
  pub records : List (Address × Record)

-- ---- the store

-- rows are a finite map in rising order of the documents; logs stand as in their lists, the
-- committed ones by commit number
pub record Store : Type 0 where
  pub next_trx : ℕ
  pub commits : ℕ
  pub purged : ℕ
  pub rows : List (ℕ × Row)
  pub row_pages : List ℕ
  pub active : List Log
  pub committed : List Log
  pub lobs : List Lob

abbrev pub AllAbove : ℕ → List (ℕ × Row) → Type 0
AllAbove d [] = Unit {0}
AllAbove d (r ∷ rs) = (d < r.0) × AllAbove d rs

abbrev pub AreRising : List (ℕ × Row) → Type 0
AreRising [] = Unit {0}
AreRising (r ∷ rs) = AllAbove r.0 rs × AreRising rs
