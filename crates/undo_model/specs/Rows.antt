-- Rows in pages: a list of row pages, each with a count and 408 slots of 40 bytes. Each row page
-- has a row.
--     IsRows pages base rows, rows_spans      these row pages with these slots stand there; the
--         bytes that this rests on
--     rows_of      the rows by document
use Rattle.std.specs.Prelude.{◌≡◌, ◌≢◌, ℕ, ◌+◌, ◌==◌, ◌<◌, ◌≤◌, cond, List, [], ◌∷◌, ◌++◌, length, Option, Some, None}
use Rattle.page_model.specs.Pages.{Pages, field, Address, page_bytes}
use Rattle.page_model.specs.Spans.{Span, span}
use Rattle.page_model.specs.Lists.{IsList, base_span}
use Rattle.store_data.specs.Store.{RowState, absent, live, deleted}
use Rattle.undo_model.specs.Data.{Row}
use Rattle.undo_model.specs.Bytes.{state_code}
use Rattle.undo_model.specs.Logs.{node_of}

abbrev pub row_type : ℕ
row_type = 2

abbrev pub max_slots : ℕ
max_slots = 408

abbrev pub first_slot : ℕ
first_slot = 52

abbrev pub slot_size : ℕ
slot_size = 40

-- where the base of the list of row pages stands in page 0
abbrev pub row_base : Address
row_base = record { page = 0; at = 66 }

pub record Keyed : Type 0 where
  pub doc : ℕ
  pub row : Row

-- a row page: its slots from the first on, None where one is free
pub record RowPage : Type 0 where
  pub page : ℕ
  pub slots : List (Option Keyed)

abbrev pub IsPresent : RowState → Type 0
IsPresent absent = ⊥
IsPresent live = Unit {0}
IsPresent deleted = Unit {0}

pub record IsRowAt (pages : Pages) (page at : ℕ) (k : Keyed) : Type 0 where
  pub present : IsPresent k.row.state
  pub state : field pages page at 1 ≡ state_code k.row.state
  pub doc : field pages page (at + 1) 4 ≡ k.doc
  pub trx : field pages page (at + 5) 6 ≡ k.row.trx
  pub roll : field pages page (at + 11) 7 ≡ k.row.roll
  pub space : field pages page (at + 18) 4 ≡ k.row.lob.space
  pub first : field pages page (at + 22) 4 ≡ k.row.lob.page
  pub version : field pages page (at + 26) 4 ≡ k.row.lob.version
  pub length : field pages page (at + 34) 4 ≡ k.row.lob.length

abbrev pub IsSlot : Pages → ℕ → ℕ → Option Keyed → Type 0
IsSlot pages page at None = field pages page at 1 ≡ 0
IsSlot pages page at (Some k) = IsRowAt pages page at k

-- slots one behind another
abbrev pub AreSlots : Pages → ℕ → ℕ → List (Option Keyed) → Type 0
AreSlots pages page at [] = Unit {0}
AreSlots pages page at (s ∷ more) =
    IsSlot pages page at s × AreSlots pages page (at + slot_size) more

abbrev pub somes : List (Option Keyed) → List Keyed
somes [] = []
somes (None ∷ more) = somes more
somes (Some k ∷ more) = k ∷ somes more

pub record IsRowPage (pages : Pages) (p : RowPage) : Type 0 where
  pub there : p.page < length pages
  pub type : field pages p.page 24 2 ≡ row_type
  pub count : field pages p.page 50 2 ≡ length (somes p.slots)
  pub many : length p.slots ≡ max_slots
  pub slots : AreSlots pages p.page first_slot p.slots
  pub some : 1 ≤ length (somes p.slots)

abbrev pub AreRowPages : Pages → List RowPage → Type 0
AreRowPages pages [] = Unit {0}
AreRowPages pages (p ∷ more) = IsRowPage pages p × AreRowPages pages more

abbrev pub row_nodes : List RowPage → List Address
row_nodes [] = []
row_nodes (p ∷ more) = node_of p.page ∷ row_nodes more

abbrev pub rows_of : List RowPage → List Keyed
rows_of [] = []
rows_of (p ∷ more) = somes p.slots ++ rows_of more

-- the document isn't among these
abbrev pub IsNew : ℕ → List Keyed → Type 0
IsNew doc [] = Unit {0}
IsNew doc (k ∷ more) = (k.doc ≢ doc) × IsNew doc more

-- each document once
abbrev pub AreOnce : List Keyed → Type 0
AreOnce [] = Unit {0}
AreOnce (k ∷ more) = IsNew k.doc more × AreOnce more

pub record IsRows (pages : Pages) (base : Address) (rows : List RowPage) : Type 0 where
  pub list : IsList pages base (row_nodes rows)
  pub each : AreRowPages pages rows
  pub once : AreOnce (rows_of rows)

abbrev pub page_spans : List RowPage → List Span
page_spans [] = []
page_spans (p ∷ more) = span p.page 0 page_bytes ∷ page_spans more

abbrev pub rows_spans : Address → List RowPage → List Span
rows_spans base rows = base_span base ∷ page_spans rows

-- ---- as a finite map

abbrev pub row_for : ℕ → List Keyed → Option Row
row_for doc [] = None
row_for doc (k ∷ more) = cond (k.doc == doc) (Some k.row) (row_for doc more)

abbrev pub IfRows : Option Pages → Address → (Pages → List RowPage → Type 0) → Type 0
IfRows told base Q = (pages : Pages) (rows : List RowPage) → told ≡ Some pages
    → IsRows pages base rows → Q pages rows
