-- A new LOB: a first page without pieces.
--     first_fields page trx      the fields of the page before its entries
--     MakesFirstPage      the page was written
--     CanTakePage reserved pages      a page may be taken
--     BeginsLob page trx reserved reserved' old new      what beginning a LOB leaves
use Rattle.std.specs.Prelude.{◌≡◌, ℕ, ◌+◌, ◌*◌, ◌<◌, ◌≤◌, ◌-◌, ◌==◌, cond, List, [], ◌∷◌, ◌++◌}
use Rattle.page_model.specs.Pages.{Pages, Address, page_bytes, null_page, null_address}
use Rattle.page_model.specs.Spans.{SameOutside}
use Rattle.page_model.specs.Steps.{write_head}
use Rattle.page_model.specs.Tables.{Field, field_at, HasFields, header_fields, base_fields}
use Rattle.page_space.specs.Map.{IsMap, IsUsed, map_spans, free_of}
use Rattle.store_parts.specs.Keeps.{Keeps}
use Rattle.lob_model.specs.Places.{at_place, whole_page}
use Rattle.lob_model.specs.Begin.{begun, IsBuilding}
use Rattle.lob_model.specs.Lobs.{IsLob, lob_pages, lob_spans}
use Rattle.lob_model.specs.declared.layout.TheConstants.{FIRST_TYPE, LOB_VERSION, LAST_CHANGER, LAST_UNDO, FIRST_LENGTH, LOB_CREATOR, HEADS, FREE, FIRST_ENTRIES, FIRST_COUNT, ENTRY}
use Rattle.lob_index.specs.Use.{TakesPages}
use Rattle.lob_index.specs.IndexPages.{link_fields}

-- ---- the page

-- the base of the free nodes, from the first entry to the tenth
abbrev pub free_fields : ℕ → List Field
free_fields page =
    field_at FREE 4 FIRST_COUNT ∷ field_at (FREE + 4) 4 page ∷ field_at (FREE + 8) 2 96
    ∷ field_at (FREE + 10) 4 page ∷ field_at (FREE + 14) 2 636 ∷ []

-- version 1, the transaction as the creator and as the last changer, and no data
abbrev pub first_fields : ℕ → ℕ → List Field
first_fields page trx =
    header_fields page null_page null_page FIRST_TYPE
    ++ (field_at LOB_VERSION 4 1 ∷ field_at LAST_CHANGER 6 trx ∷ field_at LAST_UNDO 4 0
    ∷ field_at FIRST_LENGTH 4 0 ∷ field_at LOB_CREATOR 6 trx
    ∷ (base_fields HEADS ++ free_fields page))

-- the entry before entry k, and null before the first one and behind the tenth
abbrev pub linked : ℕ → ℕ → Address
linked page k = cond (k == 0) null_address (cond (k == FIRST_COUNT + 1) null_address
    (at_place page (FIRST_ENTRIES - ENTRY + ENTRY * k)))

-- the node of entry i, between its neighbours
abbrev pub node_fields : ℕ → ℕ → List Field
node_fields page i =
    link_fields (FIRST_ENTRIES + ENTRY * i) (linked page i) (linked page (i + 2))

abbrev pub AreLinked : Pages → ℕ → ℕ → ℕ → Type 0
AreLinked pages at page n = (i : ℕ) → i < n → HasFields pages at (node_fields page i)

pub record MakesFirstPage (page trx : ℕ) (old new : Pages) : Type 0 where
  pub fields : HasFields new page (first_fields page trx)
  pub nodes : AreLinked new page page FIRST_COUNT
  pub outside : SameOutside (whole_page page ∷ []) old new

-- ---- a page that is taken

-- a map stands, page 0 is used, and as many pages are free as are reserved
pub record CanTakePage (reserved : ℕ) (pages : Pages) : Type 0 where
  pub map : IsMap pages
  pub system : IsUsed pages 0
  pub covered : reserved ≤ free_of pages

-- ---- the LOB

-- the lowest free page became a LOB without pieces
pub record BeginsLob (page trx reserved reserved' : ℕ) (old new : Pages) : Type 0 where
  pub lob' : IsLob new (begun page)
  pub building : IsBuilding (begun page)
  pub fields : HasFields new page (first_fields page trx)
  pub takes : TakesPages (page ∷ []) old new
  pub spent : reserved' + 1 ≡ reserved
  pub outside : SameOutside (map_spans ++ lob_spans (begun page)) old new
  pub keeps : Keeps [] [] (lob_pages (begun page)) old new

-- two writes in the map, and the page
abbrev pub begin_room : ℕ
begin_room = (5 + 2 * write_head) + (page_bytes + write_head)
