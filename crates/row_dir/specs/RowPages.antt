-- What the calls on row pages need and leave.
--     SetsSlotTo      a slot holds this, and its page counts so many rows
--     StartsWith, OpensPage      a row page as it begins; one behind the others
--     CanChange      the map and the pages of the rows are used
use Rattle.std.specs.Prelude.{◌≡◌, ℕ, ◌+◌, ◌*◌, ◌^◌, ◌<◌, ◌≤◌, List, [], ◌∷◌, ◌++◌, length, Option, Some, None}
use Rattle.std.specs.Prelude.{replicate}
use Rattle.page_model.specs.Pages.{Pages, Address, field, page_bytes}
use Rattle.page_model.specs.Spans.{Span, span, SameOutside}
use Rattle.page_space.specs.Map.{IsMap, IsUsed}
use Rattle.store_parts.specs.Appends.{AreUsed}
use Rattle.undo_model.specs.Rows.{Keyed, RowPage, IsRowAt, IsSlot, row_type, row_nodes, first_slot, slot_size}
use Rattle.store_parts.specs.Standing.{MovesRows}
use Rattle.engine_base.specs.declared.header.TheConstants.{TYPE}
use Rattle.row_dir.specs.declared.layout.TheConstants.{COUNT}
use Rattle.row_dir.specs.Slots.{slot_span}
use Rattle.row_dir.specs.Directory.{free_in}

pub record SetsSlotTo (a : Address) (s : Option Keyed) (n : ℕ) (old new : Pages) : Type 0 where
  pub stands : first_slot ≤ a.at → a.at + slot_size ≤ 16_384 → IsSlot new a.page a.at s
  pub count : field new a.page COUNT 2 ≡ n
  pub outside : SameOutside (slot_span a ∷ span a.page COUNT 2 ∷ []) old new

pub record CanChange (rows : List RowPage) (pages : Pages) : Type 0 where
  pub map : IsMap pages
  pub system : IsUsed pages 0
  pub used : AreUsed pages (row_nodes rows)
  pub few : length rows + 1 < 2 ^ 32

abbrev pub page_of : ℕ → List (Option Keyed) → RowPage
page_of n slots = record { page = n; slots = slots }

-- the slots before this place have rows, and the one there is free
pub record IsFirstFree (slots : List (Option Keyed)) (at : ℕ) : Type 0 where
  pub before : List (Option Keyed)
  pub behind : List (Option Keyed)
  pub split : slots ≡ before ++ None ∷ behind
  pub place : at ≡ first_slot + slot_size * length before
  pub taken : free_in before ≡ 0

-- a page with that row in its first slot, and no other
pub record StartsWith (page : ℕ) (k : Keyed) (old new : Pages) : Type 0 where
  pub type : field new page TYPE 2 ≡ row_type
  pub count : field new page COUNT 2 ≡ 1
  pub row : IsRowAt new page first_slot k
  pub free : (at : ℕ) → first_slot + slot_size ≤ at → at < page_bytes → field new page at 1 ≡ 0
  pub outside : SameOutside (span page 0 page_bytes ∷ []) old new

-- a page that was free is one of row pages, behind the others, with that row alone
pub record OpensPage (k : Keyed) (rows : List RowPage) (page : ℕ) (old new : Pages) : Type 0 where
  pub spans : List Span
  pub moves : MovesRows [] [] rows (rows ++ page_of page (Some k ∷ replicate 407 None) ∷ [])
      spans old new
