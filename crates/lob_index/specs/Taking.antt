-- A node taken from a LOB: of its free ones, or of a page that becomes an index page.
--     CanTakeNode reserved pages lob      a node may be taken
--     TakesNode lob node reserved reserved' old new      what taking it leaves
--     node_taken page rest lob      the LOB without it
--     IsOddNode      what the call may name
use Rattle.std.specs.Prelude.{◌≡◌, ◌⊎◌, ℕ, ◌+◌, ◌*◌, ◌≤◌, List, [], ◌∷◌, ◌++◌, length, Option, IfSome}
use Rattle.page_model.specs.Pages.{Pages, Address, field, null_page, page_bytes}
use Rattle.page_model.specs.Spans.{SameOutside}
use Rattle.page_model.specs.Steps.{PageState, write_head}
use Rattle.engine_base.specs.Faults.{Oddity}
use Rattle.page_space.specs.Map.{IsMap, map_spans, free_of}
use Rattle.page_space.specs.Answers.{IsSpentOrOdd}
use Rattle.store_data.specs.Store.{Lob}
use Rattle.store_parts.specs.Keeps.{Keeps}
use Rattle.lob_model.specs.Places.{index_entries}
use Rattle.lob_model.specs.Lobs.{IsLob, IsLobBut, lob_pages, lob_spans}
use Rattle.lob_model.specs.declared.layout.TheConstants.{FREE}
use Rattle.lob_index.specs.Use.{AreUsed, TakesPages}
use Rattle.lob_index.specs.Nodes.{IsOddFree}

-- the page that becomes an index page: none where a node is free
abbrev pub index_taken : ℕ → List Address → List ℕ
index_taken page [] = page ∷ []
index_taken page (a ∷ more) = []

-- the free nodes, where that page becomes an index page if none is free
abbrev pub free_with : ℕ → List Address → List Address
free_with page [] = index_entries page
free_with page (a ∷ more) = a ∷ more

-- the LOB with that page as an index page, if none is free, and with these nodes free
abbrev pub node_taken : ℕ → List Address → Lob → Lob
node_taken page rest lob =
    record lob { index = index_taken page lob.free ++ lob.index; free = rest }

-- a LOB and a map stand, the LOB's pages are used, and where no node is free it has a piece, so
-- that it isn't being given back, and a page is reserved
pub record CanTakeNode (reserved : ℕ) (pages : Pages) (lob : Lob) : Type 0 where
  pub lob' : IsLob pages lob
  pub map : IsMap pages
  pub used : AreUsed pages (lob_pages lob)
  pub begun : lob.free ≡ [] → 1 ≤ length lob.pieces
  pub reserve : lob.free ≡ [] → 1 ≤ reserved
  pub covered : reserved ≤ free_of pages

-- the node was the first of the free ones, or of those of a page that became an index page, and is
-- in no list
pub record TakesNode (lob : Lob) (node : Address) (reserved reserved' : ℕ)
    (old new : Pages) : Type 0 where
  pub page : ℕ
  pub rest : List Address
  pub first : free_with page lob.free ≡ node ∷ rest
  pub lob' : IsLobBut new (node_taken page rest lob) (node ∷ [])
  pub takes : TakesPages (index_taken page lob.free) old new
  pub spent : reserved' + length (index_taken page lob.free) ≡ reserved
  pub outside : SameOutside (map_spans ++ lob_spans (node_taken page rest lob)) old new
  pub keeps : Keeps [] (lob_pages lob) (lob_pages (node_taken page rest lob)) old new

-- the writes for an index page: two in the map, the page, its number in the chain, and the base of
-- the free nodes
abbrev pub node_room : ℕ
node_room = (5 + 2 * write_head) + (page_bytes + write_head) + (4 + write_head) + (16 + write_head)

-- no node is free, though a page would be needed and none is reserved
pub record IsNoNode (told : Option Pages) (first page at value : ℕ) : Type 0 where
  pub same_page : page ≡ first
  pub same_place : at ≡ FREE + 4
  pub null : value ≡ null_page
  pub reads : IfSome told (λ pages. value ≡ field pages first (FREE + 4) 4)

-- what taking a free node may name, that there is none, or the count of free pages
abbrev pub IsOddNode : PageState → ℕ → Oddity
IsOddNode s first page at value =
    IsOddFree s first page at value
    ⊎ (IsNoNode s.told first page at value ⊎ IsSpentOrOdd s.told s.count page at value)
