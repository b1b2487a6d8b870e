-- Nodes taken from a LOB's free ones, and given back.
--     LoosesNode, GivesNode      what either leaves of the LOB
--     IsOddFree      what the calls may name
use Rattle.std.specs.Prelude.{◌≡◌, ◌⊎◌, ℕ, ◌+◌, ◌<◌, List, [], ◌∷◌, Option, IfSome}
use Rattle.page_model.specs.Pages.{Pages, Address, field, page_bytes}
use Rattle.page_model.specs.Spans.{SameOutside}
use Rattle.page_model.specs.Steps.{PageState}
use Rattle.engine_base.specs.Faults.{Oddity}
use Rattle.file_lists.specs.Strange.{IsOddLink, IsOddBehind}
use Rattle.store_data.specs.Store.{Lob}
use Rattle.lob_model.specs.Places.{free_base}
use Rattle.lob_model.specs.declared.layout.TheConstants.{FREE, ENTRY}
use Rattle.lob_model.specs.Lobs.{IsLob, IsLobBut, lob_pages, lob_spans}
use Rattle.store_parts.specs.Keeps.{Keeps}

-- the first of the free nodes is in no list any more
pub record LoosesNode (lob : Lob) (node : Address) (rest : List Address)
    (old new : Pages) : Type 0 where
  pub lob' : IsLobBut new (record lob { free = rest }) (node ∷ [])
  pub outside : SameOutside (lob_spans lob) old new
  pub keeps : Keeps [] (lob_pages lob) (lob_pages lob) old new

-- the node is the first of the free ones
pub record GivesNode (lob : Lob) (node : Address) (old new : Pages) : Type 0 where
  pub lob' : IsLob new (record lob { free = node ∷ lob.free })
  pub outside : SameOutside (lob_spans lob) old new
  pub keeps : Keeps [] (lob_pages lob) (lob_pages lob) old new

-- at the offset of the first free node no entry fits
pub record IsOddPlace (told : Option Pages) (first page at value : ℕ) : Type 0 where
  pub same_page : page ≡ first
  pub same_place : at ≡ FREE + 8
  pub past : page_bytes < value + ENTRY
  pub reads : IfSome told (λ pages. value ≡ field pages first (FREE + 8) 2)

-- what taking a free node may name: the address of the first, the length of the list, or the
-- address behind a node
abbrev pub IsOddFree : PageState → ℕ → Oddity
IsOddFree s first page at value =
    IsOddLink s.told s.count first (FREE + 4) page at value
    ⊎ (IsOddPlace s.told first page at value
    ⊎ ((node : Address) × IsOddBehind s (free_base first) node page at value))
