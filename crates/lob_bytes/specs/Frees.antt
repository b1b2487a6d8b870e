-- The pages of a LOB given back.
--     CanGive lob index pages      a LOB without pieces, with these index pages, and a map stand
--     GivesIndexPage, GivesFirst      what giving back the first page of the chain, and the LOB's
--         first page, leaves
--     IsOddGiving      what giving back an index page may name
use Rattle.std.specs.Prelude.{◌≡◌, ◌≢◌, ◌⊎◌, ℕ, ◌+◌, ◌*◌, ◌<◌, ◌≤◌, Bool, true, false, List, [], ◌∷◌, ◌++◌, Option, Some, None, IfSome}
use Rattle.page_model.specs.Pages.{Pages, field, null_page}
use Rattle.page_model.specs.Spans.{SameOutside}
use Rattle.page_model.specs.Steps.{PageState, write_head}
use Rattle.engine_base.specs.Faults.{Oddity}
use Rattle.engine_base.specs.declared.ids.PageNo.{PageNo}
use Rattle.page_space.specs.Map.{IsMap, map_spans}
use Rattle.page_space.specs.Answers.{IsRaisedOrNotUsed}
use Rattle.store_data.specs.Store.{Lob}
use Rattle.store_parts.specs.Keeps.{Keeps}
use Rattle.lob_model.specs.Begin.{bare_lob}
use Rattle.lob_model.specs.Lobs.{IsLob, lob_pages, lob_spans}
use Rattle.lob_model.specs.declared.layout.TheConstants.{CHAIN}
use Rattle.lob_index.specs.Use.{AreUsed, GivesPages}

-- the LOB without pieces, with these index pages, stands, and a map, and its pages are used
pub record CanGive (lob : Lob) (index : List ℕ) (pages : Pages) : Type 0 where
  pub lob' : IsLob pages (bare_lob lob index)
  pub map : IsMap pages
  pub used : AreUsed pages (lob_pages (bare_lob lob index))

-- the first index page is free, and the LOB stands without it
pub record GivesIndexPage (lob : Lob) (page : ℕ) (more : List ℕ) (old new : Pages) : Type 0 where
  pub lob' : IsLob new (bare_lob lob more)
  pub gives : GivesPages (page ∷ []) old new
  pub outside : SameOutside (map_spans ++ lob_spans (bare_lob lob more)) old new
  pub keeps : Keeps [] (lob_pages (bare_lob lob (page ∷ more)))
      (lob_pages (bare_lob lob more)) old new

-- the first page is free, and nothing else is changed
pub record GivesFirst (page : ℕ) (old new : Pages) : Type 0 where
  pub gives : GivesPages (page ∷ []) old new
  pub outside : SameOutside map_spans old new
  pub keeps : Keeps [] (page ∷ []) [] old new

-- whether a list has a member
abbrev pub has_some : List ℕ → Bool
has_some [] = false
has_some (n ∷ more) = true

-- two writes in the map, and the number of the next page in the chain
abbrev pub unchain_room : ℕ
unchain_room = (5 + 2 * write_head) + (4 + write_head)

-- ---- the chain

-- the number that stands for a page or for none
abbrev pub link_number : Option PageNo → ℕ
link_number None = null_page
link_number (Some page) = page.0

abbrev pub IsChainLink : ℕ → ℕ → Type 0
IsChainLink count n = (n ≡ null_page) ⊎ (n < count)

-- in that page the chain leads to a number that is neither a page nor null
pub record IsOddChain (told : Option Pages) (count from page at value : ℕ) : Type 0 where
  pub same_page : page ≡ from
  pub same_place : at ≡ CHAIN
  pub past : count ≤ value
  pub not_null : value ≢ null_page
  pub reads : IfSome told (λ pages. value ≡ field pages from CHAIN 4)

-- in the first page or in the next one; or, of the latter, what giving it back may name
abbrev pub IsOddGiving : PageState → ℕ → Oddity
IsOddGiving s first page at value =
    IsOddChain s.told s.count first page at value
    ⊎ ((next : ℕ) × (IsOddChain s.told s.count next page at value
    ⊎ IsRaisedOrNotUsed s.told s.count next page at value))
