-- A node given up with the page of its version's data.
--     IsAt      the node stands at that end of the list
--     CanRelease, Releases      the node is taken out of a version list, and is the first of the
--         free ones; the page of the data is free
--     IsOddRelease      what that may name
use Rattle.std.specs.Prelude.{◌≡◌, ◌⊎◌, ℕ, ◌+◌, List, [], ◌∷◌, ◌++◌, map}
use Rattle.page_model.specs.Pages.{Pages, Address}
use Rattle.page_model.specs.Spans.{SameOutside}
use Rattle.page_model.specs.Lists.{IsList}
use Rattle.page_model.specs.Counts.{times}
use Rattle.page_model.specs.Steps.{PageState}
use Rattle.engine_base.specs.Faults.{Oddity}
use Rattle.file_lists.specs.Changes.{ChangesList}
use Rattle.file_lists.specs.Strange.{IsOddBehind, IsOddBefore, IsOddAtFront}
use Rattle.page_space.specs.Map.{IsMap, map_spans}
use Rattle.page_space.specs.Answers.{IsRaisedOrNotUsed}
use Rattle.store_data.specs.Store.{Lob}
use Rattle.lob_model.specs.Places.{free_base, versions_base, whole_page}
use Rattle.lob_model.specs.Lobs.{IsLob, IsLobBut, lob_pages}
use Rattle.store_parts.specs.Keeps.{Keeps}
use Rattle.lob_index.specs.Use.{AreUsed, GivesPages}
use Rattle.lob_index.specs.Data.{data_given}
use Rattle.lob_index.specs.Meanwhile.{IsMeanwhile}
use Rattle.lob_versions.specs.declared.release.End.{End}
use Rattle.lob_versions.specs.declared.release.End.TheVariants.{First, Last}

-- the node is the first of the list, or its last one
abbrev pub IsAt : End → List Address → List Address → Type 0
IsAt First before behind = before ≡ []
IsAt Last before behind = behind ≡ []

-- the pages `own` are a LOB's, which without the node in this version list, and without the page of
-- its data, is `lob`
pub record CanRelease (own : List ℕ) (lob : Lob) (head node : Address)
    (before behind : List Address) (page : ℕ) (pages : Pages) : Type 0 where
  pub list : IsList pages (versions_base head) (before ++ node ∷ behind)
  pub loosens : (mid : Pages)
      → ChangesList (versions_base head) (before ++ node ∷ behind) (before ++ behind) pages mid
      → IsLobBut mid lob (node ∷ []) × SameOutside (map whole_page own) pages mid
  pub map' : IsMap pages
  pub used : AreUsed pages own
  pub cut : (n : ℕ) → times n own
      ≡ times n (data_given lob.page page) + times n (lob_pages lob)

pub record Releases (own : List ℕ) (lob : Lob) (node : Address) (page : ℕ)
    (old new : Pages) : Type 0 where
  pub lob' : IsLob new (record lob { free = node ∷ lob.free })
  pub gives : GivesPages (data_given lob.page page) old new
  pub outside : SameOutside (map_spans ++ map whole_page own) old new
  pub keeps : Keeps [] own (lob_pages lob) old new

-- ---- what it may name

-- the length of the list, or the address of the one neighbour
abbrev pub IsOddAtEnd : End → PageState → Address → Address → Oddity
IsOddAtEnd First = IsOddBehind
IsOddAtEnd Last = IsOddBefore

-- the length of the version list or the address in the node, as either stood at the call; or, as
-- the call read them then, the length of the list of free nodes, the address of the first, the
-- count of free pages, or the byte of the map with the page's bit
abbrev pub IsOddRelease : End → ℕ → Address → Address → ℕ → PageState → Oddity
IsOddRelease end first head node page s page' at value =
    IsOddAtEnd end s (versions_base head) node page' at value
    ⊎ (IsMeanwhile (λ t. IsOddAtFront t (free_base first)) s page' at value
    ⊎ IsMeanwhile (λ t. IsRaisedOrNotUsed t.told t.count page) s page' at value)
