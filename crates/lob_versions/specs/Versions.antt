-- What popping and dropping a version of a piece need and leave.
--     HasPiece      a LOB and a map are told, the LOB's pages are used, and one of its pieces
--         stands at the head
--     LosesVersion      the piece p of the LOB is q, a node is free, and so is a page
--     IsOddPop, IsOddDrop      what the calls may name
use Rattle.std.specs.Prelude.{◌≡◌, ◌⊎◌, ℕ, ◌+◌, ◌<◌, ◌≤◌, List, [], ◌∷◌, ◌++◌, Option, Some, None, IfSome}
use Rattle.page_model.specs.Pages.{Pages, Address, field, null_page}
use Rattle.page_model.specs.Spans.{SameOutside}
use Rattle.page_model.specs.Steps.{PageState}
use Rattle.engine_base.specs.Faults.{Oddity}
use Rattle.engine_base.specs.Addresses.{address_of}
use Rattle.page_space.specs.Map.{IsMap, map_spans}
use Rattle.store_data.specs.Store.{Version, Piece, Lob}
use Rattle.lob_model.specs.Lobs.{IsLob, lob_pages, lob_spans}
use Rattle.lob_model.specs.Changes.{with_pieces}
use Rattle.lob_model.specs.declared.layout.TheConstants.{VERSIONS}
use Rattle.store_parts.specs.Keeps.{Keeps}
use Rattle.lob_pages.specs.Entries.{FitsPage, HasNarrowIds, IsEntryAt}
use Rattle.lob_index.specs.Use.{AreUsed, GivesPages}
use Rattle.lob_versions.specs.declared.pops.Newest.{Newest}
use Rattle.lob_versions.specs.declared.drops.Oldest.{Oldest}
use Rattle.lob_versions.specs.Links.{IsOddEntryLink}
use Rattle.lob_index.specs.Data.{data_given, IsOddDataPage}
use Rattle.lob_index.specs.Meanwhile.{IsMeanwhile}
use Rattle.lob_versions.specs.declared.release.End.{End}
use Rattle.lob_versions.specs.declared.release.End.TheVariants.{First, Last}
use Rattle.lob_versions.specs.Releases.{IsOddRelease}

pub record HasPiece (told : Option Pages) (first : ℕ) (head : Address) (pages : Pages) (l : Lob)
    (bs : List Piece) (p : Piece) (cs : List Piece) : Type 0 where
  pub told' : told ≡ Some pages
  pub lob' : IsLob pages (with_pieces l (bs ++ p ∷ cs))
  pub first' : l.page ≡ first
  pub head' : p.head.place ≡ head
  pub map' : IsMap pages
  pub used : AreUsed pages (lob_pages (with_pieces l (bs ++ p ∷ cs)))

-- the page is given back unless it is the LOB's first page; but for the map, only pages of the LOB
-- are written
pub record LosesVersion (l : Lob) (bs : List Piece) (p q : Piece) (cs : List Piece)
    (node : Address) (page : ℕ) (old new : Pages) : Type 0 where
  pub lob' : IsLob new (record l { pieces = bs ++ q ∷ cs; free = node ∷ l.free })
  pub gives : GivesPages (data_given l.page page) old new
  pub outside : SameOutside (map_spans ++ lob_spans (with_pieces l (bs ++ p ∷ cs))) old new
  pub keeps : Keeps [] (lob_pages (with_pieces l (bs ++ p ∷ cs)))
      (lob_pages (with_pieces l (bs ++ q ∷ cs))) old new

-- ---- what is read before

-- the first older version x of a head h
pub record IsNewest (pages : Pages) (h x : Version) (n : Newest) : Type 0 where
  pub node : address_of n.node ≡ x.place
  pub page : n.page.0 ≡ h.page
  pub fields : IsEntryAt pages x.place n.fields

pub record IsFitNewest (count : ℕ) (n : Newest) : Type 0 where
  pub node : FitsPage count (address_of n.node)
  pub page : n.page.0 < count
  pub fields : HasNarrowIds n.fields

-- the oldest version x of a piece, where its number is at most v
abbrev pub IsOldest : ℕ → Version → Option Oldest → Type 0
IsOldest v x None = v < x.number
IsOldest v x (Some o) =
    (x.number ≤ v) × (address_of o.node ≡ x.place) × (o.page.0 ≡ x.page)

abbrev pub IsFitOldest : ℕ → Option Oldest → Type 0
IsFitOldest count found = IfSome found
    (λ o. FitsPage count (address_of o.node) × (o.page.0 < count))

-- ---- what the calls may name

-- there is no older version, though there is to be one
pub record IsNoOlder (told : Option Pages) (head : Address) (page at value : ℕ) : Type 0 where
  pub same_page : page ≡ head.page
  pub same_place : at ≡ head.at + VERSIONS + 4
  pub null : value ≡ null_page
  pub reads : IfSome told (λ pages. value ≡ field pages head.page (head.at + VERSIONS + 4) 4)

abbrev pub IsOddNewest : Option Pages → ℕ → Address → Oddity
IsOddNewest told count head page at value =
    IsOddEntryLink told count head.page (head.at + VERSIONS + 4) page at value
    ⊎ (IsNoOlder told head page at value ⊎ IsOddDataPage told count head page at value)

abbrev pub IsOddOldest : Option Pages → ℕ → Address → Oddity
IsOddOldest told count head page at value =
    IsOddEntryLink told count head.page (head.at + VERSIONS + 10) page at value
    ⊎ ((node : Address) × IsOddDataPage told count node page at value)

-- what giving up some node may name
abbrev pub IsOddGivingUp : End → ℕ → Address → PageState → Oddity
IsOddGivingUp end first head s page at value =
    (node : Address) × (k : ℕ) × IsOddRelease end first head node k s page at value

-- an address or a page that is read before the first write, as it stood at the call; or what giving
-- up the node may name
abbrev pub IsOddPop : ℕ → Address → PageState → Oddity
IsOddPop first head s page at value =
    IsOddNewest s.told s.count head page at value
    ⊎ IsMeanwhile (IsOddGivingUp First first head) s page at value

abbrev pub IsOddDrop : ℕ → Address → PageState → Oddity
IsOddDrop first head s page at value =
    IsOddOldest s.told s.count head page at value
    ⊎ IsMeanwhile (IsOddGivingUp Last first head) s page at value
