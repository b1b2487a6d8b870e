-- A LOB in pages.
--     IsLob pages lob      these pages hold this LOB, and each of its entries stands in one of its
--         lists
--     IsLobBut pages lob loose      the same, but these entries stand in no list
--     lob_pages, lob_spans      the pages that it owns, and all their bytes: what the relation
--         rests on
--     lob_parts      what its lists, entries and data rest on, part by part
use Rattle.std.specs.Prelude.{◌≡◌, ◌⊎◌, ℕ, ◌+◌, ◌*◌, ◌<◌, ◌≤◌, ◌==◌, cond, List, [], ◌∷◌, ◌++◌, map, length, Option, Some}
use Rattle.page_model.specs.Pages.{Pages, Address, field, bytes_at, null_page}
use Rattle.page_model.specs.Spans.{Span, ArePairwiseApart}
use Rattle.page_model.specs.Lists.{IsList, base_span}
use Rattle.store_data.specs.Store.{Version, Piece, Lob}
use Rattle.lob_model.specs.Pieces.{versions, place_of, head_place, AreFalling, AreFull}
use Rattle.lob_model.specs.Places.{heads_base, free_base, versions_base, entry_span, head_span, first_span, whole_page, data_at, data_room, data_span, AreEntryPlaces, IsSteady}
use Rattle.lob_model.specs.declared.layout.TheConstants.{NUMBER, CHAIN, TYPE, FIRST_TYPE, DATA_TYPE, INDEX_TYPE, LOB_VERSION, FIRST_COUNT, FIRST_ROOM, DATA_ROOM, INDEX_COUNT, CREATOR, MODIFIER, CREATOR_UNDO, MODIFIER_UNDO, PAGE, LENGTH, VERSION}

-- a page of this type, which tells its own number
pub record IsPage (pages : Pages) (type page : ℕ) : Type 0 where
  pub there : page < length pages
  pub number : field pages page NUMBER 4 ≡ page
  pub type' : field pages page TYPE 2 ≡ type

-- from the page the chain leads through these index pages and ends
abbrev pub IsChain : Pages → ℕ → List ℕ → Type 0
IsChain pages page [] = field pages page CHAIN 4 ≡ null_page
IsChain pages page (next ∷ more) =
    (field pages page CHAIN 4 ≡ next) × IsPage pages INDEX_TYPE next × IsChain pages next more

-- the fields of the entry there, from the creator on, are those of the version
pub record IsEntryOf (pages : Pages) (a : Address) (x : Version) : Type 0 where
  pub creator : field pages a.page (a.at + CREATOR) 6 ≡ x.creator
  pub modifier : field pages a.page (a.at + MODIFIER) 6 ≡ x.modifier
  pub creator_undo : field pages a.page (a.at + CREATOR_UNDO) 4 ≡ x.creator_undo
  pub modifier_undo : field pages a.page (a.at + MODIFIER_UNDO) 4 ≡ x.modifier_undo
  pub page : field pages a.page (a.at + PAGE) 4 ≡ x.page
  pub long : field pages a.page (a.at + LENGTH) 4 ≡ length x.bytes
  pub number : field pages a.page (a.at + VERSION) 4 ≡ x.number

-- its data stands in its page, which is a data page or the LOB's first page
pub record HasData (pages : Pages) (first : ℕ) (x : Version) : Type 0 where
  pub place : x.at ≡ data_at first x.page
  pub fits : length x.bytes ≤ data_room first x.page
  pub bytes : bytes_at pages x.page (data_at first x.page) (length x.bytes) ≡ x.bytes
  pub type' : (x.page ≡ first) ⊎ IsPage pages DATA_TYPE x.page

pub record IsVersion (pages : Pages) (first : ℕ) (x : Version) : Type 0 where
  pub entry : IsEntryOf pages x.place x
  pub «data» : HasData pages first x

abbrev pub AreVersions : Pages → ℕ → List Version → Type 0
AreVersions pages first [] = Unit {0}
AreVersions pages first (x ∷ more) = IsVersion pages first x × AreVersions pages first more

-- older versions have no versions of their own
abbrev pub AreBare : Pages → List Version → Type 0
AreBare pages [] = Unit {0}
AreBare pages (x ∷ more) = IsList pages (versions_base x.place) [] × AreBare pages more

-- the version list of each head
abbrev pub HaveLists : Pages → List Piece → Type 0
HaveLists pages [] = Unit {0}
HaveLists pages (p ∷ more) =
    IsList pages (versions_base p.head.place) (map place_of p.older) × AreBare pages p.older
    × HaveLists pages more

-- the entries that stand in lists, and those that don't
abbrev pub entries : Lob → List Address → List Address
entries lob loose = map place_of (versions lob.pieces) ++ (lob.free ++ loose)

-- how many entries the pages have
abbrev pub entry_count : Lob → ℕ
entry_count lob = FIRST_COUNT + INDEX_COUNT * length lob.index

-- no entry is lost, unless the LOB is being given back
abbrev pub AreAll : Lob → List Address → Type 0
AreAll lob loose = (length (entries lob loose) ≡ entry_count lob) ⊎ (length (entries lob loose) ≡ 0)

abbrev pub lob_parts : Lob → List Address → List Span
lob_parts lob loose =
    first_span lob.page ∷ base_span (heads_base lob.page) ∷ base_span (free_base lob.page)
    ∷ (map head_span lob.index ++
    (map entry_span (entries lob loose) ++ map (data_span lob.page) (versions lob.pieces)))

-- what holds of it beside its pages
pub record IsShaped (lob : Lob) (loose : List Address) : Type 0 where
  pub steady : IsSteady 0 lob.page (map head_place lob.pieces)
  pub falling : AreFalling (lob.version + 1) lob.pieces
  pub full : AreFull FIRST_ROOM DATA_ROOM lob.pieces
  pub places : AreEntryPlaces lob.page lob.index (entries lob loose)
  pub all : AreAll lob loose
  pub apart : ArePairwiseApart (lob_parts lob loose)

pub record IsLobBut (pages : Pages) (lob : Lob) (loose : List Address) : Type 0 where
  pub first : IsPage pages FIRST_TYPE lob.page
  pub version : field pages lob.page LOB_VERSION 4 ≡ lob.version
  pub chain : IsChain pages lob.page lob.index
  pub heads : IsList pages (heads_base lob.page) (map head_place lob.pieces)
  pub free : IsList pages (free_base lob.page) lob.free
  pub lists : HaveLists pages lob.pieces
  pub versions : AreVersions pages lob.page (versions lob.pieces)
  pub shape : IsShaped lob loose

abbrev pub IsLob : Pages → Lob → Type 0
IsLob pages lob = IsLobBut pages lob []

-- a LOB stands in the told pages from that first page on, and Q holds of both
abbrev pub IfLob : Option Pages → ℕ → (Pages → Lob → Type 0) → Type 0
IfLob told first Q = (pages : Pages) (lob : Lob) → told ≡ Some pages → lob.page ≡ first
    → IsLob pages lob → Q pages lob

-- ---- what it owns

-- the data pages of these versions, the first page apart
abbrev pub data_pages : ℕ → List Version → List ℕ
data_pages first [] = []
data_pages first (x ∷ more) =
    cond (x.page == first) (data_pages first more) (x.page ∷ data_pages first more)

abbrev pub lob_pages : Lob → List ℕ
lob_pages lob = lob.page ∷ (lob.index ++ data_pages lob.page (versions lob.pieces))

abbrev pub lob_spans : Lob → List Span
lob_spans lob = map whole_page (lob_pages lob)
