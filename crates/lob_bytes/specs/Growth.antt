-- A piece added to a LOB that is being built.
--     CanAddPiece reserved bytes pages lob      a piece of these bytes may be added
--     AddsPiece lob trx bytes reserved reserved' old new      what adding it leaves
--     first_version first node page trx bytes      the version that it has
--     WritesFirst      what writing the data of the first piece leaves
--     IsOddAdding      what adding it may name
use Rattle.std.specs.Prelude.{◌≡◌, ◌⊎◌, ℕ, ◌+◌, ◌*◌, ◌<◌, ◌≤◌, List, [], ◌∷◌, ◌++◌, length, Option, Some, None, IfNone, IfSome}
use Rattle.page_model.specs.Pages.{Pages, Address, bytes_at, field, null_page, null_address, page_bytes}
use Rattle.page_model.specs.Spans.{span, SameOutside, SetsField}
use Rattle.page_model.specs.Steps.{PageState, write_head}
use Rattle.page_space.specs.Map.{IsMap, map_spans, free_of}
use Rattle.store_data.specs.Store.{Version, Piece, Lob}
use Rattle.store_parts.specs.Keeps.{Keeps}
use Rattle.lob_model.specs.Pieces.{piece_versions, HaveLength}
use Rattle.lob_model.specs.Places.{data_at, heads_base}
use Rattle.lob_model.specs.Begin.{IsBuilding}
use Rattle.lob_model.specs.Changes.{with_pieces, piece}
use Rattle.lob_model.specs.Lobs.{IsLob, lob_pages, lob_spans}
use Rattle.lob_model.specs.declared.layout.TheConstants.{FIRST_LENGTH, FIRST_DATA, FIRST_ROOM, DATA_ROOM, FIRST_COUNT, INDEX_COUNT, HEADS}
use Rattle.engine_base.specs.declared.ids.PageNo.{PageNo}
use Rattle.lob_bytes.specs.declared.layout.TheConstants.{FIRST}
use Rattle.engine_base.specs.Faults.{Oddity}
use Rattle.file_lists.specs.Strange.{IsOddLink, IsOddAtBack}
use Rattle.page_space.specs.Answers.{IsSpentOrOdd}
use Rattle.lob_index.specs.Data.{MakesData}
use Rattle.lob_index.specs.Meanwhile.{IsMeanwhile}
use Rattle.engine_base.specs.Addresses.{address_of}
use Rattle.lob_pages.specs.declared.entry.Entry.{Entry}
use Rattle.lob_index.specs.Use.{AreUsed, TakesPages}
use Rattle.lob_index.specs.Taking.{index_taken, free_with, node_taken, node_room, IsOddNode}

-- ---- the piece

-- each piece there fills its place, and the bytes fit that of the next one
abbrev pub IsNext : ℕ → ℕ → List Piece → List ℕ → Type 0
IsNext room others [] bytes = length bytes ≤ room
IsNext room others (p ∷ more) bytes =
    HaveLength room (piece_versions p) × IsNext others others more bytes

-- the first version of a piece, made by that transaction
abbrev pub first_version : ℕ → Address → ℕ → ℕ → List ℕ → Version
first_version first node page trx bytes = record {
  place = node;
  number = 1;
  page = page;
  at = data_at first page;
  bytes = bytes;
  creator = trx;
  modifier = trx;
  creator_undo = 0;
  modifier_undo = 0;
}

-- the page that the data takes: none for the first piece, which stands in the first page
abbrev pub data_taken : ℕ → List Piece → List ℕ
data_taken page [] = []
data_taken page (p ∷ more) = page ∷ []

abbrev pub data_page : ℕ → ℕ → List Piece → ℕ
data_page first page [] = first
data_page first page (p ∷ more) = page

-- the LOB with a piece more, at that node, and with these nodes free
abbrev pub grown : Lob → ℕ → List Address → Version → Lob
grown lob index rest x =
    with_pieces (node_taken index rest lob) (lob.pieces ++ piece x [] ∷ [])

-- as many pages as four index pages have entries for
abbrev pub max_pieces : ℕ
max_pieces = FIRST_COUNT + INDEX_COUNT * 4

-- a LOB that is being built and a map stand, the LOB's pages are used, the bytes fit the next
-- piece's place, and the pages that it takes are reserved
pub record CanAddPiece (reserved : ℕ) (bytes : List ℕ) (pages : Pages) (lob : Lob) : Type 0 where
  pub lob' : IsLob pages lob
  pub building : IsBuilding lob
  pub begun : 1 ≤ lob.version
  pub few : length lob.index ≤ 4
  pub more : length lob.pieces < max_pieces
  pub next : IsNext FIRST_ROOM DATA_ROOM lob.pieces bytes
  pub map : IsMap pages
  pub used : AreUsed pages (lob_pages lob)
  pub reserve : length (data_taken 0 lob.pieces ++ index_taken 0 lob.free) ≤ reserved
  pub covered : reserved ≤ free_of pages

-- the piece stands behind the others, its data in the first page or in a page that was taken, its
-- entry in a node that was free or in a page that became an index page
pub record AddsPiece (lob : Lob) (trx : ℕ) (bytes : List ℕ) (reserved reserved' : ℕ)
    (old new : Pages) : Type 0 where
  pub page : ℕ
  pub index : ℕ
  pub node : Address
  pub rest : List Address
  pub first : free_with index lob.free ≡ node ∷ rest
  pub lob' : IsLob new (grown lob index rest
      (first_version lob.page node (data_page lob.page page lob.pieces) trx bytes))
  pub building : IsBuilding (grown lob index rest
      (first_version lob.page node (data_page lob.page page lob.pieces) trx bytes))
  pub few : length (index_taken index lob.free ++ lob.index) ≤ 4
  pub takes : TakesPages (data_taken page lob.pieces ++ index_taken index lob.free) old new
  pub spent : reserved' + length (data_taken page lob.pieces ++ index_taken index lob.free)
      ≡ reserved
  pub outside : SameOutside (map_spans ++ lob_spans (grown lob index rest
      (first_version lob.page node (data_page lob.page page lob.pieces) trx bytes))) old new
  pub keeps : Keeps [] (lob_pages lob) (lob_pages (grown lob index rest
      (first_version lob.page node (data_page lob.page page lob.pieces) trx bytes))) old new

-- ---- the data

-- first their number, and then the data
pub record WritesFirst (first : ℕ) (bytes : List ℕ) (old new : Pages) : Type 0 where
  pub mid : Pages
  pub size : SetsField first FIRST_LENGTH 4 (length bytes) old mid
  pub here : bytes_at new first FIRST_DATA (length bytes) ≡ bytes
  pub outside : SameOutside (span first FIRST_DATA (length bytes) ∷ []) mid new

-- ---- the steps

-- the page that was taken for the data, if any
abbrev pub data_list : Option PageNo → List ℕ
data_list None = []
data_list (Some page) = page.0 ∷ []

abbrev pub data_place : ℕ → Option PageNo → ℕ
data_place first None = first
data_place first (Some page) = page.0

-- a page was taken where there is a piece
pub record TakesData (lob : Lob) (taken : Option PageNo) (reserved reserved' : ℕ)
    (old new : Pages) : Type 0 where
  pub none : IfNone taken (lob.pieces ≡ [])
  pub some : IfSome taken (λ page. 1 ≤ length lob.pieces)
  pub takes : TakesPages (data_list taken) old new
  pub spent : reserved' + length (data_list taken) ≡ reserved
  pub outside : SameOutside map_spans old new

abbrev pub WritesData : ℕ → Option PageNo → ℕ → List ℕ → Pages → Pages → Type 0
WritesData first None trx bytes = WritesFirst first bytes
WritesData first (Some page) trx bytes = MakesData page.0 trx bytes

-- the entry of a piece's first version, in no list yet
pub record IsNewEntry (page size trx : ℕ) (e : Entry) : Type 0 where
  pub count : e.versions.length ≡ 0
  pub first : address_of e.versions.first ≡ null_address
  pub last : address_of e.versions.last ≡ null_address
  pub creator : e.creator.0 ≡ trx
  pub modifier : e.modifier.0 ≡ trx
  pub creator_undo : e.creator_undo.0 ≡ 0
  pub modifier_undo : e.modifier_undo.0 ≡ 0
  pub page' : e.page.0 ≡ page
  pub long : e.length ≡ size
  pub number : e.version.0 ≡ 1

-- a data page and an index page, the entry, and the list of heads
abbrev pub add_room : ℕ
add_room = (5 + 2 * write_head) + node_room + (page_bytes + write_head) + (60 + write_head)
    + (28 + 5 * write_head)

-- ---- what it may name

-- the page in the address of the first head: there is none, and the bytes need a page of their own;
-- or there is one, and no page is reserved
pub record IsNoRoom (told : Option Pages) (first len reserved page at value : ℕ) : Type 0 where
  pub same_page : page ≡ first
  pub same_place : at ≡ HEADS + FIRST
  pub reads : IfSome told (λ pages. value ≡ field pages first (HEADS + FIRST) 4)
  pub why : ((value ≡ null_page) × (FIRST_ROOM < len)) ⊎ (reserved ≡ 0)

abbrev pub IsOddTaking : PageState → ℕ → ℕ → ℕ → Oddity
IsOddTaking s first len reserved page at value =
    IsOddLink s.told s.count first (HEADS + FIRST) page at value
    ⊎ (IsNoRoom s.told first len reserved page at value
    ⊎ IsSpentOrOdd s.told s.count page at value)

-- as it stood at the call; or, as the call read it then, what taking a node may name, or the length
-- of the list of heads or the address of the last
abbrev pub IsOddAdding : PageState → ℕ → ℕ → ℕ → Oddity
IsOddAdding s first len reserved page at value =
    IsOddTaking s first len reserved page at value
    ⊎ (IsMeanwhile (λ t. IsOddNode t first) s page at value
    ⊎ IsMeanwhile (λ t. IsOddAtBack t (heads_base first)) s page at value)
