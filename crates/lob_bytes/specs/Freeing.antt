-- The last piece of a LOB given up.
--     CanFree lob ps x pages      the LOB whose pieces are ps, and behind them one of the version x
--         alone, stands, and so does a map
--     FreesPiece lob ps x old new      what giving up that piece leaves
--     IsOddFreeing      what that may name
use Rattle.std.specs.Prelude.{◌≡◌, ◌⊎◌, ℕ, ◌+◌, ◌*◌, ◌<◌, Bool, true, false, List, [], ◌∷◌, ◌++◌, Option, Some, None, IfSome}
use Rattle.page_model.specs.Pages.{Pages, Address, address_at, field, page_bytes}
use Rattle.page_model.specs.Spans.{SameOutside}
use Rattle.page_model.specs.Steps.{PageState, write_head}
use Rattle.engine_base.specs.Faults.{Oddity}
use Rattle.engine_base.specs.Addresses.{address_of}
use Rattle.file_lists.specs.Strange.{IsOddLink, IsOddBefore, IsOddAtFront}
use Rattle.page_space.specs.Map.{IsMap, map_spans}
use Rattle.page_space.specs.Answers.{IsRaisedOrNotUsed}
use Rattle.store_data.specs.Store.{Version, Piece, Lob}
use Rattle.store_parts.specs.Keeps.{Keeps}
use Rattle.lob_model.specs.Places.{heads_base, free_base}
use Rattle.lob_model.specs.Changes.{with_pieces, piece}
use Rattle.lob_model.specs.Lobs.{IsLob, lob_pages, lob_spans, data_pages}
use Rattle.lob_model.specs.declared.layout.TheConstants.{HEADS, ENTRY}
use Rattle.lob_pages.specs.Entries.{FitsPage}
use Rattle.lob_index.specs.Use.{AreUsed, GivesPages}
use Rattle.lob_index.specs.Data.{IsOddDataPage}
use Rattle.lob_index.specs.Meanwhile.{IsMeanwhile}
use Rattle.lob_bytes.specs.declared.layout.TheConstants.{LAST, LAST_AT}
use Rattle.lob_bytes.specs.declared.last.Last.{Last}

-- the LOB, one piece of one version behind the others
abbrev pub ended : Lob → List Piece → Version → Lob
ended lob ps x = with_pieces lob (ps ++ piece x [] ∷ [])

pub record CanFree (lob : Lob) (ps : List Piece) (x : Version) (pages : Pages) : Type 0 where
  pub lob' : IsLob pages (ended lob ps x)
  pub map : IsMap pages
  pub used : AreUsed pages (lob_pages (ended lob ps x))

abbrev pub has_pieces : List Piece → Bool
has_pieces [] = false
has_pieces (p ∷ more) = true

-- behind the last piece no node is free any more: its entries stand in no list
abbrev pub freed_nodes : List Piece → Address → List Address → List Address
freed_nodes [] node free = []
freed_nodes (p ∷ more) node free = node ∷ free

-- the page of the piece's data is free, unless it is the LOB's first page, and its node is the
-- first of the free ones
pub record FreesPiece (lob : Lob) (ps : List Piece) (x : Version) (old new : Pages) : Type 0 where
  pub lob' : IsLob new (record lob { pieces = ps; free = freed_nodes ps x.place lob.free })
  pub gives : GivesPages (data_pages lob.page (x ∷ [])) old new
  pub outside : SameOutside (map_spans ++ lob_spans (with_pieces lob ps)) old new
  pub keeps : Keeps [] (lob_pages (ended lob ps x)) (lob_pages (with_pieces lob ps)) old new

-- three writes in the list of heads, five in that of the free nodes, and two in the map
abbrev pub free_room : ℕ
free_room = 49 + 10 * write_head

-- ---- the steps

abbrev pub IsLast : List Piece → Version → Option Last → Type 0
IsLast ps x None = ⊥
IsLast ps x (Some l) =
    (address_of l.node ≡ x.place) × (l.page.0 ≡ x.page) × (l.left ≡ has_pieces ps)

abbrev pub IsFitLast : ℕ → Option Last → Type 0
IsFitLast count found = IfSome found
    (λ l. FitsPage count (address_of l.node) × (l.page.0 < count))

-- the node of the piece that went is given up
pub record GivesEntry (lob : Lob) (node : Address) (old new : Pages) : Type 0 where
  pub lob' : IsLob new (record lob { free = freed_nodes lob.pieces node lob.free })
  pub outside : SameOutside (lob_spans lob) old new

-- ---- what it may name

-- the address of the last node is none, or its offset is one at which no entry fits
pub record IsOddLastPlace (told : Option Pages) (first page at value : ℕ) : Type 0 where
  pub same_page : page ≡ first
  pub same_place : at ≡ HEADS + LAST_AT
  pub past : page_bytes < value + ENTRY
  pub reads : IfSome told (λ pages. value ≡ field pages first (HEADS + LAST_AT) 2)

abbrev pub IsOddLast : Option Pages → ℕ → ℕ → Oddity
IsOddLast told count first page at value =
    IsOddLink told count first (HEADS + LAST) page at value
    ⊎ IsOddLastPlace told first page at value

-- the address of the last node
abbrev pub IsLastNode : Option Pages → ℕ → Address → Type 0
IsLastNode told first node = IfSome told (λ pages. node ≡ address_at pages first (HEADS + LAST))

abbrev pub IsOddRead : Option Pages → ℕ → ℕ → Oddity
IsOddRead told count first page at value =
    IsOddLast told count first page at value
    ⊎ ((node : Address) × IsLastNode told first node
    × IsOddDataPage told count node page at value)

-- an address, a page or the length of the list of heads, as each stood at the call; or, as the call
-- read them then, the length of the list of free nodes, the address of the first, the count of free
-- pages, or the byte of the map with the page's bit
abbrev pub IsOddFreeing : PageState → ℕ → Oddity
IsOddFreeing s first page at value =
    IsOddRead s.told s.count first page at value
    ⊎ (((node : Address) × IsLastNode s.told first node
    × IsOddBefore s (heads_base first) node page at value)
    ⊎ (IsMeanwhile (λ t. IsOddAtFront t (free_base first)) s page at value
    ⊎ ((k : ℕ) × IsMeanwhile (λ t. IsRaisedOrNotUsed t.told t.count k) s page at value)))
