-- What the calls that change a LOB make of its pages, each as the facts that it leaves. That the
-- changed LOB stands there then are laws: the last of the writes is a change of one list, and of
-- the fields of one entry.
--     Pushing, Popping, Dropping      a version put before the head's, taken back, and the oldest
--         one given up
--     Adding, Freeing      a piece put behind the others, and the last one given up
--     Refilling      an index page put in front of the chain
use Rattle.std.specs.Prelude.{◌≡◌, ℕ, ◌+◌, ◌<◌, List, [], ◌∷◌, ◌++◌, map, length}
use Rattle.page_model.specs.Pages.{Pages, Address, field}
use Rattle.page_model.specs.Spans.{Span, span, IsApartFromAll, SameOutside}
use Rattle.page_model.specs.Lists.{IsList, list_spans, base_span}
use Rattle.store_data.specs.Store.{Version, Piece, Lob}
use Rattle.lob_model.specs.Pieces.{place_of, head_place, AreFull}
use Rattle.lob_model.specs.Places.{heads_base, free_base, versions_base, data_span, whole_page, IsSteady, index_entries}
use Rattle.lob_model.specs.Lobs.{IsPage, IsEntryOf, HasData, IsLob, IsLobBut, entries, entry_count, lob_parts, lob_spans}
use Rattle.lob_model.specs.declared.layout.TheConstants.{CHAIN, CREATOR, FIRST_ROOM, DATA_ROOM, INDEX_TYPE}

abbrev pub with_pieces : Lob → List Piece → Lob
with_pieces lob pieces = record lob { pieces = pieces }

abbrev pub piece : Version → List Version → Piece
piece head older = record { head = head; older = older }

-- the fields of an entry behind its version list
abbrev pub fields_span : Address → Span
fields_span a = span a.page (a.at + CREATOR) 32

-- the version list of a head, with a node put in front
abbrev pub push_spans : Piece → Address → List Span
push_spans p node = list_spans (versions_base p.head.place)
    (node ∷ map place_of p.older) ++ fields_span p.head.place ∷ []

-- behind the taking of the node and the writing of the data
pub record Pushing (old new : Pages) (l : Lob) (bs : List Piece) (p : Piece) (cs : List Piece)
    (x : Version) (node : Address) : Type 0 where
  pub lob : IsLobBut old (with_pieces l (bs ++ p ∷ cs)) (node ∷ [])
  -- the node has the fields of the head, and no versions of its own
  pub copy : IsEntryOf old node p.head
  pub bare : IsList old (versions_base node) []
  -- the data stands in a page that the LOB doesn't have
  pub «data» : HasData old l.page x
  pub fresh : IsApartFromAll (lob_spans (with_pieces l (bs ++ p ∷ cs))) (whole_page x.page)
  pub newer : p.head.number < x.number
  pub known : x.number < l.version + 1
  pub long : length x.bytes ≡ length p.head.bytes
  -- the node is the first of the head's versions, and the head has the new fields
  pub outside : SameOutside (push_spans p node) old new
  pub list : IsList new (versions_base p.head.place) (node ∷ map place_of p.older)
  pub here : IsEntryOf new p.head.place x

-- but for the giving back of the node and of the data page
pub record Popping (old new : Pages) (l : Lob) (bs : List Piece) (h x : Version)
    (more : List Version) (cs : List Piece) : Type 0 where
  pub lob : IsLob old (with_pieces l (bs ++ piece h (x ∷ more) ∷ cs))
  pub outside : SameOutside
      (list_spans (versions_base h.place)
      (x.place ∷ map place_of more) ++ fields_span h.place ∷ []) old new
  pub list : IsList new (versions_base h.place) (map place_of more)
  pub here : IsEntryOf new h.place x

-- the same
pub record Dropping (old new : Pages) (l : Lob) (bs : List Piece) (h : Version) (ys : List Version)
    (x : Version) (cs : List Piece) : Type 0 where
  pub lob : IsLob old (with_pieces l (bs ++ piece h (ys ++ x ∷ []) ∷ cs))
  pub outside : SameOutside
      (list_spans (versions_base h.place) (map place_of (ys ++ x ∷ []))) old new
  pub list : IsList new (versions_base h.place) (map place_of ys)

-- behind the taking of the node and the writing of its entry and of the data
pub record Adding (old new : Pages) (l : Lob) (ps : List Piece) (x : Version) : Type 0 where
  pub lob : IsLobBut old (with_pieces l ps) (x.place ∷ [])
  pub entry : IsEntryOf old x.place x
  pub bare : IsList old (versions_base x.place) []
  pub «data» : HasData old l.page x
  -- no part of the LOB stands where the data does
  pub room : IsApartFromAll (lob_parts (with_pieces l ps) (x.place ∷ [])) (data_span l.page x)
  pub steady : IsSteady 0 l.page (map head_place (ps ++ piece x [] ∷ []))
  pub known : x.number < l.version + 1
  pub full : AreFull FIRST_ROOM DATA_ROOM (ps ++ piece x [] ∷ [])
  pub outside : SameOutside
      (list_spans (heads_base l.page) (map head_place ps ++ x.place ∷ [])) old new
  pub list : IsList new (heads_base l.page) (map head_place (ps ++ piece x [] ∷ []))

-- but for the giving back of the node and of the data page
pub record Freeing (old new : Pages) (l : Lob) (ps : List Piece) (x : Version) : Type 0 where
  pub lob : IsLob old (with_pieces l (ps ++ piece x [] ∷ []))
  pub outside : SameOutside
      (list_spans (heads_base l.page) (map head_place ps ++ x.place ∷ [])) old new
  pub list : IsList new (heads_base l.page) (map head_place ps)

-- the page itself, its number in the first page, and the base of the free nodes are written
abbrev pub refill_spans : Lob → ℕ → List Span
refill_spans lob page = whole_page page ∷ span lob.page CHAIN 4 ∷ base_span
    (free_base lob.page) ∷ []

pub record Refilling (old new : Pages) (lob : Lob) (page : ℕ) : Type 0 where
  pub lob' : IsLob old lob
  pub none : lob.free ≡ []
  pub all : length (entries lob []) ≡ entry_count lob
  pub fresh : IsApartFromAll (lob_spans lob) (whole_page page)
  pub outside : SameOutside (refill_spans lob page) old new
  pub here : IsPage new INDEX_TYPE page
  pub next : field new lob.page CHAIN 4 ≡ page
  pub behind : field new page CHAIN 4 ≡ field old lob.page CHAIN 4
  pub list : IsList new (free_base lob.page) (index_entries page)
