-- What pushing a version with a node and a page in hand needs and leaves.
--     new_version      the version as it is pushed
--     IsBareCopy      the fields of an entry, in one without versions of its own
--     IsReady      the node is in no list, and the page is none of the LOB's
--     PushesAt      the piece is `pushed`
use Rattle.std.specs.Prelude.{◌≡◌, ℕ, ◌+◌, ◌<◌, List, [], ◌∷◌, ◌++◌, length}
use Rattle.page_model.specs.Pages.{Pages, Address, null_address}
use Rattle.page_model.specs.Spans.{IsApartFromAll, SameOutside}
use Rattle.page_model.specs.Steps.{PageState}
use Rattle.engine_base.specs.Faults.{Oddity}
use Rattle.engine_base.specs.Addresses.{address_of}
use Rattle.file_lists.specs.Strange.{IsOddAtFront}
use Rattle.store_data.specs.Store.{Version, Piece, Lob}
use Rattle.store_data.specs.Pieces.{pushed}
use Rattle.lob_model.specs.Lobs.{IsLob, IsLobBut, lob_spans}
use Rattle.lob_model.specs.Changes.{with_pieces}
use Rattle.lob_model.specs.Places.{versions_base, whole_page}
use Rattle.lob_model.specs.declared.layout.TheConstants.{DATA}
use Rattle.lob_pages.specs.declared.entry.Entry.{Entry}
use Rattle.lob_index.specs.Meanwhile.{IsMeanwhile}

-- made by one transaction, of which no undo number is told
abbrev pub new_version : Address → ℕ → ℕ → ℕ → List ℕ → Version
new_version head page v trx bytes = record {
  place = head;
  number = v;
  page = page;
  at = DATA;
  bytes = bytes;
  creator = trx;
  modifier = trx;
  creator_undo = 0;
  modifier_undo = 0;
}

-- an entry with these fields, and no versions of its own
pub record IsBareCopy (e copy : Entry) : Type 0 where
  pub count : copy.versions.length ≡ 0
  pub first : address_of copy.versions.first ≡ null_address
  pub last : address_of copy.versions.last ≡ null_address
  pub creator : copy.creator.0 ≡ e.creator.0
  pub modifier : copy.modifier.0 ≡ e.modifier.0
  pub creator_undo : copy.creator_undo.0 ≡ e.creator_undo.0
  pub modifier_undo : copy.modifier_undo.0 ≡ e.modifier_undo.0
  pub page : copy.page.0 ≡ e.page.0
  pub long : copy.length ≡ e.length
  pub number : copy.version.0 ≡ e.version.0

pub record IsReady (pages : Pages) (l : Lob) (bs : List Piece) (p : Piece) (cs : List Piece)
    (node : Address) (page v : ℕ) (bytes : List ℕ) : Type 0 where
  pub lob' : IsLobBut pages (with_pieces l (bs ++ p ∷ cs)) (node ∷ [])
  pub fresh : IsApartFromAll (lob_spans (with_pieces l (bs ++ p ∷ cs))) (whole_page page)
  pub newer : p.head.number < v
  pub known : v < l.version + 1
  pub long : length bytes ≡ length p.head.bytes

pub record PushesAt (l : Lob) (bs : List Piece) (p : Piece) (cs : List Piece) (node : Address)
    (x : Version) (old new : Pages) : Type 0 where
  pub lob' : IsLob new (with_pieces l (bs ++ pushed node x p ∷ cs))
  pub outside : SameOutside
      (whole_page x.page ∷ lob_spans (with_pieces l (bs ++ p ∷ cs))) old new

-- the length of the version list or the address of its first node, as the call read them
abbrev pub IsOddPush : Address → PageState → Oddity
IsOddPush head = IsMeanwhile (λ t. IsOddAtFront t (versions_base head))
