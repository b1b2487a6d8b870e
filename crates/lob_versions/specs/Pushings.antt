-- What pushing a version needs and leaves.
--     CanPush      a page is reserved, and another one where no node is free; the version is newer
--     PushesVersion      the piece is `pushed`, on a node and a page that are taken
--     IsOddPushing      what the call may name
use Rattle.std.specs.Prelude.{◌≡◌, ◌⊎◌, ℕ, ◌+◌, ◌*◌, ◌<◌, ◌≤◌, List, [], ◌∷◌, ◌++◌, length}
use Rattle.page_model.specs.Pages.{Pages, Address}
use Rattle.page_model.specs.Spans.{SameOutside}
use Rattle.page_model.specs.Steps.{PageState, write_head}
use Rattle.engine_base.specs.Faults.{Oddity}
use Rattle.page_space.specs.Map.{map_spans, free_of}
use Rattle.page_space.specs.Answers.{IsSpentOrOdd}
use Rattle.store_data.specs.Store.{Piece, Lob}
use Rattle.store_data.specs.Pieces.{pushed}
use Rattle.lob_model.specs.Lobs.{IsLob, lob_pages, lob_spans}
use Rattle.lob_model.specs.Changes.{with_pieces}
use Rattle.store_parts.specs.Keeps.{Keeps}
use Rattle.lob_index.specs.Use.{TakesPages}
use Rattle.lob_index.specs.Taking.{index_taken, free_with, node_taken, node_room, IsNoNode, IsOddNode}
use Rattle.lob_index.specs.Meanwhile.{IsMeanwhile}
use Rattle.lob_versions.specs.Pushes.{new_version, IsOddPush}

pub record CanPush (reserved : ℕ) (pages : Pages) (l : Lob) (q : Piece) (v : ℕ)
    (bytes : List ℕ) : Type 0 where
  pub reserve : length (index_taken 0 l.free) + 1 ≤ reserved
  pub covered : reserved ≤ free_of pages
  pub newer : q.head.number < v
  pub known : v < l.version + 1
  pub long : length bytes ≡ length q.head.bytes

-- the LOB with a version pushed on a node, and without the node among the free ones
abbrev pub lob_pushed : Lob → List Piece → Piece → List Piece → ℕ → List Address → Lob
lob_pushed l bs q cs index rest = with_pieces (node_taken index rest l) (bs ++ q ∷ cs)

pub record PushesVersion (l : Lob) (bs : List Piece) (q : Piece) (cs : List Piece)
    (head : Address) (v trx : ℕ) (bytes : List ℕ) (reserved reserved' : ℕ)
    (old new : Pages) : Type 0 where
  -- the page of the data, and the one that became an index page where no node was free
  pub page : ℕ
  pub index : ℕ
  pub node : Address
  pub rest : List Address
  pub first' : free_with index l.free ≡ node ∷ rest
  pub lob' : IsLob new
      (lob_pushed l bs (pushed node (new_version head page v trx bytes) q) cs index rest)
  pub takes : TakesPages (index_taken index l.free ++ page ∷ []) old new
  pub spent : reserved' + (length (index_taken index l.free) + 1) ≡ reserved
  pub outside : SameOutside (map_spans ++ lob_spans
      (lob_pushed l bs (pushed node (new_version head page v trx bytes) q) cs index rest)) old new
  pub keeps : Keeps [] (lob_pages (with_pieces l (bs ++ q ∷ cs))) (lob_pages
      (lob_pushed l bs (pushed node (new_version head page v trx bytes) q) cs index rest)) old new

-- the writes of taking a node and a page, and those of the push
abbrev pub push_room : ℕ → ℕ
push_room n = node_room + (5 + 2 * write_head) + (169 + n + 9 * write_head)

abbrev pub IsOddPage : ℕ → PageState → Oddity
IsOddPage first s page at value =
    IsNoNode s.told first page at value ⊎ IsSpentOrOdd s.told s.count page at value

abbrev pub IsOddPushing : ℕ → Address → PageState → Oddity
IsOddPushing first head s page at value =
    IsOddNode s first page at value
    ⊎ (IsMeanwhile (IsOddPage first) s page at value
    ⊎ IsMeanwhile (IsOddPush head) s page at value)
