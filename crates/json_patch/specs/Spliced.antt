-- A new encoding laid from the document's bytes.
--     IsReplaced      the document's encoding with another value at the end of a path
use Rattle.std.specs.Prelude.{◌≡◌, ◌≤◌, ℕ, List, length, Some}
use Rattle.tree_model.specs.Tree.{Tree, IsTree}
use Rattle.tree_model.specs.Path.{Path}
use Rattle.binary_model.specs.Canonical.{canonical, max_document_bytes}
use Rattle.binary_model.specs.Change.{positions}
use Rattle.binary_model.proofs.in_place.PositionLemmas.{put_at}

-- these bytes are the canonical encoding of the tree with the value where the path leads
pub record IsReplaced (t : Tree) (path : Path) (v : Tree) (out : List ℕ) : Type 0 where
  pub is_tree : IsTree v
  pub ks : List ℕ
  pub found : positions path t ≡ Some ks
  pub encoded : out ≡ canonical (put_at ks v t)
  pub fits : length out ≤ max_document_bytes
