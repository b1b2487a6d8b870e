-- Removals by several paths, one after the other.
--     Lighter      a tree that values were taken out of
--     Reached      the bytes while some of the paths are left, and their tree
use Rattle.std.specs.Prelude.{◌≡◌, ◌≤◌, ◌<◌, ℕ, Bool, true, false, List, length}
use Rattle.tree_model.specs.Tree.{Tree, depth}
use Rattle.tree_model.specs.Path.{Path}
use Rattle.binary_model.specs.Change.{all_removed}
use Rattle.json_patch.specs.Made.{StandFor, in_place}
use Rattle.json_patch.specs.Touched.{weight}

-- a tree that values were taken out of has fewer of them, else it has stayed
abbrev pub Lighter : Bool → Tree → Tree → Type 0
Lighter true other t = weight other < weight t
Lighter false other t = other ≡ t

-- from the bytes and tree that are reached, the paths left lead on to what all of them lead to from
-- the old ones
pub record Reached (bytes : List ℕ) (t : Tree) (paths left : List Path) (new : List ℕ)
    (took : Bool) : Type 0 where
  pub other : Tree
  pub leads_on : all_removed left (in_place new other) ≡ all_removed paths (in_place bytes t)
  pub stands : StandFor new other
  pub long : length new ≡ length bytes
  pub shallow : depth other ≤ depth t
  pub lighter : Lighter took other t
