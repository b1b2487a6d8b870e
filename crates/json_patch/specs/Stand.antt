-- Trees that stand in place.
use Rattle.std.specs.Prelude.{◌≡◌, ◌≤◌, ℕ, List, length}
use Rattle.tree_model.specs.Tree.{Tree, Trees, tree_list}
use Rattle.binary_model.specs.Layout as layout
use Rattle.binary_model.specs.Layout.{count, end, entries_end, values_floor}
use Rattle.binary_model.specs.Stands.{IsValue, AreElements}
use Rattle.json_binary.specs.declared.cursor.place.Container.{Container}
use Rattle.json_binary.specs.Place.{container_of, IsFramed}

-- the bytes stand for a tree at the spot
abbrev pub HasValue : List ℕ → layout.Spot → Type 0
HasValue bytes s = (t : Tree) × IsValue bytes t s

-- these are the values of a container, behind its entries and keys
pub record Values (bytes : List ℕ) (c : layout.Container) (ts : Trees) : Type 0 where
  pub number : count bytes c ≡ length (tree_list ts)
  pub elements : AreElements bytes c 0 (values_floor bytes c) ts
  pub floor : (entries_end bytes c ≤ values_floor bytes c) × (values_floor bytes c ≤ end bytes c)

abbrev pub HasValues : List ℕ → Container → Type 0
HasValues bytes c = IsFramed bytes c × ((ts : Trees) × Values bytes (container_of c) ts)
