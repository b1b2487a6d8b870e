-- A statement's edits as the definitions have them.
use Rattle.std.specs.Prelude.{ℕ, ◌<◌, ◌≤◌, map, length}
use Rattle.tree_model.specs.Tree.{Tree}
use Rattle.tree_model.specs.Path.{Path}
use Rattle.tree_model.specs.Edit as model
use Rattle.json_tree.specs.View.{tree_of}
use Rattle.json_edit.specs.declared.pairs.Pair.{Pair}
use Rattle.json_edit.specs.declared.pairs.Edit.{Edit}
use Rattle.json_edit.specs.declared.pairs.Edit.TheVariants.{Set, Replace, Remove}

abbrev pub max_pairs : ℕ
max_pairs = 256

-- so many pairs or paths may a statement have
abbrev pub IsCount : ℕ → Type 0
IsCount n = (1 ≤ n) × (n ≤ max_pairs)

abbrev pub HasLeg : Path → Type 0
HasLeg p = 0 < length p

abbrev pub assigned : Pair → Path × Tree
assigned p = (p.path, tree_of p.value)

abbrev pub edit_of : Edit → model.Edit
edit_of (Set pairs) = model.Set pairs
edit_of (Replace pairs) = model.Replace pairs
edit_of (Remove paths) = model.Remove paths
