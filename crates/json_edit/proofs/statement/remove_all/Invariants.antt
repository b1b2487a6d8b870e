use Rattle.std.proofs.Common.{◌≡◌, drop}
use Rattle.json_tree.specs.View.{tree_of}
use Rattle.tree_model.specs.Edit.{remove_all}
use Rattle.json_edit.proofs.statement.remove_all.Given as goal

-- what the paths that are left make of the tree so far is what all make of it
abbrev pub invariant-loop-path : goal.invariant-loop-path
invariant-loop-path l = remove_all (drop l.path-index l.paths) (tree_of l.tree) ≡ remove_all l.paths (tree_of l.initial.tree)
