use Rattle.std.proofs.Common.{◌≡◌, drop, map}
use Rattle.json_tree.specs.View.{tree_of}
use Rattle.tree_model.specs.Edit.{set_all}
use Rattle.json_edit.specs.Edits.{assigned}
use Rattle.json_edit.proofs.statement.set_all.Given as goal

-- what the pairs that are left make of the tree so far is what all make of it
abbrev pub invariant-loop-pair : goal.invariant-loop-pair
invariant-loop-pair l = set_all (map assigned (drop l.pair-index l.pairs)) (tree_of l.tree) ≡ set_all (map assigned l.pairs) (tree_of l.initial.tree)
