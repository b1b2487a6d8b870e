use Rattle.std.proofs.Common.{◌≡◌, ℕ, ◌+◌, ◌*◌, length, nat_lt}
use Rattle.tree_model.specs.Tree.{Trees, tree_list, trees_depth}
use Rattle.binary_model.specs.Layout.{count}
use Rattle.binary_model.specs.Stands.{AreElements}
use Rattle.json_binary.specs.Place.{container_of}
use Rattle.json_binary.proofs.UsageLemmas.{behind_first}
use Rattle.json_binary.proofs.cursor.nesting.+nests.Given as goal

abbrev pub decreases-nests : goal.decreases-nests
decreases-nests l = 3 * l.most

abbrev pub decreases-child_nests : goal.decreases-child_nests
decreases-child_nests l = 3 * l.most + 1

abbrev pub decreases-values_nest : goal.decreases-values_nest
decreases-values_nest l = 3 * l.most + 2

-- what is left tells whether one of all nests more
abbrev pub invariant-values_nest-loop-k : goal.invariant-values_nest-loop-k
invariant-values_nest-loop-k l =
    (ts : Trees) (floor : ℕ) → AreElements l.bytes (container_of l.container) 0 floor ts → length (tree_list ts) ≡ count l.bytes (container_of l.container)
    → nat_lt l.most (trees_depth (behind_first l.k ts)) ≡ nat_lt l.most (trees_depth ts)
