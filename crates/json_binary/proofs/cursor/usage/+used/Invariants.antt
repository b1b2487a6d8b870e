use Rattle.std.proofs.Common.{◌≡◌, ℕ, ◌+◌, ◌-◌, ◌*◌, ◌^◌, ◌≤◌, length}
use Rattle.tree_model.specs.Tree.{Trees, tree_list, trees_depth}
use Rattle.binary_model.specs.Layout.{count}
use Rattle.binary_model.specs.Stands.{AreElements, elements_used}
use Rattle.json_binary.specs.Place.{container_of}
use Rattle.json_binary.specs.Sizes.{capped}
use Rattle.json_binary.proofs.UsageLemmas.{behind_first}
use Rattle.json_binary.proofs.cursor.usage.+used.Given as goal

abbrev pub decreases-value_used : goal.decreases-value_used
decreases-value_used l = 5 * l.nesting + 2

abbrev pub decreases-array_used : goal.decreases-array_used
decreases-array_used l = 5 * l.nesting + 1

abbrev pub decreases-object_used : goal.decreases-object_used
decreases-object_used l = 5 * l.nesting + 1

abbrev pub decreases-values_used : goal.decreases-values_used
decreases-values_used l = 5 * l.nesting + 4

abbrev pub decreases-behind_used : goal.decreases-behind_used
decreases-behind_used l = 5 * l.nesting + 3

-- what was added, and what is left, is the whole, for each list of trees that the values stand for
abbrev pub invariant-values_used-loop-k : goal.invariant-values_used-loop-k
invariant-values_used-loop-k l =
    let c = container_of l.container in
    (l.total ≤ 2 ^ 64 - 1) × ((ts : Trees) (floor : ℕ) → AreElements l.bytes c 0 floor ts → length (tree_list ts) ≡ count l.bytes c → trees_depth ts ≤ l.nesting
    → capped (l.total + elements_used l.bytes c l.k (behind_first l.k ts)) ≡ capped (elements_used l.bytes c 0 ts))
