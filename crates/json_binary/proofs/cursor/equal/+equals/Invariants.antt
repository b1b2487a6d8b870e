use Rattle.std.proofs.Common.{◌≡◌, ℕ, ◌+◌, ◌*◌, map, length, drop}
use Rattle.tree_model.specs.Tree.{Trees, Members, depth, trees, trees_depth, tree_list, members, members_depth, member_list}
use Rattle.tree_model.specs.Same.{same_trees, same_members}
use Rattle.binary_model.specs.Layout.{count}
use Rattle.binary_model.specs.Stands.{AreKeys, AreElements, HoldValues}
use Rattle.json_tree.specs.View.{tree_of, pair_of}
use Rattle.json_binary.specs.Place.{container_of}
use Rattle.json_binary.proofs.UsageLemmas.{behind_first}
use Rattle.json_binary.proofs.EqualLemmas.{members_behind}
use Rattle.json_binary.proofs.cursor.equal.+equals.Given as goal

abbrev pub decreases-equals : goal.decreases-equals
decreases-equals l = 5 * depth (tree_of l.tree.now)

abbrev pub decreases-child_equals : goal.decreases-child_equals
decreases-child_equals l = 5 * depth (tree_of l.tree.now) + 1

abbrev pub decreases-member_equals : goal.decreases-member_equals
decreases-member_equals l = 5 * depth (tree_of l.member.now.value) + 2

abbrev pub decreases-elements_equal : goal.decreases-elements_equal
decreases-elements_equal l = 5 * trees_depth (trees (map tree_of l.items.now)) + 3

abbrev pub decreases-members_equal : goal.decreases-members_equal
decreases-members_equal l = 5 * members_depth (members (map pair_of l.pairs.now)) + 3

abbrev pub decreases-array_equals : goal.decreases-array_equals
decreases-array_equals l = 5 * trees_depth (trees (map tree_of l.items.now)) + 4

abbrev pub decreases-object_equals : goal.decreases-object_equals
decreases-object_equals l = 5 * members_depth (members (map pair_of l.pairs.now)) + 4

-- what is left tells whether all are the same
abbrev pub invariant-elements_equal-loop-k : goal.invariant-elements_equal-loop-k
invariant-elements_equal-loop-k l =
    (ts : Trees) (floor : ℕ) → AreElements l.bytes (container_of l.container) 0 floor ts → length (tree_list ts) ≡ count l.bytes (container_of l.container)
    → same_trees (behind_first l.k ts) (trees (map tree_of (drop l.k l.items))) ≡ same_trees ts (trees (map tree_of l.items))

abbrev pub invariant-members_equal-loop-k : goal.invariant-members_equal-loop-k
invariant-members_equal-loop-k l =
    (ms : Members) (start floor : ℕ) → AreKeys l.bytes (container_of l.container) 0 start (map (λ m. m.0) (member_list ms)) → HoldValues l.bytes (container_of l.container) 0 floor ms
    → length (member_list ms) ≡ count l.bytes (container_of l.container)
    → same_members (members_behind l.k ms) (members (map pair_of (drop l.k l.pairs))) ≡ same_members ms (members (map pair_of l.pairs))
