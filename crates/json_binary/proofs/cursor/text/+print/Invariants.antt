use Rattle.std.proofs.Common.{◌≡◌, ℕ, ◌+◌, ◌*◌, ◌≤◌, ◌++◌, map, length, false}
use Rattle.tree_model.specs.Tree.{Trees, Members, trees_depth, members_depth, tree_list, member_list}
use Rattle.tree_model.specs.Text.{trees_text, members_text}
use Rattle.binary_model.specs.Layout.{count}
use Rattle.binary_model.specs.Stands.{AreKeys, AreElements, HoldValues}
use Rattle.json_binary.specs.Place.{container_of}
use Rattle.json_tree.specs.Writing.{Extends}
use Rattle.json_binary.proofs.UsageLemmas.{behind_first}
use Rattle.json_binary.proofs.EqualLemmas.{members_behind}
use Rattle.json_binary.proofs.cursor.text.+print.Given as goal

abbrev pub decreases-push_value : goal.decreases-push_value
decreases-push_value l = 5 * l.nesting + 2

abbrev pub decreases-push_array : goal.decreases-push_array
decreases-push_array l = 5 * l.nesting + 1

abbrev pub decreases-push_object : goal.decreases-push_object
decreases-push_object l = 5 * l.nesting + 1

abbrev pub decreases-push_elements : goal.decreases-push_elements
decreases-push_elements l = 5 * l.nesting + 4

abbrev pub decreases-push_members : goal.decreases-push_members
decreases-push_members l = 5 * l.nesting + 4

abbrev pub decreases-push_child : goal.decreases-push_child
decreases-push_child l = 5 * l.nesting + 3

-- what was written, and the text of what is left, is the whole, for each list of trees that the values stand for
abbrev pub invariant-push_elements-loop-k : goal.invariant-push_elements-loop-k
invariant-push_elements-loop-k l =
    let c = container_of l.container in
    ((ts : Trees) (floor : ℕ) → AreElements l.bytes c 0 floor ts → length (tree_list ts) ≡ count l.bytes c → trees_depth ts ≤ l.nesting
    → (l.out.items ++ trees_text l.later (behind_first l.k ts)) ≡ (l.initial.out.items ++ trees_text false ts))
    × Extends l.initial.out.items l.out.items

abbrev pub invariant-push_members-loop-k : goal.invariant-push_members-loop-k
invariant-push_members-loop-k l =
    let c = container_of l.container in
    ((ms : Members) (start floor : ℕ) → AreKeys l.bytes c 0 start (map (λ m. m.0) (member_list ms)) → HoldValues l.bytes c 0 floor ms
    → length (member_list ms) ≡ count l.bytes c → members_depth ms ≤ l.nesting
    → (l.out.items ++ members_text l.later (members_behind l.k ms)) ≡ (l.initial.out.items ++ members_text false ms))
    × Extends l.initial.out.items l.out.items
