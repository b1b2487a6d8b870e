use Rattle.std.proofs.Common.{◌≡◌, ◌+◌, ◌*◌, ◌^◌, ◌≤◌, ◌++◌, map, drop}
use Rattle.tree_model.specs.Tree.{depth, trees, trees_depth, members, members_depth}
use Rattle.binary_model.specs.Canonical.{all_behind, values_behind, measures, spellings, member_measures, member_spellings}
use Rattle.json_tree.specs.View.{tree_of, pair_of}
use Rattle.json_binary.specs.View.{form_of}
use Rattle.json_binary.specs.Sizes.{all_extents, member_extents}
use Rattle.json_tree.specs.Writing.{Extends}
use Rattle.json_binary.proofs.codec.encoder.+write.Given as goal

abbrev pub decreases-push_value : goal.decreases-push_value
decreases-push_value l = 4 * depth (tree_of l.tree.now)

abbrev pub decreases-push_behind : goal.decreases-push_behind
decreases-push_behind l = 4 * depth (tree_of l.tree.now) + 1

abbrev pub decreases-push_elements : goal.decreases-push_elements
decreases-push_elements l = 4 * trees_depth (trees (map tree_of l.items.now)) + 2

abbrev pub decreases-push_members : goal.decreases-push_members
decreases-push_members l = 4 * members_depth (members (map pair_of l.items.now)) + 2

abbrev pub decreases-push_array : goal.decreases-push_array
decreases-push_array l = 4 * trees_depth (trees (map tree_of l.items.now)) + 3

abbrev pub decreases-push_object : goal.decreases-push_object
decreases-push_object l = 4 * members_depth (members (map pair_of l.items.now)) + 3

abbrev pub invariant-push_elements-loop-item : goal.invariant-push_elements-loop-item
invariant-push_elements-loop-item l =
    let form = form_of l.form in
    let rest = trees (map tree_of (drop l.item-index l.items)) in
    let all = trees (map tree_of l.items) in
    ((l.out.items ++ values_behind form (spellings rest)) ≡ (l.initial.out.items ++ values_behind form (spellings all)))
    × Extends l.initial.out.items l.out.items
    × (l.rest ≡ all_extents rest)
    × (all_behind form (measures rest) ≤ 2 ^ 24)

abbrev pub invariant-push_members-loop-item : goal.invariant-push_members-loop-item
invariant-push_members-loop-item l =
    let form = form_of l.form in
    let rest = members (map pair_of (drop l.item-index l.items)) in
    let all = members (map pair_of l.items) in
    ((l.out.items ++ values_behind form (member_spellings rest)) ≡ (l.initial.out.items ++ values_behind form (member_spellings all)))
    × Extends l.initial.out.items l.out.items
    × (l.rest ≡ member_extents rest)
    × (all_behind form (member_measures rest) ≤ 2 ^ 24)
