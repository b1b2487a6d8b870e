use Rattle.std.proofs.Common.{◌≡◌, ◌+◌, ◌-◌, ◌*◌, ◌^◌, ◌≤◌, ◌++◌, map, drop}
use Rattle.tree_model.specs.Tree.{depth, trees, trees_depth, members, members_depth, AreTrees, HoldTrees}
use Rattle.binary_model.specs.Layout.{small, large}
use Rattle.binary_model.specs.Canonical.{all_behind, measures, member_measures}
use Rattle.json_tree.specs.View.{tree_of, pair_of}
use Rattle.json_binary.specs.Sizes.{capped, all_extents, member_extents}
use Rattle.json_binary.proofs.codec.sizes.+measure.Given as goal

abbrev pub decreases-measure : goal.decreases-measure
decreases-measure l = 3 * depth (tree_of l.tree.now)

abbrev pub decreases-measure_array : goal.decreases-measure_array
decreases-measure_array l = 3 * trees_depth (trees (map tree_of l.items.now)) + 2

abbrev pub decreases-measure_object : goal.decreases-measure_object
decreases-measure_object l = 3 * members_depth (members (map pair_of l.items.now)) + 2

abbrev pub decreases-measure_elements : goal.decreases-measure_elements
decreases-measure_elements l = 3 * trees_depth (trees (map tree_of l.items.now)) + 1

abbrev pub decreases-measure_members : goal.decreases-measure_members
decreases-measure_members l = 3 * members_depth (members (map pair_of l.items.now)) + 1

-- what is measured, and then what is left, is the whole
abbrev pub invariant-measure_elements-loop-item : goal.invariant-measure_elements-loop-item
invariant-measure_elements-loop-item l =
    let rest = trees (map tree_of (drop l.item-index l.items)) in
    let all = trees (map tree_of l.items) in
    (capped (l.behind.small + all_behind small (measures rest)) ≡ capped (all_behind small (measures all)))
    × (capped (l.behind.large + all_behind large (measures rest)) ≡ capped (all_behind large (measures all)))
    × (l.behind.small ≤ 2 ^ 64 - 1) × (l.behind.large ≤ 2 ^ 64 - 1)
    × ((l.plan.items ++ all_extents rest) ≡ (l.initial.plan.items ++ all_extents all)) × (AreTrees rest → AreTrees all)

abbrev pub invariant-measure_members-loop-item : goal.invariant-measure_members-loop-item
invariant-measure_members-loop-item l =
    let rest = members (map pair_of (drop l.item-index l.items)) in
    let all = members (map pair_of l.items) in
    (capped (l.behind.small + all_behind small (member_measures rest)) ≡ capped (all_behind small (member_measures all)))
    × (capped (l.behind.large + all_behind large (member_measures rest)) ≡ capped (all_behind large (member_measures all)))
    × (l.behind.small ≤ 2 ^ 64 - 1) × (l.behind.large ≤ 2 ^ 64 - 1)
    × ((l.plan.items ++ member_extents rest) ≡ (l.initial.plan.items ++ member_extents all)) × (HoldTrees rest → HoldTrees all)
