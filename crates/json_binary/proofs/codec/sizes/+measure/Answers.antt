use Rattle.std.proofs.Common.{◌≡◌, ◌++◌, ◌+◌, ◌∙◌, true, false, ◌-◌, sym, ap, subst, arith, map, refl, length, drop, Result, Ok, Err, OnOk}
use Rattle.tree_model.specs.Tree.{trees, members, IsTree, AreTrees, HoldTrees, AreMembers}
use Rattle.tree_model.proofs.TreeLemmas.{member_list-members}
use Rattle.binary_model.specs.Layout.{small, large}
use Rattle.binary_model.specs.Canonical.{all_behind, measures, member_measures, keys_length}
use Rattle.json_tree.specs.View.{tree_of, pair_of}
use Rattle.json_binary.specs.Sizes.{capped, extent, all_extents, member_extents}
use Rattle.json_binary.proofs.SizeLemmas.{item_depth, member_depth, dropped, behind_step, noted_step, measures_length, member_measures_length, array_measured, object_measured, noted, inner_length}
use Rattle.json_binary.proofs.codec.sizes.+measure.Goals as goal

pub measure_array-returns-clause-measured : goal.measure_array-returns-clause-measured
measure_array-returns-clause-measured t c =
    let ts = trees (map tree_of c.args.items.now) in
    array_measured ts c.extent_for-extent.result (c.len.result - c.len-slot.result - 1) (c.extent_for-extent.ensures 0 (measures ts) (measures_length c.args.items.now) refl c.in_ok-behind.ensures.behind)

pub measure_array-returns-clause-plan : goal.measure_array-returns-clause-plan
measure_array-returns-clause-plan t c =
    let ts = trees (map tree_of c.args.items.now) in
    let is = c.extent_for-extent.ensures 0 (measures ts) (measures_length c.args.items.now) refl c.in_ok-behind.ensures.behind in
    let n = inner_length c.args.plan.now.items c.push.new.self.items c.measure_elements.new.plan.items (all_extents ts) _ c.len-slot.result c.len.result c.in_ok-push.ensures.items c.in_ok-behind.ensures.plan (c.len-slot.ensures ∙ c.args.plan.now.ok.0) (c.len.ensures ∙ c.measure_elements.new.plan.ok.0) in
    noted c.args.plan.now.items c.push.new.self.items c.measure_elements.new.plan.items (all_extents ts) _ _ (extent false 0 (measures ts) (length (all_extents ts))) c.len-slot.result c.in_ok-push.ensures.items c.in_ok-behind.ensures.plan (c.len-slot.ensures ∙ c.args.plan.now.ok.0)
    (is ∙ ap (extent false 0 (measures ts)) n)

pub measure_object-returns-clause-measured : goal.measure_object-returns-clause-measured
measure_object-returns-clause-measured t c =
    let ms = members (map pair_of c.args.items.now) in
    object_measured ms c.extent_for-extent.result (c.len.result - c.len-slot.result - 1) (c.extent_for-extent.ensures (keys_length ms) (member_measures ms) (member_measures_length c.args.items.now) c.keys_length.ensures c.in_ok-behind.ensures.behind)

pub measure_object-returns-clause-plan : goal.measure_object-returns-clause-plan
measure_object-returns-clause-plan t c =
    let ms = members (map pair_of c.args.items.now) in
    let is = c.extent_for-extent.ensures (keys_length ms) (member_measures ms) (member_measures_length c.args.items.now) c.keys_length.ensures c.in_ok-behind.ensures.behind in
    let n = inner_length c.args.plan.now.items c.push.new.self.items c.measure_members.new.plan.items (member_extents ms) _ c.len-slot.result c.len.result c.in_ok-push.ensures.items c.in_ok-behind.ensures.plan (c.len-slot.ensures ∙ c.args.plan.now.ok.0) (c.len.ensures ∙ c.measure_members.new.plan.ok.0) in
    noted c.args.plan.now.items c.push.new.self.items c.measure_members.new.plan.items (member_extents ms) _ _ (extent true (keys_length ms) (member_measures ms) (length (member_extents ms))) c.len-slot.result c.in_ok-push.ensures.items c.in_ok-behind.ensures.plan (c.len-slot.ensures ∙ c.args.plan.now.ok.0)
    (is ∙ ap (extent true (keys_length ms) (member_measures ms)) n)

pub measure_elements-measure-requires : goal.measure_elements-measure-requires
measure_elements-measure-requires t c =
    let d = item_depth c.args.items.now c.loop-item.item-index c.item-item.result c.loop-item-test.true c.item-item.is in
    (omega (arith, d, c.decreases), tt)

pub measure_members-measure-requires : goal.measure_members-measure-requires
measure_members-measure-requires t c =
    let d = member_depth c.args.items.now c.loop-item.item-index c.item-item.result c.loop-item-test.true c.item-item.is in
    (omega (arith, d, c.decreases), tt)

pub measure_elements-loop-item-preserved : goal.measure_elements-loop-item-preserved
measure_elements-loop-item-preserved t c =
    let items = c.args.items.now in
    let item = c.item-item.result in
    let rest = trees (map tree_of (drop (c.loop-item.item-index + 1) items)) in
    let parts = dropped items c.loop-item.item-index item c.loop-item-test.true c.item-item.is in
    let m = c.in_ok-measured.measured in
    let before = c.loop-item.behind in
    let after = c.and-behind.result in
    let small_before = subst (λ xs. capped (before.small + all_behind small (measures (trees (map tree_of xs)))) ≡ capped (all_behind small (measures (trees (map tree_of items))))) parts c.loop-item.invariant.0 in
    let large_before = subst (λ xs. capped (before.large + all_behind large (measures (trees (map tree_of xs)))) ≡ capped (all_behind large (measures (trees (map tree_of items))))) parts c.loop-item.invariant.1 in
    let plan_before = subst (λ xs. c.loop-item.plan.items ++ all_extents (trees (map tree_of xs)) ≡ c.args.plan.now.items ++ all_extents (trees (map tree_of items))) parts c.loop-item.invariant.4 in (
      behind_step small (tree_of item) m before.small after.small _ _ c.in_ok-measured.ensures.measured c.and-behind.ensures.small small_before,
      behind_step large (tree_of item) m before.large after.large _ _ c.in_ok-measured.ensures.measured c.and-behind.ensures.large large_before,
      omega (arith, c.and-behind.ensures.small),
      omega (arith, c.and-behind.ensures.large),
      noted_step c.args.plan.now.items c.loop-item.plan.items c.measure.new.plan.items _ (all_extents rest) _ c.in_ok-measured.ensures.plan plan_before,
      λ h. c.loop-item.invariant.5 (subst (λ xs. AreTrees (trees (map tree_of xs))) (sym parts) (c.in_ok-measured.ensures.is_tree, h)),
    )

pub measure_members-loop-item-preserved : goal.measure_members-loop-item-preserved
measure_members-loop-item-preserved t c =
    let items = c.args.items.now in
    let item = c.item-item.result in
    let rest = members (map pair_of (drop (c.loop-item.item-index + 1) items)) in
    let parts = dropped items c.loop-item.item-index item c.loop-item-test.true c.item-item.is in
    let m = c.in_ok-measured.measured in
    let before = c.loop-item.behind in
    let after = c.and-behind.result in
    let small_before = subst (λ xs. capped (before.small + all_behind small (member_measures (members (map pair_of xs)))) ≡ capped (all_behind small (member_measures (members (map pair_of items))))) parts c.loop-item.invariant.0 in
    let large_before = subst (λ xs. capped (before.large + all_behind large (member_measures (members (map pair_of xs)))) ≡ capped (all_behind large (member_measures (members (map pair_of items))))) parts c.loop-item.invariant.1 in
    let plan_before = subst (λ xs. c.loop-item.plan.items ++ member_extents (members (map pair_of xs)) ≡ c.args.plan.now.items ++ member_extents (members (map pair_of items))) parts c.loop-item.invariant.4 in (
      behind_step small (tree_of item.value) m before.small after.small _ _ c.in_ok-measured.ensures.measured c.and-behind.ensures.small small_before,
      behind_step large (tree_of item.value) m before.large after.large _ _ c.in_ok-measured.ensures.measured c.and-behind.ensures.large large_before,
      omega (arith, c.and-behind.ensures.small),
      omega (arith, c.and-behind.ensures.large),
      noted_step c.args.plan.now.items c.loop-item.plan.items c.measure.new.plan.items _ (member_extents rest) _ c.in_ok-measured.ensures.plan plan_before,
      λ h. c.loop-item.invariant.5 (subst (λ xs. HoldTrees (members (map pair_of xs))) (sym parts) (c.in_ok-measured.ensures.is_tree, h)),
    )

-- what P says of an Ok, from what Q says of it
then : {A E : Type 0} (P Q : Type 0) (r : Result A E) → (P → Q) → OnOk r P → OnOk r Q
then P Q (Ok x) f h = f h
then P Q (Err e) f h = tt

pub measure-returns-in-Object-clause-is_tree : goal.measure-returns-in-Object-clause-is_tree
measure-returns-in-Object-clause-is_tree t c =
    let items = c.as_slice-in-Object.ensures.items in
    then _ _ c.measure_object.result (λ hold. subst (λ j. IsTree (tree_of j)) (sym c.in-Object.is) (
      subst AreMembers (sym (member_list-members c.in-Object.members)) c.as_slice-in-Object.ensures.rising,
      subst (λ l. HoldTrees (members l)) items hold,
    )) c.measure_object.ensures.hold_trees
