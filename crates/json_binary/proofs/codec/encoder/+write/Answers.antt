use Rattle.std.proofs.Common.{◌≡◌, ◌+◌, ◌^◌, ◌≤◌, ◌∙◌, true, false, List, sym, ap, subst, arith, map, length, drop, get_or}
use Rattle.tree_model.specs.Tree.{trees, members}
use Rattle.binary_model.specs.Canonical.{all_behind, behind, measure, measures, member_measures, keys_length}
use Rattle.json_tree.specs.View.{tree_of, pair_of}
use Rattle.json_binary.specs.View.{form_of}
use Rattle.json_binary.specs.Sizes.{extent, extents, all_extents, member_extents}
use Rattle.json_binary.specs.declared.cursor.layout.Form.TheVariants.{Small}
use Rattle.json_binary.specs.declared.codec.sizes.Extent.{Extent}
use Rattle.json_binary.proofs.SizeLemmas.{item_depth, member_depth, dropped, measures_length, member_measures_length}
use Rattle.json_tree.proofs.Growth.{extends_on}
use Rattle.json_binary.proofs.WriteLemmas.{own_step}
use Rattle.json_binary.proofs.EncodeLemmas.{array_at, array_written, object_at, object_written, spelled_length, member_spelled_length}
use Rattle.json_binary.proofs.codec.encoder.+write.Goals as goal

pub push_array-push_element_entries-requires-clause-near : goal.push_array-push_element_entries-requires-clause-near
push_array-push_element_entries-requires-clause-near t c =
    let ts = trees (map tree_of c.args.items.now) in
    let own : Extent = get_or c.args.plan.now 0 (record { form = Small; size = 0; inside = 0 }) in
    let is : own ≡ extent false 0 (measures ts) (length (all_extents ts)) = ap (λ (p : List Extent). get_or p 0 (record { form = Small; size = 0; inside = 0 })) c.requires.plan in
    (array_at ts own (length (all_extents ts)) (length c.args.items.now) c.entries_size-values_at.result is c.requires.near (measures_length c.args.items.now) c.entries_size-values_at.ensures).1

pub push_array-returns-clause-ok : goal.push_array-returns-clause-ok
push_array-returns-clause-ok t c =
    let ts = trees (map tree_of c.args.items.now) in
    let own : Extent = get_or c.args.plan.now 0 (record { form = Small; size = 0; inside = 0 }) in
    let is : own ≡ extent false 0 (measures ts) (length (all_extents ts)) = ap (λ (p : List Extent). get_or p 0 (record { form = Small; size = 0; inside = 0 })) c.requires.plan in
    let at = array_at ts own (length (all_extents ts)) (length c.args.items.now) c.entries_size-values_at.result is c.requires.near (measures_length c.args.items.now) c.entries_size-values_at.ensures in
    array_written ts own (length (all_extents ts)) is c.requires.near c.args.out.now.items c.push_header.new.out.items c.push_element_entries.new.out.items c.push_elements.new.out.items (length c.args.items.now) c.entries_size-values_at.result
    (sym (spelled_length ts ∙ measures_length c.args.items.now)) at.0 c.in_ok-push_header.ensures.ok c.in_ok-push_element_entries.ensures.ok c.in_ok-push_elements.ensures.ok

pub push_object-push_key_entries-requires : goal.push_object-push_key_entries-requires
push_object-push_key_entries-requires t c =
    let ms = members (map pair_of c.args.items.now) in
    let own : Extent = get_or c.args.plan.now 0 (record { form = Small; size = 0; inside = 0 }) in
    let is : own ≡ extent true (keys_length ms) (member_measures ms) (length (member_extents ms)) = ap (λ (p : List Extent). get_or p 0 (record { form = Small; size = 0; inside = 0 })) c.requires.plan in
    record { near = (object_at ms own (length (member_extents ms)) (length c.args.items.now) c.entries_size-keys_at.result c.keys_length.result is c.requires.near (member_measures_length c.args.items.now) c.entries_size-keys_at.ensures c.keys_length.ensures).2 }

pub push_object-push_member_entries-requires-clause-near : goal.push_object-push_member_entries-requires-clause-near
push_object-push_member_entries-requires-clause-near t c =
    let ms = members (map pair_of c.args.items.now) in
    let own : Extent = get_or c.args.plan.now 0 (record { form = Small; size = 0; inside = 0 }) in
    let is : own ≡ extent true (keys_length ms) (member_measures ms) (length (member_extents ms)) = ap (λ (p : List Extent). get_or p 0 (record { form = Small; size = 0; inside = 0 })) c.requires.plan in
    (object_at ms own (length (member_extents ms)) (length c.args.items.now) c.entries_size-keys_at.result c.keys_length.result is c.requires.near (member_measures_length c.args.items.now) c.entries_size-keys_at.ensures c.keys_length.ensures).3

pub push_object-returns-clause-ok : goal.push_object-returns-clause-ok
push_object-returns-clause-ok t c =
    let ms = members (map pair_of c.args.items.now) in
    let own : Extent = get_or c.args.plan.now 0 (record { form = Small; size = 0; inside = 0 }) in
    let is : own ≡ extent true (keys_length ms) (member_measures ms) (length (member_extents ms)) = ap (λ (p : List Extent). get_or p 0 (record { form = Small; size = 0; inside = 0 })) c.requires.plan in
    let at = object_at ms own (length (member_extents ms)) (length c.args.items.now) c.entries_size-keys_at.result c.keys_length.result is c.requires.near (member_measures_length c.args.items.now) c.entries_size-keys_at.ensures c.keys_length.ensures in
    object_written ms own (length (member_extents ms)) is c.requires.near c.args.out.now.items c.push_header.new.out.items c.push_key_entries.new.out.items c.push_member_entries.new.out.items c.push_keys.new.out.items c.push_members.new.out.items
    (length c.args.items.now) c.entries_size-keys_at.result (c.entries_size-keys_at.result + c.keys_length.result)
    (sym (member_spelled_length ms ∙ member_measures_length c.args.items.now)) at.0 (ap (λ n. c.entries_size-keys_at.result + n) at.1) c.in_ok-push_header.ensures.ok c.in_ok-push_key_entries.ensures.ok c.in_ok-push_member_entries.ensures.ok
    c.in_ok-push_keys.ensures.ok c.in_ok-push_members.ensures.ok

pub push_object-returns-clause-kept : goal.push_object-returns-clause-kept
push_object-returns-clause-kept t c =
    let old = c.args.out.now.items in
    let a = c.push_header.new.out.items in
    let b = c.push_key_entries.new.out.items in
    let d = c.push_member_entries.new.out.items in
    let e = c.push_keys.new.out.items in
    extends_on old e c.push_members.new.out.items (extends_on old d e (extends_on old b d (extends_on old a b c.in_ok-push_header.ensures.kept c.in_ok-push_key_entries.ensures.kept) c.in_ok-push_member_entries.ensures.kept)
    c.in_ok-push_keys.ensures.kept) c.in_ok-push_members.ensures.kept

pub push_elements-push_behind-requires : goal.push_elements-push_behind-requires
push_elements-push_behind-requires t c =
    let items = c.args.items.now in
    let d = item_depth items c.loop-item.item-index c.item-item.result c.loop-item-test.true c.item-item.is in
    let more = trees (map tree_of (drop (c.loop-item.item-index + 1) items)) in
    let parts = dropped items c.loop-item.item-index c.item-item.result c.loop-item-test.true c.item-item.is in
    let plan = subst (λ xs. c.loop-item.rest.now ≡ all_extents (trees (map tree_of xs))) parts c.loop-item.invariant.2 in
    let near : behind (form_of c.args.form) (measure (tree_of c.item-item.result)) + all_behind (form_of c.args.form) (measures more) ≤ 2 ^ 24 = subst (λ xs. all_behind (form_of c.args.form) (measures (trees (map tree_of xs))) ≤ 2 ^ 24) parts c.loop-item.invariant.3 in
    (omega (arith, d, c.decreases), (c.split_plan.ensures.own ∙ own_step c.loop-item.rest.now (extents (tree_of c.item-item.result)) (all_extents more) _ plan (λ i. length (extents (tree_of c.item-item.result))), omega (arith, near)))

pub push_members-push_behind-requires : goal.push_members-push_behind-requires
push_members-push_behind-requires t c =
    let items = c.args.items.now in
    let d = member_depth items c.loop-item.item-index c.item-item.result c.loop-item-test.true c.item-item.is in
    let more = members (map pair_of (drop (c.loop-item.item-index + 1) items)) in
    let parts = dropped items c.loop-item.item-index c.item-item.result c.loop-item-test.true c.item-item.is in
    let plan = subst (λ xs. c.loop-item.rest.now ≡ member_extents (members (map pair_of xs))) parts c.loop-item.invariant.2 in
    let near : behind (form_of c.args.form) (measure (tree_of c.item-item.result.value)) + all_behind (form_of c.args.form) (member_measures more) ≤ 2 ^ 24 = subst (λ xs. all_behind (form_of c.args.form) (member_measures (members (map pair_of xs))) ≤ 2 ^ 24) parts c.loop-item.invariant.3 in
    (omega (arith, d, c.decreases), (c.split_plan.ensures.own ∙ own_step c.loop-item.rest.now (extents (tree_of c.item-item.result.value)) (member_extents more) _ plan (λ i. length (extents (tree_of c.item-item.result.value))), omega (arith, near)))
