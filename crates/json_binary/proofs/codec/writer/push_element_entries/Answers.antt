use Rattle.std.proofs.Common.{◌≡◌, ◌+◌, ◌^◌, ◌≤◌, ◌++◌, ◌∙◌, ap, subst, arith, map, drop, length}
use Rattle.tree_model.specs.Tree.{trees}
use Rattle.binary_model.specs.Canonical.{all_behind, behind, measure, value_entries, measures, spellings}
use Rattle.json_tree.specs.View.{tree_of, tree_of}
use Rattle.json_binary.specs.View.{form_of}
use Rattle.json_binary.specs.Sizes.{extents, all_extents}
use Rattle.json_binary.proofs.SizeLemmas.{dropped}
use Rattle.json_tree.proofs.Growth.{extends_on}
use Rattle.json_binary.proofs.WriteLemmas.{behind_exact, entries_step, rest_step}
use Rattle.json_binary.proofs.codec.writer.push_element_entries.Goals as goal

pub loop-item-preserved : goal.loop-item-preserved
loop-item-preserved c =
    let items = c.args.items.now in
    let item = c.item-item.result in
    let t = tree_of item in
    let form = form_of c.args.form in
    let more = trees (map tree_of (drop (c.loop-item.item-index + 1) items)) in
    let parts = dropped items c.loop-item.item-index item c.loop-item-test.true c.item-item.is in
    let so_far = subst (λ xs. c.loop-item.out.items ++ value_entries form c.loop-item.offset (spellings (trees (map tree_of xs))) ≡ c.args.out.now.items ++ value_entries form c.args.offset (spellings (trees (map tree_of items)))) parts c.loop-item.invariant.0 in
    let plan = subst (λ xs. c.loop-item.rest.now ≡ all_extents (trees (map tree_of xs))) parts c.loop-item.invariant.2 in
    let near : c.loop-item.offset + (behind form (measure t) + all_behind form (measures more)) ≤ 2 ^ 24 = subst (λ xs. c.loop-item.offset + all_behind form (measures (trees (map tree_of xs))) ≤ 2 ^ 24) parts c.loop-item.invariant.3 in
    let size = behind_exact form t c.measured-measured.result c.measured-measured.ensures (omega (arith, near)) in
    let next : c.loop-item.offset + c.behind-offset.result ≡ c.loop-item.offset + behind form (measure t) = ap (λ n. c.loop-item.offset + n) (c.behind-offset.ensures ∙ size) in (
      entries_step c.loop-item.out.items c.push_entry.new.out.items form c.loop-item.offset (c.loop-item.offset + c.behind-offset.result) t (spellings more) _ c.in_ok-push_entry.ensures.ok next so_far,
      extends_on c.args.out.now.items c.loop-item.out.items c.push_entry.new.out.items c.loop-item.invariant.1 c.in_ok-push_entry.ensures.kept,
      c.split_plan.ensures.others ∙ rest_step c.loop-item.rest.now (extents t) (all_extents more) _ plan (λ i. length (extents t)),
      omega (arith, near, next),
    )
