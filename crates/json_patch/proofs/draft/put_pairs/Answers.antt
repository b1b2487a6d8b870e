use Rattle.std.proofs.Common.{ap, subst, map, IfSome}
use Rattle.json_tree.specs.View.{tree_of}
use Rattle.json_edit.specs.Edits.{assigned}
use Rattle.json_binary.proofs.SizeLemmas.{dropped}
use Rattle.binary_model.specs.Change.{progress, replaced_by}
use Rattle.json_patch.specs.Made.{act_by, edit_by, in_place}
use Rattle.json_patch.specs.Draft.{IsPairPut, IsNoted}
use Rattle.json_patch.proofs.DraftLemmas.{put_on, put_off}
use Rattle.json_patch.proofs.draft.put_pairs.Goals as goal

pub returns-in-None-clause-put : goal.returns-in-None-clause-put
returns-in-None-clause-put c =
    let pair = c.pair-item.result in
    let parts = dropped c.args.pairs.now c.loop-pair.pair-index pair c.loop-pair-test.true c.pair-item.is in
    λ t s. let (u, d, so) = c.loop-pair.invariant.1 t s in
    let put = subst (IsPairPut t (replaced_by (act_by c.args.adding) pair.path (tree_of pair.value) (in_place c.loop-pair.draft.bytes.items u))) c.in-None.is (c.in_ok-next.ensures.put t u d) in
    put_off c.args.adding pair.path (tree_of pair.value) _ _ c.loop-pair.draft.bytes.items u (progress (edit_by c.args.adding (map assigned c.args.pairs.now)) (in_place c.args.bytes.now t)) (ap (map assigned) parts) so put

pub loop-pair-preserved : goal.loop-pair-preserved
loop-pair-preserved c =
    let pair = c.pair-item.result in
    let parts = dropped c.args.pairs.now c.loop-pair.pair-index pair c.loop-pair-test.true c.pair-item.is in (
      subst (λ o. IfSome o (IsNoted c.args.bytes.now)) c.in-Some.is (c.in_ok-next.ensures.noted c.args.bytes.now c.loop-pair.invariant.0),
      λ t s.
          let (u, d, so) = c.loop-pair.invariant.1 t s in
          let behind = replaced_by (act_by c.args.adding) pair.path (tree_of pair.value) (in_place c.loop-pair.draft.bytes.items u) in
          let put = subst (IsPairPut t behind) c.in-Some.is (c.in_ok-next.ensures.put t u d) in
          (behind.«tree», put.1, put_on c.args.adding pair.path (tree_of pair.value) _ _ c.loop-pair.draft.bytes.items c.in-Some.next.bytes.items u (progress (edit_by c.args.adding (map assigned c.args.pairs.now)) (in_place c.args.bytes.now t)) (ap (map assigned) parts) so put.0),
    )
