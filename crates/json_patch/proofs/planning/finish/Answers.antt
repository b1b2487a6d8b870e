use Rattle.std.proofs.Common.{◌≤◌, sym, ap, subst, map, ◌∙◌}
use Rattle.tree_model.specs.Tree.{depth}
use Rattle.binary_model.specs.Layout.{root}
use Rattle.binary_model.specs.Stands.{IsValue}
use Rattle.binary_model.specs.Change.{progress, runs}
use Rattle.json_binary.specs.Place.{spot_of}
use Rattle.json_patch.specs.Touched.{same_at}
use Rattle.json_patch.specs.Made.{in_place}
use Rattle.json_patch.proofs.PlanLemmas.{same_plan, deep_plan, parts_plan}
use Rattle.json_patch.proofs.RestoredLemmas.{ended_at, restored_draft, other_draft, shallow_draft, deep_draft}
use Rattle.json_patch.proofs.planning.finish.Goals.{else-draft-via-then-draft+else-nests, else-draft-via-else-draft}
use Rattle.json_patch.proofs.planning.finish.Goals as goal

pub returns-then-nests : goal.returns-then-nests
returns-then-nests c =
    let bytes = c.args.bytes.now in
    let items = c.args.draft.bytes.items in
    λ e by. deep_plan bytes e (λ t s.
    let u = (progress e (in_place bytes t)).«tree» in
    let put = by t s in (
      items,
      u,
      ended_at items (progress e (in_place bytes t)) put.0,
      deep_draft t u c.args.draft put.1 c.deref-then-draft.result.now c.deref.result.now (spot_of c.root.result) c.nests.result c.deref-then-draft.ensures.value c.deref.ensures.value
          c.root.ensures.place c.nests.ensures c.if-nests.true,
    ))

pub returns-then-branch : goal.returns-then-branch
returns-then-branch c =
    let bytes = c.args.bytes.now in
    let items = c.args.draft.bytes.items in
    λ e by. same_plan bytes e (λ t s.
    let u = (progress e (in_place bytes t)).«tree» in
    let put = by t s in
    let value = subst (λ b. IsValue b u (root b)) (sym c.deref-2.ensures.value) put.1.stands.value in
    let same = sym c.if-branch.true ∙ c.in_ok-is_restored.ensures t u s value ∙ ap (λ places. same_at (map (λ ks. ks.items) places) t u) c.deref-3.ensures.value in
    (items, u, ended_at items (progress e (in_place bytes t)) put.0, restored_draft t u c.args.draft put.1 same))

pub returns : goal.returns
returns c =
    let bytes = c.args.bytes.now in
    let items = c.args.draft.bytes.items in
    λ e by. parts_plan bytes e c.in_ok-parts.parts (λ t s.
    let u = (progress e (in_place bytes t)).«tree» in
    let put = by t s in
    let value = subst (λ b. IsValue b u (root b)) (sym c.deref-2.ensures.value) put.1.stands.value in
    let same = sym c.if-branch.false ∙ c.in_ok-is_restored.ensures t u s value ∙ ap (λ places. same_at (map (λ ks. ks.items) places) t u) c.deref-3.ensures.value in
    let low : depth u ≤ 100 = elim c.else-draft.branch [
      | else-draft-via-then-draft+else-nests w ↦ shallow_draft t u c.args.draft put.1 w.deref-then-draft.result.now w.deref.result.now (spot_of w.root.result) w.nests.result w.deref-then-draft.ensures.value w.deref.ensures.value w.root.ensures.place w.nests.ensures w.if-nests.false
      | else-draft-via-else-draft w ↦ put.1.nested w.if-draft.false
    ] in
    record {
      new = items;
      other = u;
      leads = ended_at items (progress e (in_place bytes t)) put.0;
      apart = other_draft t u c.args.draft put.1 same;
      shallow = low;
      stands = put.1.stands;
      long = c.requires.noted.long;
      parts_are = c.in_ok-parts.ensures ∙ ap (runs bytes) c.deref-4.ensures.value;
    })
