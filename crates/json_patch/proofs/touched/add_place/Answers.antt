use Rattle.std.proofs.Common.{◌≡◌, ◌-◌, ◌∷◌, ◌++◌, [], ◌∙◌, refl, sym, ap, rules, arith, map, length, set, get_or}
use Rattle.json_patch.specs.View.{run_of}
use Rattle.json_patch.proofs.WriteLemmas.{ok_then}
use Rattle.json_patch.proofs.TouchLemmas.{grown_last, added_last, added_first, set_again}
use Rattle.json_patch.proofs.touched.add_place.Goals as goal
use Rattle.json_patch.proofs.touched.add_place.Goals.{in_default-via-in-Some+else-ends_at, in_default-via-in-None-1}

pub returns-in-Some : goal.returns-in-Some
returns-in-Some c =
    let items = c.args.patches.now.items in
    let p = c.in-Some.last.now in
    let size : c.args.patches.now.len ≡ length items = c.args.patches.now.ok.0 in
    let some = c.in-Some.ensures.variant.0 refl in
    let here : p ≡ get_or items (length items - 1) p = c.in-Some.ensures.value ∙ ap (λ n. get_or items (n - 1) p) size in
    ok_then c.grow.result _ _ (λ u is. ap (λ n. map run_of (set items (n - 1) c.grow.new.self)) size
    ∙ grown_last c.args.at c.args.before c.args.after items p c.grow.new.self here (omega (arith, some, size)) (sym c.ends_at.ensures ∙ c.if-ends_at.true) is) c.grow.ensures

pub returns-in_ok-push-in_default : goal.returns-in_ok-push-in_default
returns-in_ok-push-in_default c = elim c.in_default.branch [
  | in_default-via-in-Some+else-ends_at w ↦
      (let items = c.args.patches.now.items in
      let p = w.in-Some.last.now in
      let kept : c.in_default.patches.items ≡ set items (c.args.patches.now.len - 1) p = ap (λ v. v.items) w.patches-is in
      let size : c.args.patches.now.len ≡ length items = c.args.patches.now.ok.0 in
      let some = w.in-Some.ensures.variant.0 refl in
      let here : p ≡ get_or items (length items - 1) p = w.in-Some.ensures.value ∙ ap (λ n. get_or items (n - 1) p) size in
      let same : c.in_default.patches.items ≡ items = kept ∙ ap (λ n. set items (n - 1) p) size ∙ set_again items (length items - 1) p here in
      ap (map run_of) (c.in_ok-push-in_default.ensures.items ∙ ap (λ ps. ps ++ c.in_ok-patch-in_default.patch ∷ []) same)
      ∙ added_last c.args.at c.args.before c.args.after items p c.in_ok-patch-in_default.patch here (omega (arith, some, size)) (sym w.ends_at.ensures ∙ w.if-ends_at.false) c.in_ok-patch-in_default.ensures)
  | in_default-via-in-None-1 w ↦
      (let items = c.args.patches.now.items in
      let size : c.args.patches.now.len ≡ length items = c.args.patches.now.ok.0 in
      let none : c.args.patches.now.len ≡ 0 = search rules in
      ap (map run_of) (c.in_ok-push-in_default.ensures.items ∙ ap (λ v. v.items ++ c.in_ok-patch-in_default.patch ∷ []) w.patches-is)
      ∙ added_first c.args.at c.args.before c.args.after items c.in_ok-patch-in_default.patch (sym size ∙ none) c.in_ok-patch-in_default.ensures)
]
