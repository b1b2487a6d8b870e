use Rattle.std.proofs.Common.{[], ◌∷◌, ◌∙◌, ap, subst, rules}
use Rattle.binary_model.specs.Stands.{IsBytes}
use Rattle.binary_model.specs.Change.{runs}
use Rattle.json_tree.specs.View.{tree_of}
use Rattle.json_edit.specs.Edits.{assigned}
use Rattle.json_patch.specs.Writes.{put_writes}
use Rattle.json_patch.specs.Made.{Makes, edit_by}
use Rattle.json_patch.proofs.PlanLemmas.{stands_for, same_plan, parts_plan}
use Rattle.json_patch.proofs.DraftLemmas.{pair_back, pair_on, pair_off}
use Rattle.json_patch.proofs.planning.plan_pair.Goals as goal

pub returns-in-Kept : goal.returns-in-Kept
returns-in-Kept c =
    let bytes = c.args.bytes.now in
    let path = c.args.pair.now.path in
    let v = tree_of c.args.pair.now.value in
    let octets : IsBytes bytes = search rules in
    same_plan bytes (edit_by c.args.adding (assigned c.args.pair.now ∷ [])) (λ t s.
    let made = subst (Makes bytes t c.args.adding path v) c.in-Kept.is (c.in_ok-make_pair.ensures t (stands_for bytes t octets c.requires.small s)) in
    pair_back bytes c.args.adding path v t made)

pub returns-in-Written : goal.returns-in-Written
returns-in-Written c =
    let bytes = c.args.bytes.now in
    let path = c.args.pair.now.path in
    let v = tree_of c.args.pair.now.value in
    let ws = c.in-Written.writes in
    let octets : IsBytes bytes = search rules in
    let parts_are = c.in_ok-parts-in-Written.ensures ∙ ap (λ ws. runs bytes (put_writes ws bytes)) c.deref.ensures.value in
    parts_plan bytes (edit_by c.args.adding (assigned c.args.pair.now ∷ [])) c.in_ok-parts-in-Written.parts (λ t s.
    let h = stands_for bytes t octets c.requires.small s in
    let made = subst (Makes bytes t c.args.adding path v) c.in-Written.is (c.in_ok-make_pair.ensures t h) in
    pair_on bytes c.args.adding path v t _ ws.items c.in_ok-parts-in-Written.parts s h made c.requires.shallow parts_are)

pub returns : goal.returns
returns c =
    let bytes = c.args.bytes.now in
    let path = c.args.pair.now.path in
    let v = tree_of c.args.pair.now.value in
    let octets : IsBytes bytes = search rules in
    λ t s. let made = subst (Makes bytes t c.args.adding path v) c.in-Anew.is (c.in_ok-make_pair.ensures t (stands_for bytes t octets c.requires.small s)) in
    pair_off bytes c.args.adding path v t made
