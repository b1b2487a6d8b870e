use Rattle.std.proofs.Common.{sym, ap, ◌∙◌}
use Rattle.json_tree.specs.View.{tree_of}
use Rattle.json_path.specs.View.{leg_of}
use Rattle.tree_model.specs.Path.{child}
use Rattle.json_edit.specs.Places.{place_in}
use Rattle.json_edit.proofs.ChildLemmas.{child_in, child_out}
use Rattle.json_edit.proofs.children.child.Goals as goal

pub returns-in-Some : goal.returns-in-Some
returns-in-Some c =
    let l = leg_of c.args.leg.now in
    let at = ap (λ n. place_in n l) (sym c.len.ensures) ∙ sym c.place_in_list.ensures.place ∙ c.in-Some.is in
    c.get.ensures ∙ sym (child_in c.in-List-default.list l c.in-Some.at at) ∙ ap (λ t. child (tree_of t) l) (sym c.in-List-default.is-0)

pub returns-in-None : goal.returns-in-None
returns-in-None c =
    let l = leg_of c.args.leg.now in
    let out = ap (λ n. place_in n l) (sym c.len.ensures) ∙ sym c.place_in_list.ensures.place ∙ c.in-None.is in
    sym (child_out c.in-List-default.list l out) ∙ ap (λ t. child (tree_of t) l) (sym c.in-List-default.is-0)
