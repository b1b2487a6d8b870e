use Rattle.std.proofs.Common.{IsSome, sym, ap, subst, ◌∙◌}
use Rattle.json_tree.specs.View.{tree_of}
use Rattle.json_path.specs.View.{leg_of}
use Rattle.tree_model.specs.Tree.{array, trees}
use Rattle.tree_model.specs.Path.{child, with_child}
use Rattle.json_edit.specs.Places.{place_in}
use Rattle.json_edit.proofs.ChildLemmas.{child_out, with_in, no_some}
use Rattle.json_edit.proofs.children.put_child.Goals as goal

pub returns-in-Some : goal.returns-in-Some
returns-in-Some c =
    let l = leg_of c.args.leg.now in
    let at = ap (λ n. place_in n l) (sym c.len.ensures) ∙ sym c.place_in_list.ensures.place ∙ c.in-Some.is in
    λ some. ap (λ us. array (trees us)) c.replace.ensures.after ∙ sym (with_in c.in-List.list l c.in-Some.at (tree_of c.args.value) at)
    ∙ ap (λ t. with_child (tree_of t) l (tree_of c.args.value)) (sym c.in-List.is)

pub returns-in_default-place_in_list : goal.returns-in_default-place_in_list
returns-in_default-place_in_list c =
    let l = leg_of c.args.leg.now in
    let at = ap (λ n. place_in n l) (sym c.len.ensures) ∙ sym c.place_in_list.ensures.place ∙ c.in_default-place_in_list.is in
    λ some. absurd (no_some (subst IsSome (ap (λ t. child (tree_of t) l) c.in-List.is ∙ child_out c.in-List.list l at) some))
