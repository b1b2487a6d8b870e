use Rattle.std.proofs.Common.{sym, ap, ◌∙◌}
use Rattle.json_tree.specs.View.{tree_of}
use Rattle.json_path.specs.View.{leg_of}
use Rattle.tree_model.specs.Tree.{null, array, trees}
use Rattle.tree_model.specs.Path.{child, with_child}
use Rattle.json_edit.specs.Places.{place_in}
use Rattle.json_edit.proofs.ChildLemmas.{child_in, child_out, with_in, restore_in, member_restores}
use Rattle.json_edit.proofs.children.take_child.Goals as goal

pub returns-in-Some-clause-found : goal.returns-in-Some-clause-found
returns-in-Some-clause-found c =
    let l = leg_of c.args.leg.now in
    let at = ap (λ n. place_in n l) (sym c.len.ensures) ∙ sym c.place_in_list.ensures.place ∙ c.in-Some.is in
    sym c.replace.ensures.before ∙ sym (child_in c.in-List.list l c.in-Some.at at) ∙ ap (λ t. child (tree_of t) l) (sym c.in-List.is)

pub returns-in-Some-clause-taken : goal.returns-in-Some-clause-taken
returns-in-Some-clause-taken c =
    let l = leg_of c.args.leg.now in
    let at = ap (λ n. place_in n l) (sym c.len.ensures) ∙ sym c.place_in_list.ensures.place ∙ c.in-Some.is in
    λ some. ap (λ us. array (trees us)) c.replace.ensures.after ∙ sym (with_in c.in-List.list l c.in-Some.at null at) ∙ ap (λ t. with_child (tree_of t) l null) (sym c.in-List.is)

pub returns-in-Some-clause-restores : goal.returns-in-Some-clause-restores
returns-in-Some-clause-restores c =
    let l = leg_of c.args.leg.now in
    let at = ap (λ n. place_in n l) (sym c.len.ensures) ∙ sym c.place_in_list.ensures.place ∙ c.in-Some.is in
    ap (λ us. with_child (array (trees us)) l (tree_of c.replace.result)) c.replace.ensures.after ∙ restore_in c.in-List.list l c.in-Some.at (tree_of c.replace.result) at c.replace.ensures.before
    ∙ ap tree_of (sym c.in-List.is)

pub returns-in-None-clause-found : goal.returns-in-None-clause-found
returns-in-None-clause-found c =
    let l = leg_of c.args.leg.now in
    let at = ap (λ n. place_in n l) (sym c.len.ensures) ∙ sym c.place_in_list.ensures.place ∙ c.in-None.is in
    sym (child_out c.in-List.list l at) ∙ ap (λ t. child (tree_of t) l) (sym c.in-List.is)

pub returns-in-Member-clause-restores : goal.returns-in-Member-clause-restores
returns-in-Member-clause-restores c =
    let put = c.replace-in-Member.ensures in
    let before = rw c.as_str.ensures.bytes at put.before in
    let after = rw c.as_str.ensures.bytes at put.after in
    rw (c.in-Member.is, c.in-Object.is) (member_restores c.replace-in-Member.result c.in-Member.key c.in-Object.members c.replace-in-Member.new.self put.rising before after)
