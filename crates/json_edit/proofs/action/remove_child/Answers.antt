use Rattle.std.proofs.Common.{sym, ap, ◌∙◌}
use Rattle.json_tree.specs.View.{tree_of}
use Rattle.json_path.specs.View.{leg_of}
use Rattle.tree_model.specs.Tree.{array, trees, members}
use Rattle.tree_model.specs.Edit.{taken_out}
use Rattle.std.specs.List.{remove}
use Rattle.json_edit.specs.Places.{place_in}
use Rattle.json_edit.proofs.ChildLemmas.{out_in, out_out, acts_in, acts_out, member_removed}
use Rattle.json_edit.proofs.action.remove_child.Goals as goal

pub returns-in-Some : goal.returns-in-Some
returns-in-Some c =
    let l = leg_of c.args.leg.now in
    let at = ap (λ n. place_in n l) (sym c.len.ensures) ∙ sym c.place_in_list.ensures.place ∙ c.in-Some.is in
    acts_in _ _ _ (array (trees (remove c.in-List.list c.in-Some.at)))
    (ap (λ t. taken_out (tree_of t) l) c.in-List.is ∙ out_in c.in-List.list l c.in-Some.at (tree_of c.remove.result) at c.remove.ensures.before) (ap (λ us. array (trees us)) c.remove.ensures.after)

pub returns-in-None : goal.returns-in-None
returns-in-None c =
    let l = leg_of c.args.leg.now in
    let at = ap (λ n. place_in n l) (sym c.len.ensures) ∙ sym c.place_in_list.ensures.place ∙ c.in-None.is in
    rw c.in-List.is (acts_out _ _ (out_out c.in-List.list l at))

pub returns-in-Member : goal.returns-in-Member
returns-in-Member c =
    let taken = c.remove-in-Member.ensures in
    let before = rw c.as_str.ensures.bytes at taken.before in
    let after = rw c.as_str.ensures.bytes at taken.after in
    rw (c.in-Member.is, c.in-Object.is, c.is_some.ensures) (member_removed c.remove-in-Member.result c.in-Member.key (members c.in-Object.members) (members c.remove-in-Member.new.self) before after)
