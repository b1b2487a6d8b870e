use Rattle.std.proofs.Common.{◌-◌, map, length, take, drop, sym, ap, subst, refl, rules, IfOk}
use Rattle.std.specs.List.{AllByRecursion}
use Rattle.json_tree.specs.View.{tree_of}
use Rattle.json_path.specs.View.{leg_of, IsLeg}
use Rattle.tree_model.specs.Edit.{at_parent}
use Rattle.json_edit.specs.Acts.{Acts, act_of}
use Rattle.json_edit.proofs.ChildLemmas.{parts, below_ok, below_err}
use Rattle.json_edit.proofs.edit.+edit_below.Goals as goal

pub edit_below-acted-requires : goal.edit_below-acted-requires
edit_below-acted-requires t c =
    let legs = ap (map leg_of) (parts c.args.rest.now c.next-item.result c.in-len1-up.len_at_least c.next-item.is) in
    (search rules, subst (AllByRecursion IsLeg) legs c.requires.1)

pub returns-in-Some-clause-ok : goal.returns-in-Some-clause-ok
returns-in-Some-clause-ok t c =
    let legs = ap (map leg_of) (parts c.args.rest.now c.next-item.result c.in-len1-up.len_at_least c.next-item.is) in
    let taken = c.in-Some.ensures in
    subst (λ ms. IfOk c.edit_below-acted.result (λ acted. Acts (at_parent (act_of c.args.action) (leg_of c.args.leg.now) ms (tree_of c.args.tree.now)) (tree_of c.args.tree.now) (tree_of c.put_child.new.tree) acted)) (sym legs)
    (below_ok (act_of c.args.action) (leg_of c.args.leg.now) (leg_of c.next-item.result) (map leg_of (take (length c.args.rest.now - 1) (drop 1 c.args.rest.now))) (tree_of c.args.tree.now) (tree_of c.in-Some.child)
    (tree_of c.take_child.new.tree) (tree_of c.edit_below-acted.new.tree) (tree_of c.put_child.new.tree) c.edit_below-acted.result taken.found (taken.taken refl) taken.restores c.put_child.ensures c.edit_below-acted.ensures.ok)

pub returns-in-Some-clause-err : goal.returns-in-Some-clause-err
returns-in-Some-clause-err t c =
    let taken = c.in-Some.ensures in
    below_err (leg_of c.args.leg.now) (tree_of c.args.tree.now) (tree_of c.in-Some.child) (tree_of c.take_child.new.tree) (tree_of c.edit_below-acted.new.tree) (tree_of c.put_child.new.tree) c.edit_below-acted.result
    taken.found (taken.taken refl) taken.restores c.put_child.ensures c.edit_below-acted.ensures.err
