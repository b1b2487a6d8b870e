use Rattle.std.proofs.Common.{sym, subst}
use Rattle.binary_model.specs.Stands.{IsValue}
use Rattle.json_tree.specs.View.{tree_of}
use Rattle.json_patch.proofs.RestoredLemmas.{both_there}
use Rattle.json_patch.proofs.restored.same_value.Goals as goal

pub returns : goal.returns
returns c =
    λ t u s v. both_there c.args.old.now c.args.new.now c.args.place.now t u (tree_of c.in_ok-value.value) c.in-Some.before c.in-Some-value_spot.after c.equals.result s
    (c.in-Some.ensures.at t (subst (IsValue c.args.old.now t) (sym c.root.ensures.place) s.value))
    (c.in-Some-value_spot.ensures.at u (subst (IsValue c.args.new.now u) (sym c.root-2.ensures.place) v)) c.in_ok-value.ensures c.equals.ensures
