use Rattle.std.proofs.Common.{◌≡◌, map, drop}
use Rattle.json_tree.specs.View.{tree_of}
use Rattle.json_path.specs.View.{leg_of}
use Rattle.tree_model.specs.Path.{find}
use Rattle.json_edit.proofs.lookup.find_below.Given as goal

abbrev pub invariant-loop-leg : goal.invariant-loop-leg
invariant-loop-leg l = find (map leg_of (drop l.leg-index l.legs)) (tree_of l.here) ≡ find (map leg_of l.legs) (tree_of l.tree)
