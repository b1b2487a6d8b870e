use Rattle.std.proofs.Common.{◌≡◌, ◌++◌, map, take, flat_map}
use Rattle.json_tree.specs.Writing.{Extends}
use Rattle.path_model.specs.PathText.{leg_text}
use Rattle.json_path.specs.View.{leg_of}
use Rattle.json_path.proofs.print.push_path.Given as goal

abbrev pub invariant-loop-leg : goal.invariant-loop-leg
invariant-loop-leg l = (l.out.items ≡ (l.initial.out.items ++ flat_map leg_text (map leg_of (take l.leg-index l.legs)))) × Extends l.initial.out.items l.out.items
