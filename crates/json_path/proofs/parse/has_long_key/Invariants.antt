use Rattle.std.proofs.Common.{◌≡◌, map, drop}
use Rattle.std.specs.List.{list_any}
use Rattle.path_model.specs.PathText.{is_long}
use Rattle.json_path.specs.View.{leg_of}
use Rattle.json_path.proofs.parse.has_long_key.Given as goal

abbrev pub invariant-loop-leg : goal.invariant-loop-leg
invariant-loop-leg l = list_any is_long (map leg_of (drop l.leg-index l.legs)) ≡ list_any is_long (map leg_of l.legs)
