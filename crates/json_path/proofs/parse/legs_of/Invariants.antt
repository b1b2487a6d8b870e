use Rattle.std.proofs.Common.{◌≡◌, ◌≤◌, ◌-◌, [], map, length, drop}
use Rattle.std.specs.List.{AllByRecursion}
use Rattle.path_model.specs.PathText.{scan, start, between}
use Rattle.json_path.specs.View.{leg_of, IsNumbered}
use Rattle.json_path.proofs.parse.legs_of.Given as goal

abbrev pub invariant-loop-at : goal.invariant-loop-at
invariant-loop-at l =
    (l.at ≤ length l.bytes) × (length l.legs.items ≤ 100) × AllByRecursion IsNumbered (map leg_of l.legs.items)
    × (scan start [] 0 l.bytes ≡ scan between (map leg_of l.legs.items) l.at (drop l.at l.bytes))

abbrev pub decreases-loop-at : goal.decreases-loop-at
decreases-loop-at l = length l.bytes - l.at
