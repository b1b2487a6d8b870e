use Rattle.std.proofs.Common.{length}
use Rattle.json_patch.proofs.restored.+value_spot.Given as goal

abbrev pub decreases-value_spot : goal.decreases-value_spot
decreases-value_spot l = length l.positions.now
