use Rattle.std.proofs.Common.{◌≡◌, ◌≤◌}
use Rattle.binary_model.specs.Change.{end_before}
use Rattle.json_binary.specs.Place.{container_of}
use Rattle.json_patch.proofs.room.end_before.Given as goal

abbrev pub invariant-loop-before : goal.invariant-loop-before
invariant-loop-before l = (l.before ≤ l.k) × (end_before l.bytes (container_of l.container) l.before ≡ end_before l.bytes (container_of l.container) l.k)

abbrev pub decreases-loop-before : goal.decreases-loop-before
decreases-loop-before l = l.before
