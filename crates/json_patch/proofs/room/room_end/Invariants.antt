use Rattle.std.proofs.Common.{◌≡◌, ◌≤◌, ◌-◌}
use Rattle.binary_model.specs.Layout.{count}
use Rattle.binary_model.specs.Change.{start_from, room_end}
use Rattle.json_binary.specs.Place.{container_of}
use Rattle.json_patch.proofs.room.room_end.Given as goal

abbrev pub invariant-loop-next : goal.invariant-loop-next
invariant-loop-next l = (l.next ≤ count l.bytes (container_of l.container))
    × (start_from l.bytes (container_of l.container) (count l.bytes (container_of l.container) - l.next) l.next ≡ room_end l.bytes (container_of l.container) l.k)

abbrev pub decreases-loop-next : goal.decreases-loop-next
decreases-loop-next l = count l.bytes (container_of l.container) - l.next
