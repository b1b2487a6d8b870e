use Rattle.std.proofs.Common.{◌≡◌, ◌<◌, ◌≤◌, ◌-◌, length, drop, slice_range, slice_index}
use Rattle.tree_model.specs.Path.{Path}
use Rattle.path_model.specs.PathText.{scan, dot, bare}
use Rattle.json_path.proofs.key.end_of_key.Given as goal

abbrev pub invariant-loop-end : goal.invariant-loop-end
invariant-loop-end l =
    (l.at < l.end) × (l.end ≤ length l.bytes) × (slice_index l.bytes (l.end - 1) < 128)
    × ((ls : Path) → scan dot ls l.at (drop l.at l.bytes) ≡ scan (bare (slice_range l.bytes l.at l.end)) ls l.end (drop l.end l.bytes))

abbrev pub decreases-loop-end : goal.decreases-loop-end
decreases-loop-end l = length l.bytes - l.end
