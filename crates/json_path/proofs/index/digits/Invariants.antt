use Rattle.std.proofs.Common.{◌≡◌, ◌≤◌, ◌-◌, Bool, length, drop}
use Rattle.tree_model.specs.Path.{Path}
use Rattle.path_model.specs.PathText.{scan, digits}
use Rattle.json_path.proofs.index.digits.Given as goal

abbrev pub invariant-loop-end : goal.invariant-loop-end
invariant-loop-end l =
    (l.at ≤ l.end) × (l.end ≤ length l.bytes) × (l.end - l.at ≤ 10)
    × ((from_end : Bool) (ls : Path)
    → scan (digits from_end l.at 0 0) ls l.at (drop l.at l.bytes) ≡ scan (digits from_end l.at (l.end - l.at) l.value) ls l.end (drop l.end l.bytes))

abbrev pub decreases-loop-end : goal.decreases-loop-end
decreases-loop-end l = length l.bytes - l.end
