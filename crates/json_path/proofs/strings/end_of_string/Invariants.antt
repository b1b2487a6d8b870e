use Rattle.std.proofs.Common.{◌≡◌, ◌≤◌, ◌-◌, ℕ, List, length, drop}
use Rattle.tree_model.specs.Path.{Path}
use Rattle.path_model.specs.PathText.{scan, inside}
use Rattle.json_path.specs.Parsing.{quotes_state}
use Rattle.json_path.proofs.strings.end_of_string.Given as goal

abbrev pub invariant-loop-end : goal.invariant-loop-end
invariant-loop-end l =
    (l.at ≤ l.end) × (l.end ≤ length l.bytes)
    × ((k : List ℕ) (ls : Path) → scan (inside k) ls l.at (drop l.at l.bytes) ≡ scan (quotes_state l.escaped k) ls l.end (drop l.end l.bytes))

abbrev pub decreases-loop-end : goal.decreases-loop-end
decreases-loop-end l = length l.bytes - l.end
