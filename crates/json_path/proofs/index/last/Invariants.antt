use Rattle.std.proofs.Common.{◌≡◌, ◌≤◌, ◌+◌, ◌∷◌, [], length, drop}
use Rattle.tree_model.specs.Path.{Path}
use Rattle.path_model.specs.PathText.{scan, letters}
use Rattle.json_path.proofs.index.last.Given as goal

abbrev pub invariant-loop-count : goal.invariant-loop-count
invariant-loop-count l =
    (l.at + l.count ≤ length l.bytes)
    × ((ls : Path)
    → scan (letters (97 ∷ 115 ∷ 116 ∷ [])) ls l.at (drop l.at l.bytes)
    ≡ scan (letters (drop l.count (97 ∷ 115 ∷ 116 ∷ []))) ls (l.at + l.count) (drop (l.at + l.count) l.bytes))
