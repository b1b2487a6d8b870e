use Rattle.std.proofs.Common.{ℕ, List, drop}
use Rattle.tree_model.specs.Tree.{Tree}
use Rattle.json_patch.specs.Made.{StandFor}
use Rattle.json_patch.specs.Removal.{Reached}
use Rattle.json_patch.specs.Spans.{DifferInSpans}
use Rattle.json_patch.proofs.removal.take_paths.Given as goal

abbrev pub invariant-loop-path : goal.invariant-loop-path
invariant-loop-path l = ((t : Tree) → StandFor l.initial.bytes t → Reached l.initial.bytes t l.paths (drop l.path-index l.paths) l.bytes l.took)
    × ((old : List ℕ) → DifferInSpans old l.initial.bytes l.initial.spans.items → DifferInSpans old l.bytes l.spans.items)
