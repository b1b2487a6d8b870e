use Rattle.std.specs.List.{AllByRecursion}
use Rattle.json_edit.specs.Edits.{HasLeg}
use Rattle.json_patch.proofs.tests.paths_of.Given as goal

abbrev pub invariant-loop-path : goal.invariant-loop-path
invariant-loop-path l = AllByRecursion HasLeg l.items.items
