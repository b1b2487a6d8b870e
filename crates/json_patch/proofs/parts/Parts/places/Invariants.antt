use Rattle.std.proofs.Common.{◌≡◌, ◌+◌, map, drop}
use Rattle.binary_model.specs.Change.{differing}
use Rattle.json_patch.specs.View.{run_of, runs_of}
use Rattle.json_patch.proofs.parts.Parts.places.Given as goal

-- what is counted, with what is left, is the whole
abbrev pub invariant-loop-patch : goal.invariant-loop-patch
invariant-loop-patch l = l.places + differing (map run_of (drop l.patch-index l.self.patches.items)) ≡ differing (runs_of l.self)
