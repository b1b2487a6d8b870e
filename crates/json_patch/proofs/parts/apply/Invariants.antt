use Rattle.std.proofs.Common.{◌≡◌, length}
use Rattle.binary_model.specs.Change.{put_all}
use Rattle.json_patch.specs.View.{runs_of, AreWithin}
use Rattle.json_patch.proofs.PartLemmas.{left_runs}
use Rattle.json_patch.proofs.parts.apply.Given as goal

abbrev pub invariant-loop-patch : goal.invariant-loop-patch
invariant-loop-patch l = AreWithin (length l.bytes) (left_runs l.parts.patches.items l.patch-index)
    × (put_all (left_runs l.parts.patches.items l.patch-index) l.bytes ≡ put_all (runs_of l.parts) l.initial.bytes)
