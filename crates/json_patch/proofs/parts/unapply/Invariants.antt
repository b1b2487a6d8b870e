use Rattle.std.proofs.Common.{◌≡◌, length}
use Rattle.binary_model.specs.Change.{put_back}
use Rattle.json_patch.specs.View.{runs_of, AreWithin}
use Rattle.json_patch.proofs.PartLemmas.{left_runs}
use Rattle.json_patch.proofs.parts.unapply.Given as goal

abbrev pub invariant-loop-patch : goal.invariant-loop-patch
invariant-loop-patch l = AreWithin (length l.bytes) (left_runs l.parts.patches.items l.patch-index)
    × (put_back (left_runs l.parts.patches.items l.patch-index) l.bytes ≡ put_back (runs_of l.parts) l.initial.bytes)
