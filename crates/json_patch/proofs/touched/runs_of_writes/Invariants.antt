use Rattle.std.proofs.Common.{map}
use Rattle.json_patch.specs.View.{run_of}
use Rattle.json_patch.specs.Writes.{put_writes}
use Rattle.json_patch.proofs.WriteLemmas.{left_writes}
use Rattle.json_patch.proofs.TouchLemmas.{Touched}
use Rattle.json_patch.proofs.touched.runs_of_writes.Given as goal

abbrev pub invariant-loop-write : goal.invariant-loop-write
invariant-loop-write l = Touched l.bytes (put_writes l.writes l.bytes) (left_writes l.writes l.write-index) (map run_of l.patches.items)
