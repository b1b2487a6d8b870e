use Rattle.std.proofs.Common.{◌≡◌, ◌+◌, ◌≤◌, drop}
use Rattle.mem_disk.specs.Crash.{reads_from}
use Rattle.mem_disk.proofs.mem_disk.count_from.Given as goal

abbrev pub invariant-loop-place : goal.invariant-loop-place
invariant-loop-place l = (l.count + reads_from l.from (drop l.place-index l.places) ≡ reads_from l.from l.places) × (l.count ≤ l.place-index)
