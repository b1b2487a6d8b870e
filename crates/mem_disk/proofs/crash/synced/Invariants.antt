use Rattle.std.proofs.Common.{◌≤◌, length, drop}
use Rattle.mem_disk.specs.Crash.{AreWrites}
use Rattle.mem_disk.proofs.crash.synced.Given as goal

abbrev pub invariant-loop-n : goal.invariant-loop-n
invariant-loop-n l = (l.n ≤ length l.steps) × AreWrites (drop l.n l.steps)

abbrev pub decreases-loop-n : goal.decreases-loop-n
decreases-loop-n l = l.n
