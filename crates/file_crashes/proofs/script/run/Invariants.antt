use Rattle.std.proofs.Common.{◌≡◌}
use Rattle.file_crashes.proofs.script.run.Given as goal

abbrev pub invariant-loop-n : goal.invariant-loop-n
invariant-loop-n l = l.log.layout ≡ l.layout
