use Rattle.std.proofs.Common.{◌≡◌}
use Rattle.file_crashes.proofs.recovered.with_log.Given as goal

abbrev pub invariant-groups : goal.invariant-groups
invariant-groups l = l.scan.layout ≡ l.layout
