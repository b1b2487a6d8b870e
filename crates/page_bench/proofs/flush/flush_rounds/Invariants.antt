use Rattle.std.proofs.Common.{◌≡◌}
use Rattle.page_bench.proofs.flush.flush_rounds.Given as goal

abbrev pub invariant-loop : goal.invariant-loop
invariant-loop l = l.log.layout.pages ≡ 16
