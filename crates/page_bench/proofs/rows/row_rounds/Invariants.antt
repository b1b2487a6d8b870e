use Rattle.row_dir.specs.Directory.{IsBelow}
use Rattle.page_bench.proofs.rows.row_rounds.Given as goal

abbrev pub invariant-rounds : goal.invariant-rounds
invariant-rounds l = IsBelow 8_192 l.dir
