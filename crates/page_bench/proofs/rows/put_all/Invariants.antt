use Rattle.row_dir.specs.Directory.{IsBelow}
use Rattle.page_bench.proofs.rows.put_all.Given as goal

abbrev pub invariant-rows : goal.invariant-rows
invariant-rows l = IsBelow 8_192 l.dir
