use Rattle.row_dir.specs.Directory.{IsBelow}
use Rattle.row_dir.proofs.tests.put_all.Given as goal

abbrev pub invariant-rows : goal.invariant-rows
invariant-rows l = IsBelow 16 l.dir
