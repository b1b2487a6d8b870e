use Rattle.row_dir.specs.Directory.{IsBelow}
use Rattle.row_dir.proofs.tests.rows_take_the_first_free_slot.Given as goal

abbrev pub invariant-steps : goal.invariant-steps
invariant-steps g l = IsBelow 16 l.dir
