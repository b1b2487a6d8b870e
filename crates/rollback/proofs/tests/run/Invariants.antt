use Rattle.std.proofs.Common.{◌<◌}
use Rattle.row_dir.specs.Directory.{IsBelow}
use Rattle.store_steps.specs.Reached.{IsFit}
use Rattle.rollback.proofs.tests.run.Given as goal

abbrev pub invariant-events : goal.invariant-events
invariant-events l =
    (l.job.log.0 < 16) × IsFit 16 l.job.reached × IsBelow 16 l.rows
