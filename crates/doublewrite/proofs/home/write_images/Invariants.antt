use Rattle.std.proofs.Common.{◌-◌}
use Rattle.doublewrite.specs.Batches.{KeepsBatch}
use Rattle.doublewrite.proofs.HomeLemmas.{WritesSome}
use Rattle.doublewrite.proofs.home.write_images.Given as goal

abbrev pub invariant-pages : goal.invariant-pages
invariant-pages g l =
    (k : KeepsBatch l.fn.layout l.fn.count l.fn.buffer)
    × WritesSome l.fn.layout l.fn.count l.fn.buffer k l.i (g.D.Disk.state l.fn.disk) (g.D.Disk.state l.disk)

abbrev pub decreases-pages : goal.decreases-pages
decreases-pages g l = l.count - l.i
