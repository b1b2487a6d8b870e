use Rattle.std.proofs.Common.{ℕ, ◌-◌, ◌<◌, ◌≤◌}
use Rattle.doublewrite.specs.Batches.{number_of}
use Rattle.doublewrite.proofs.RepairLemmas.{CopiesSome}
use Rattle.doublewrite.proofs.recovery.copy_images.Given as goal

abbrev pub invariant-pages : goal.invariant-pages
invariant-pages g l =
    (few : l.fn.count ≤ 32) × (below : (i : ℕ) → i < l.fn.count → number_of l.fn.header i < l.fn.layout.pages)
    × CopiesSome l.fn.layout l.fn.header l.fn.count few below l.i (g.D.Disk.state l.fn.disk) (g.D.Disk.state l.disk)

abbrev pub decreases-pages : goal.decreases-pages
decreases-pages g l = l.count - l.i
