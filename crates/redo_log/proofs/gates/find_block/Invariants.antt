use Rattle.std.proofs.Common.{◌-◌}
use Rattle.redo_log.proofs.FindLemmas.{GoesOver}
use Rattle.redo_log.proofs.gates.find_block.Given as goal

abbrev pub invariant-gates : goal.invariant-gates
invariant-gates g l =
    GoesOver l.fn.blocks l.fn.len l.fn.from l.at l.gate (g.D.Disk.state l.fn.disk) (g.D.Disk.state l.disk)

abbrev pub decreases-gates : goal.decreases-gates
decreases-gates g l = l.fn.len - l.at
