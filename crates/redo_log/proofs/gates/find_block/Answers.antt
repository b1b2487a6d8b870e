use Rattle.redo_log.proofs.FindLemmas.{over_one}
use Rattle.redo_log.proofs.gates.find_block.Goals as goal

pub gates-preserved : goal.gates-preserved
gates-preserved g c =
    over_one c.args.blocks c.args.len c.args.from c.read_gate-in-gates.result
    c.gates.at c.gates.gate c.in_ok-gate-2.gate (g.D.Disk.state c.args.disk.now) (g.D.Disk.state c.gates.disk) (g.D.Disk.state c.read_gate-in-gates.new.disk) (c.is_empty.ensures.empty c.gates-test.true) c.gates.invariant c.in_ok-gate-2.ensures.inside c.in_ok-gate-2.ensures.is
    c.read_gate-in-gates.ensures.stays c.read_gate-in-gates.ensures.goes_on
