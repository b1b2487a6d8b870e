use Rattle.std.proofs.Common.{◌*◌}
use Rattle.page_space.specs.Bits.{AreOnes}
use Rattle.page_space.proofs.bits.lowest_zero.Given as goal

abbrev pub invariant-loop-i : goal.invariant-loop-i
invariant-loop-i l = AreOnes l.map (8 * l.i)
