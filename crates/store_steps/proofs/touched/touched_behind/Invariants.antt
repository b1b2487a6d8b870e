use Rattle.std.proofs.Common.{◌≡◌, ◌-◌, None}
use Rattle.store_parts.specs.Shows.{touched_from}
use Rattle.store_steps.specs.Touched.{next_touched}
use Rattle.store_steps.proofs.touched.touched_behind.Given as goal

abbrev pub invariant-pieces : goal.invariant-pieces
invariant-pieces l =
    next_touched l.fn.last (touched_from 0 l.fn.touched.pieces l.fn.touched.bits)
    ≡ next_touched None (touched_from l.k (l.fn.touched.pieces - l.k) l.fn.touched.bits)

abbrev pub decreases-pieces : goal.decreases-pieces
decreases-pieces l = l.touched.pieces - l.k
