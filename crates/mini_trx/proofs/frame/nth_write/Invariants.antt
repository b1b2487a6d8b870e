use Rattle.std.proofs.Common.{◌≡◌, drop}
use Rattle.page_model.specs.Frames.{writes_bytes, writes_in}
use Rattle.mini_trx.proofs.frame.nth_write.Given as goal

abbrev pub invariant-loop-n : goal.invariant-loop-n
invariant-loop-n l = l.rest ≡ writes_bytes (drop l._n (writes_in l.frame))
