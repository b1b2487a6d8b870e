use Rattle.std.proofs.Common.{◌-◌}
use Rattle.page_model.specs.Frames.{HasWrites}
use Rattle.mini_trx.proofs.frame.has_writes.Given as goal

-- what is left completes the whole, and nothing else does
abbrev pub invariant-loop-n : goal.invariant-loop-n
invariant-loop-n l = record {
  whole : HasWrites l.pages (l.count - l._n) l.rest → HasWrites l.pages l.count l.fn.bytes;
  left : HasWrites l.pages l.count l.fn.bytes → HasWrites l.pages (l.count - l._n) l.rest;
}
