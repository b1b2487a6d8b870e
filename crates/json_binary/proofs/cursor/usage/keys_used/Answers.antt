use Rattle.std.proofs.Common.{arith}
use Rattle.json_binary.specs.Place.{container_of}
use Rattle.json_binary.proofs.UsageLemmas.{keys_step}
use Rattle.json_binary.proofs.cursor.usage.keys_used.Goals as goal

pub loop-k-preserved : goal.loop-k-preserved
loop-k-preserved c = (
  omega (arith, c.saturating_add-total.ensures),
  (λ ks floor a n. keys_step c.args.bytes.now (container_of c.args.container) c.loop-k.k floor c.loop-k.total _ _ _ ks a c.requires.framed.1 (omega (arith, n, c.loop-k-test.true, c.count-k-end.ensures.count)) c.key_range-start.ensures.from c.key_range-start.ensures.to
      c.saturating_add-total.ensures (c.loop-k.invariant.1 ks floor a n)),
)
