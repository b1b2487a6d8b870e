use Rattle.std.proofs.Common.{◌<◌, length, arith}
use Rattle.std.proofs.Common.{slice_range}
use Rattle.json_binary.specs.Place.{container_of}
use Rattle.json_splice.proofs.PartsLemmas.{key_collected}
use Rattle.json_splice.proofs.parts.object_keys.Goals as goal

pub loop-k-preserved : goal.loop-k-preserved
loop-k-preserved c =
    let bytes = c.args.bytes.now in
    let d = container_of c.args.container in
    λ ks start a n.
    let low : c.loop-k.k < length ks = omega (arith, n, c.loop-k-test.true, c.count-count.ensures.count) in
    key_collected bytes d c.loop-k.k start ks c.loop-k.keys.items c.push.new.self.items (record { start = c.key_range-start.result.0; end = c.key_range-start.result.1 }) a low c.in_ok-push.ensures.items
    (λ i. slice_range bytes (c.key_range-start.ensures.from i) (c.key_range-start.ensures.to i)) (c.loop-k.invariant ks start a n)
