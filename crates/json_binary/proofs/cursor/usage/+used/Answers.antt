use Rattle.std.proofs.Common.{◌-◌, ap, arith}
use Rattle.json_binary.specs.Place.{container_of, spot_of}
use Rattle.binary_model.specs.Layout.{child}
use Rattle.json_binary.specs.View.{form_of}
use Rattle.json_binary.proofs.UsageLemmas.{values_step, values_done, behind_reached, object_uses}
use Rattle.json_binary.proofs.cursor.usage.+used.Goals as goal

pub values_used-loop-k-preserved : goal.values_used-loop-k-preserved
values_used-loop-k-preserved t c = (
  omega (arith, c.saturating_add-total.ensures),
  (λ ts floor a n d. values_step c.args.bytes.now (container_of c.args.container) c.loop-k.k floor c.args.nesting c.loop-k.total _ c.behind_used.result ts a (omega (arith, n, c.loop-k-test.true, c.count-k-end.ensures.count)) d
      c.behind_used.ensures c.saturating_add-total.ensures (c.loop-k.invariant.1 ts floor a n d)),
)

pub values_used-returns : goal.values_used-returns
values_used-returns t c =
    λ ts floor a n d. values_done c.args.bytes.now (container_of c.args.container) c.loop-k.k c.loop-k.total ts c.loop-k.invariant.0 (omega (arith, n, c.loop-k-test.false, c.count-k-end.ensures.count)) (c.loop-k.invariant.1 ts floor a n d)

pub behind_used-returns-then-spot : goal.behind_used-returns-then-spot
behind_used-returns-then-spot t c =
    λ u v d. absurd (behind_reached c.args.bytes.now u (spot_of c.child-spot.result) (child c.args.bytes.now (container_of c.args.container) c.args.k) c.child-spot.ensures v c.if-spot.true)

pub object_used-returns : goal.object_used-returns
object_used-returns t c =
    λ u v d. let e = object_uses c.args.bytes.now (spot_of c.args.spot) (form_of c.args.form) u c.args.nesting (c.entries_end.result - c.args.spot.at) c.keys_used.result c.values_used.result c.requires.kind v d
    (ap (λ n. n - c.args.spot.at) c.entries_end.ensures) c.keys_used.ensures c.values_used.ensures in
    omega (arith, e, c.saturating_add.ensures, c.saturating_add-2.ensures)
