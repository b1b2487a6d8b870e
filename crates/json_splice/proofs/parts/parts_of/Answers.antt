use Rattle.std.proofs.Common.{◌<◌, length, arith}
use Rattle.tree_model.specs.Tree.{tree_list}
use Rattle.json_binary.specs.Place.{container_of}
use Rattle.json_splice.proofs.PartsLemmas.{part_collected, parts_collected}
use Rattle.json_splice.proofs.parts.parts_of.Goals as goal

pub loop-k-preserved : goal.loop-k-preserved
loop-k-preserved c =
    let bytes = c.args.bytes.now in
    let d = container_of c.args.container in
    λ ts w holds is.
    let many = holds.number in
    let low : c.loop-k.k < length (tree_list ts) = omega (arith, many, c.loop-k-test.true, c.count-count.ensures.count) in
    part_collected bytes c.args.value.now.bytes.items d c.loop-k.k c.args.number c.args.nesting ts w c.loop-k.parts.items c.push.new.self.items c.in-Some.part holds low c.in_ok-push-in-Some.ensures.items
    (λ t v deep. c.in-Some.ensures t w v deep is) (c.loop-k.invariant ts w holds is)

pub returns : goal.returns
returns c =
    λ ts w holds is. let many = holds.number in
    parts_collected c.args.bytes.now c.args.value.now.bytes.items c.loop-k.k c.args.number ts w c.loop-k.parts.items (omega (arith, many, c.loop-k-test.false, c.count-count.ensures.count)) (c.loop-k.invariant ts w holds is)
