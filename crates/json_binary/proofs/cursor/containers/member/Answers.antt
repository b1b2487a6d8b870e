use Rattle.std.proofs.Common.{◌≡◌, ◌+◌, ◌-◌, ◌/◌, ◌≤◌, subst, arith, map, length, Less, Greater}
use Rattle.tree_model.specs.Tree.{member_list, key_cmp}
use Rattle.binary_model.specs.Layout.{key_end, key_of}
use Rattle.json_binary.specs.Place.{container_of}
use Rattle.json_binary.proofs.SearchLemmas.{ascending, halved_low, halved_high, halved_none}
use Rattle.json_binary.proofs.cursor.containers.member.Goals as goal

pub loop-low-preserved-in-Less : goal.loop-low-preserved-in-Less
loop-low-preserved-in-Less c =
    let bytes = c.args.bytes.now in
    let d = container_of c.args.container in
    let low = c.loop-low.low in
    let high = c.loop-low.high in
    let middle = low + (high - low) / 2 in
    let order = subst (λ k. key_end bytes d middle ≤ length bytes → Less ≡ key_cmp (key_of bytes d middle) k) c.as_bytes.ensures.value c.in-Less.ensures.order in (
      c.loop-low.invariant.0,
      (λ ms floor are keys many. halved_low bytes d floor middle low high (map (λ m. m.0) (member_list ms)) c.args.key.now keys (ascending (member_list ms) are) c.requires.framed.1 (omega (arith, many, c.loop-low.invariant.0, c.loop-low-test.true)) order
          (c.loop-low.invariant.1 ms floor are keys many)),
    )

pub loop-low-preserved : goal.loop-low-preserved
loop-low-preserved c =
    let bytes = c.args.bytes.now in
    let d = container_of c.args.container in
    let low = c.loop-low.low in
    let high = c.loop-low.high in
    let middle = low + (high - low) / 2 in
    let order = subst (λ k. key_end bytes d middle ≤ length bytes → Greater ≡ key_cmp (key_of bytes d middle) k) c.as_bytes.ensures.value c.in-Greater.ensures.order in (
      omega (arith, c.loop-low.invariant.0, c.loop-low-test.true),
      (λ ms floor are keys many. halved_high bytes d floor middle low high (map (λ m. m.0) (member_list ms)) c.args.key.now keys (ascending (member_list ms) are) c.requires.framed.1 (omega (arith, many, c.loop-low.invariant.0, c.loop-low-test.true)) order
          (c.loop-low.invariant.1 ms floor are keys many)),
    )

pub returns-clause-absent : goal.returns-clause-absent
returns-clause-absent c =
    λ ms floor are keys many. halved_none c.args.key.now ms c.loop-low.low c.loop-low.high c.loop-low-test.false (c.loop-low.invariant.1 ms floor are keys many)
