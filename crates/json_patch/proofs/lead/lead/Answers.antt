use Rattle.std.proofs.Common.{◌-◌, true, length, map, take, drop, refl, sym, ap, subst}
use Rattle.json_path.specs.View.{leg_of}
use Rattle.json_binary.specs.Place.{spot_of}
use Rattle.json_edit.proofs.ChildLemmas.{parts}
use Rattle.json_patch.specs.declared.lead.End.TheVariants as end
use Rattle.json_patch.specs.Led.{EndsInside}
use Rattle.json_patch.proofs.LeadLemmas.{Walk, walk_itself, walk_value, walk_nothing, inside_itself}
use Rattle.json_patch.proofs.lead.lead.Goals as goal

pub returns-in-Nothing-clause-led : goal.returns-in-Nothing-clause-led
returns-in-Nothing-clause-led c =
    let bytes = c.args.bytes.now in
    let now = c.loop-left in
    let e = ap (map leg_of) (parts now.left.now c.leg-item.result c.in-len1-up.len_at_least c.leg-item.is) in
    λ t is v. walk_nothing bytes t (map leg_of c.args.legs.now) (leg_of c.leg-item.result) _ now.positions.items (spot_of now.spot) now.end c.adds.result _
    (subst (λ ls. Walk bytes t (map leg_of c.args.legs.now) ls now.positions.items (spot_of now.spot) now.end) e (now.invariant.2 t is v)) c.in-Nothing.ensures.entered c.adds.ensures refl

pub loop-left-preserved-in-Itself : goal.loop-left-preserved-in-Itself
loop-left-preserved-in-Itself c =
    let bytes = c.args.bytes.now in
    let now = c.loop-left in
    let e = ap (map leg_of) (parts now.left.now c.leg-item.result c.in-len1-up.len_at_least c.leg-item.is) in (
      now.invariant.0,
      subst (EndsInside bytes) (sym c.staying-end.ensures) (inside_itself bytes now.end now.invariant.1),
      λ t is v. subst (Walk bytes t (map leg_of c.args.legs.now) _ now.positions.items (spot_of now.spot)) (sym c.staying-end.ensures)
          (walk_itself bytes t (map leg_of c.args.legs.now) (leg_of c.leg-item.result) _ now.positions.items (spot_of now.spot) now.end
          (subst (λ ls. Walk bytes t (map leg_of c.args.legs.now) ls now.positions.items (spot_of now.spot) now.end) e (now.invariant.2 t is v)) c.in-Itself.ensures.entered),
    )

pub loop-left-preserved : goal.loop-left-preserved
loop-left-preserved c =
    let bytes = c.args.bytes.now in
    let now = c.loop-left in
    let rest = map leg_of (take (length now.left.now - 1) (drop 1 now.left.now)) in
    let e = ap (map leg_of) (parts now.left.now c.leg-item.result c.in-len1-up.len_at_least c.leg-item.is) in (
      c.in-Value.ensures.within,
      c.in-Value.ensures.within,
      λ t is v. subst (λ ks. Walk bytes t (map leg_of c.args.legs.now) rest ks (spot_of c.in-Value.inner) (end.Value (record { container = c.in-Value.container; number = c.in-Value.number; spot = c.in-Value.inner; taken = true }))) (sym c.in_ok-push-in-Value.ensures.items)
          (walk_value bytes t (map leg_of c.args.legs.now) (leg_of c.leg-item.result) _ now.positions.items (spot_of now.spot) now.end c.in-Value.container c.in-Value.number c.in-Value.inner
          (subst (λ ls. Walk bytes t (map leg_of c.args.legs.now) ls now.positions.items (spot_of now.spot) now.end) e (now.invariant.2 t is v)) c.in-Value.ensures.entered),
    )
