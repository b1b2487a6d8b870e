use Rattle.std.proofs.Common.{◌≡◌, ◌∙◌, sym, true, false, arith, rules}
use Rattle.binary_model.specs.Layout as layout
use Rattle.json_binary.specs.View.{form_of}
use Rattle.json_patch.proofs.RoomLemmas.{kid_in, back_over, back_to}
use Rattle.json_patch.proofs.room.end_before.Goals as goal

pub value_end-requires-clause-stands : goal.value_end-requires-clause-stands
value_end-requires-clause-stands c =
    let i = c.loop-before.invariant in
    (kid_in c.args.bytes.now c.args.container _ c.child-spot.result c.requires.stands (omega (arith, i.0, c.requires.inside, c.loop-before-test.true)) c.child-spot.ensures).0

pub value_end-requires-clause-inside : goal.value_end-requires-clause-inside
value_end-requires-clause-inside c =
    let i = c.loop-before.invariant in
    (kid_in c.args.bytes.now c.args.container _ c.child-spot.result c.requires.stands (omega (arith, i.0, c.requires.inside, c.loop-before-test.true)) c.child-spot.ensures).1

pub returns-then-not-inlines : goal.returns-then-not-inlines
returns-then-not-inlines c =
    let out : layout.is_inlined (form_of c.args.container.form) (layout.kind_at c.args.bytes.now c.child-spot.result.type_at) ≡ false = sym c.inlines.ensures ∙ search rules in
    c.value_end.ensures ∙ back_to c.args.bytes.now c.args.container c.args.k c.loop-before.before c.child-spot.result c.loop-before-test.true c.child-spot.ensures out c.loop-before.invariant.1

pub loop-before-preserved : goal.loop-before-preserved
loop-before-preserved c =
    let inl : layout.is_inlined (form_of c.args.container.form) (layout.kind_at c.args.bytes.now c.child-spot.result.type_at) ≡ true = sym c.inlines.ensures ∙ search rules in
    let low = c.loop-before.invariant.0 in
    (omega (arith, low), back_over c.args.bytes.now c.args.container c.args.k c.loop-before.before c.child-spot.result c.loop-before-test.true c.child-spot.ensures inl c.loop-before.invariant.1)
