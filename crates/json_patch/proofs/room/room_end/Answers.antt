use Rattle.std.proofs.Common.{◌≡◌, ◌∙◌, sym, true, arith, rules}
use Rattle.binary_model.specs.Layout as layout
use Rattle.json_binary.specs.View.{form_of}
use Rattle.json_patch.proofs.RoomLemmas.{on_over}
use Rattle.json_patch.proofs.room.room_end.Goals as goal

pub loop-next-preserved : goal.loop-next-preserved
loop-next-preserved c =
    let inl : layout.is_inlined (form_of c.args.container.form) (layout.kind_at c.args.bytes.now c.child-spot.result.type_at) ≡ true = sym c.inlines.ensures ∙ search rules in
    let low = c.loop-next-test.true in
    let many = c.count-count.ensures.count in
    (omega (arith, low, many), on_over c.args.bytes.now c.args.container c.args.k c.loop-next.next c.child-spot.result (omega (arith, low, many)) c.child-spot.ensures inl c.loop-next.invariant.1)
