use Rattle.std.proofs.Common.{◌≤◌, ◌+◌, ◌-◌, length, refl, sym, ap, ◌∙◌, arith}
use Rattle.binary_model.specs.Change.{room_start, room_end}
use Rattle.json_binary.specs.Place.{container_of}
use Rattle.json_binary.specs.Writing.{entry, spelling_of}
use Rattle.json_patch.proofs.WriteLemmas.{lies, made_inlined, made_outside}
use Rattle.json_patch.proofs.writes.replacing_by.Goals as goal

pub returns-then-is_inlined : goal.returns-then-is_inlined
returns-then-is_inlined c =
    let (t, spelled) = c.requires.spelled in
    made_inlined c.args.bytes.now c.args.container c.args.k t (spelling_of c.args.value) _ c.in_ok-writes.writes.items c.requires.stands c.requires.inside spelled
    (sym c.is_inlined.ensures ∙ c.if-is_inlined.true) c.value_entry-at.ensures.place c.in_ok-bytes.ensures c.in_ok-writes.ensures

pub overflow_sub-start : goal.overflow_sub-start
overflow_sub-start c =
    let l = lies c.args.bytes.now c.args.container c.args.k c.requires.stands c.requires.inside in
    let a = l.at in
    let b = l.entry in
    let d = l.start in
    let e = c.room_start-start.ensures in
    omega (arith, a, b, d, e)

pub returns : goal.returns
returns c =
    let bytes = c.args.bytes.now in
    let d = container_of c.args.container in
    let k = c.args.k in
    let v = spelling_of c.args.value in
    let l = lies bytes c.args.container k c.requires.stands c.requires.inside in
    let start = c.room_start-start.ensures in
    let end = c.room_end.ensures in
    let sum = c.saturating_add.ensures in
    let long = c.len.ensures ∙ c.args.value.bytes.ok.0 in
    let under = c.if-room_end-saturating_add.false in
    let top = l.top in
    let last = c.requires.stands.0.1 in
    let small = c.requires.small in
    let fits : room_start bytes d k + length v.1 ≤ room_end bytes d k = omega (arith, start, end, sum, long, under, top, last, small) in
    made_outside bytes c.args.container k v _ _ c.in_ok-writes-2.writes.items c.requires.stands c.requires.inside (sym c.is_inlined.ensures ∙ c.if-is_inlined.false) fits c.value_entry-at.ensures.place
    (c.in_ok-entry.ensures ∙ ap (λ s. entry d.form (s - c.args.container.at) v) start) start refl c.in_ok-writes-2.ensures
