use Rattle.std.proofs.Common.{◌∙◌}
use Rattle.json_patch.specs.declared.lead.End.TheVariants as end
use Rattle.json_patch.proofs.LeadLemmas.{led_to}
use Rattle.json_patch.proofs.RemovalLemmas.{value_taken}
use Rattle.json_patch.proofs.removal.taken_by.Goals as goal

pub returns-then-place : goal.returns-then-place
returns-then-place c =
    let bytes = c.args.bytes.now in
    let path = c.args.path.now in
    let p = c.in-Value.place in
    λ t h. let at = led_to bytes t _ path c.in_ok-led.led (end.Value p) (c.in_ok-led.ensures.led t h.is h.value) c.legs.ensures.legs c.in-Value.is in
    value_taken bytes t path c.in_ok-led.led.positions.items p c.in_ok-writes.writes.items at.0.0 at.0.1 (at.1 ∙ c.if-place.true) c.in_ok-writes.ensures
