use Rattle.std.proofs.Common.{arith, rules}
use Rattle.binary_model.specs.Stands.{IsBytes}
use Rattle.json_splice.proofs.ScalarLemmas.{signed_held}
use Rattle.json_splice.proofs.scalars.signed_size.Goals as goal

pub returns-then-needs_signed : goal.returns-then-needs_signed
returns-then-needs_signed c =
    let octets : IsBytes c.args.bytes.now = search rules in
    λ z h. signed_held c.args.bytes.now c.args.width z c.args.spot.at c.bytes-size.result octets (omega (arith, c.if-spot-size.false, c.requires.inside.ends)) c.bytes-size.ensures (c.needs_signed.ensures c.if-needs_signed.true) h.1
