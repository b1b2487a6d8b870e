use Rattle.std.proofs.Common.{◌≡◌, pos, sym, ap, subst, ◌∙◌, arith, rules}
use Rattle.binary_model.specs.Layout.{unsigned, number_at}
use Rattle.binary_model.specs.Stands.{IsBytes}
use Rattle.json_binary.specs.View.{width_of}
use Rattle.json_splice.specs.Spelled.{IsNumberAt}
use Rattle.json_splice.proofs.ScalarLemmas.{unsigned_held}
use Rattle.json_splice.proofs.scalars.unsigned_size.Goals as goal

pub returns-else-eight_at-lt9223372036854775808 : goal.returns-else-eight_at-lt9223372036854775808
returns-else-eight_at-lt9223372036854775808 c =
    let octets : IsBytes c.args.bytes.now = search rules in
    let bytes = c.args.bytes.now in
    let eight : width_of c.args.width ≡ 8 = ap width_of c.in-Eight.is in
    let size : c.bytes-size.result ≡ 8 = c.bytes-size.ensures ∙ eight in
    λ z h. subst (λ w. IsNumberAt bytes (unsigned w) z c.args.spot.at c.bytes-size.result) (sym eight) (subst (IsNumberAt bytes (unsigned 8) z c.args.spot.at) (sym size)
    (unsigned_held bytes z c.args.spot.at c.eight_at.result octets (omega (arith, size, c.if-spot-size.false, c.requires.inside.ends)) c.eight_at.ensures c.if-eight_at-lt9223372036854775808.false (subst (λ w. pos (number_at bytes w c.args.spot.at) ≡ z) eight h.1)))
