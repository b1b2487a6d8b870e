use Rattle.std.proofs.Common.{◌≡◌, sym, subst, ◌∙◌, arith, IsSomeAnd, slice_range}
use Rattle.json_splice.proofs.ScalarLemmas.{text_held}
use Rattle.json_splice.proofs.scalars.text_size.Goals as goal

pub returns : goal.returns
returns c =
    let bytes = c.args.bytes.now in
    let start = c.in_ok-start.start in
    let end = c.in_ok-start.end in
    λ letters h.
    let is : slice_range bytes start end ≡ letters = subst (λ o. IsSomeAnd o (λ r. slice_range bytes r.0 r.1 ≡ letters)) (sym c.in_ok-start.ensures.range) h.1 in
    text_held bytes letters c.args.spot.at start end c.in_ok-start.ensures.within.1 (omega (arith, c.in_ok-start.ensures.within.2, c.requires.inside.ends)) is c.in_ok-letters.ensures.0 (sym c.if-letters-start.false ∙ c.in_ok-letters.ensures.1)
