use Rattle.std.proofs.Common.{◌≡◌, ◌+◌, ◌-◌, ◌/◌, ◌%◌, ◌∷◌, length, sym, ap, subst, ◌∙◌, arith}
use Rattle.binary_model.specs.Canonical.{groups}
use Rattle.binary_model.specs.Place.{Holds}
use Rattle.json_binary.proofs.NumberLemmas.{groups_more}
use Rattle.json_splice.proofs.HeldLemmas.{one_held, first_held, on_some}
use Rattle.json_splice.proofs.ScalarLemmas.{groups_last}
use Rattle.json_splice.proofs.scalars.+groups_end.Goals as goal

pub returns-then-byte-number : goal.returns-then-byte-number
returns-then-byte-number t c =
    let bytes = c.args.bytes.now in
    let e = groups_last c.args.groups c.args.number c.if-groups-eq0.false c.if-number-lt128.true in
    (subst (Holds bytes c.args.at) (sym e) (one_held bytes c.args.at c.args.number c.if-bytes-at.false c.if-byte-number.true), ap (λ xs. c.args.at + length xs) (sym e))

pub returns-then-byte-number-2 : goal.returns-then-byte-number-2
returns-then-byte-number-2 t c =
    let bytes = c.args.bytes.now in
    let n = c.args.number in
    let rest = groups (c.args.groups - 1) (n / 128) in
    let e = groups_more c.args.groups n c.if-groups-eq0.false c.if-number-lt128.false in
    on_some _ _ c.groups_end.result (λ end h. (
      subst (Holds bytes c.args.at) (sym e) (first_held bytes c.args.at (128 + n % 128) rest c.if-bytes-at.false c.if-byte-number-2.true h.0),
      h.1 ∙ (let one : c.args.at + 1 + length rest ≡ c.args.at + length ((128 + n % 128) ∷ rest) = omega arith in one) ∙ ap (λ xs. c.args.at + length xs) (sym e),
    )) c.groups_end.ensures
