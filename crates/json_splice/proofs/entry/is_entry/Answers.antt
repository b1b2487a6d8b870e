use Rattle.std.proofs.Common.{◌≡◌, ◌+◌, ◌-◌, ◌≤◌, length, replicate, sym, subst, ◌∙◌, arith, rules}
use Rattle.binary_model.specs.Layout.{word}
use Rattle.binary_model.specs.Stands.{IsBytes}
use Rattle.binary_model.specs.Canonical.{fill}
use Rattle.binary_model.specs.Place.{Holds}
use Rattle.json_binary.specs.View.{form_of, kind_of}
use Rattle.json_splice.proofs.EntryLemmas.{inlined_entry, offset_entry}
use Rattle.json_splice.proofs.entry.is_entry.Goals as goal

pub returns-then-spot-word_at : goal.returns-then-spot-word_at
returns-then-spot-word_at c =
    let bytes = c.args.bytes.now in
    let form = form_of c.args.container.form in
    let at = c.args.spot.type_at in
    let width : c.word-then-spot-word_at.result ≡ word form = c.word-then-spot-word_at.ensures in
    let inside : at + 1 + word form ≤ length bytes = omega (arith, c.if-bytes-spot.false, c.if-bytes-spot-2.false, c.word.ensures) in
    λ e v sized held. inlined_entry bytes form (kind_of c.args.size.kind) v at (c.args.container.at + c.args.offset) c.args.offset sized.kind inside (c.if-bytes-spot-3.false ∙ c.code.ensures) c.args.spot.at (sym c.is_inlined.ensures ∙ c.if-is_inlined.true)
    c.if-spot-word_at.true held (subst (λ w. Holds bytes (at + 1 + length v.1) (replicate (at + 1 + w - (at + 1 + length v.1)) (fill v))) width (c.is_filled.ensures e v sized (subst (λ p. Holds bytes p v.1) c.if-spot-word_at.true held)))

pub returns-then-word_at-offset : goal.returns-then-word_at-offset
returns-then-word_at-offset c =
    let bytes = c.args.bytes.now in
    let form = form_of c.args.container.form in
    let at = c.args.spot.type_at in
    let octets : IsBytes bytes = search rules in
    let inside : at + 1 + word form ≤ length bytes = omega (arith, c.if-bytes-spot.false, c.if-bytes-spot-2.false, c.word.ensures) in
    λ e v sized held. offset_entry bytes form (kind_of c.args.size.kind) v at (c.args.container.at + c.args.offset) c.args.offset sized.kind inside (c.if-bytes-spot-3.false ∙ c.code.ensures) c.args.spot.at c.word_at.result octets
    (sym c.is_inlined.ensures ∙ c.if-is_inlined.false) c.word_at.ensures.number c.if-word_at-offset.true (c.has_offset.ensures e) held
