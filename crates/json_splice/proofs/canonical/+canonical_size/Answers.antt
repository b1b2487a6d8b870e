use Rattle.std.proofs.Common.{◌≡◌, ◌+◌, ◌-◌, ◌<◌, length, Some, refl, ap, sym, subst, ◌∙◌, arith, rules}
use Rattle.tree_model.specs.Tree.{tree_list}
use Rattle.binary_model.specs.Layout.{kind_at, small, literal, signed, unsigned, string, child}
use Rattle.binary_model.specs.Stands.{IsBytes, IsValue}
use Rattle.binary_model.specs.Canonical.{spellings, entries_size}
use Rattle.binary_model.proofs.in_place.RefitLemmas.{nth}
use Rattle.json_binary.specs.Place.{container_of, spot_of}
use Rattle.json_binary.specs.View.{width_of, kind_if}
use Rattle.json_splice.specs.Spelled.{AreValuesAt}
use Rattle.json_splice.proofs.HeldLemmas.{on_some}
use Rattle.json_splice.proofs.ValuesLemmas.{entries_more, measured_more, nth_value, nth_depth, values_found}
use Rattle.json_splice.proofs.ContainerLemmas.{container_held, literal_spelled, number_spelled, text_spelled, container_spelled}
use Rattle.json_splice.proofs.canonical.+canonical_size.Goals as goal

pub canonical_size-returns-in-Some-Literal : goal.canonical_size-returns-in-Some-Literal
canonical_size-returns-in-Some-Literal t c =
    let k : kind_at c.args.bytes.now c.args.spot.type_at ≡ literal = c.of.ensures ∙ ap kind_if (c.in-Some-Literal.is ∙ ap Some c.in-Some-Literal.field-0-is) in
    λ u v d. literal_spelled c.args.bytes.now (spot_of c.args.spot) u k v c.requires.inside.ends

pub canonical_size-returns-in-Some-Signed : goal.canonical_size-returns-in-Some-Signed
canonical_size-returns-in-Some-Signed t c =
    let w = width_of c.in-Some-Signed.width in
    let k : kind_at c.args.bytes.now c.args.spot.type_at ≡ signed w = c.of.ensures ∙ ap kind_if (c.in-Some-Signed.is ∙ ap Some c.in-Some-Signed.field-0-is) in
    on_some _ _ c.signed_size.result (λ n found u v d. number_spelled c.args.bytes.now (spot_of c.args.spot) (signed w) u n k refl (λ e. cc) (λ e. cc) v found) c.signed_size.ensures

pub canonical_size-returns-in-Some-Unsigned : goal.canonical_size-returns-in-Some-Unsigned
canonical_size-returns-in-Some-Unsigned t c =
    let w = width_of c.in-Some-Unsigned.width in
    let k : kind_at c.args.bytes.now c.args.spot.type_at ≡ unsigned w = c.of.ensures ∙ ap kind_if (c.in-Some-Unsigned.is ∙ ap Some c.in-Some-Unsigned.field-0-is) in
    on_some _ _ c.unsigned_size.result (λ n found u v d. number_spelled c.args.bytes.now (spot_of c.args.spot) (unsigned w) u n k refl (λ e. cc) (λ e. cc) v found) c.unsigned_size.ensures

pub canonical_size-returns-in-Some-Text : goal.canonical_size-returns-in-Some-Text
canonical_size-returns-in-Some-Text t c =
    let k : kind_at c.args.bytes.now c.args.spot.type_at ≡ string = c.of.ensures ∙ ap kind_if (c.in-Some-Text.is ∙ ap Some c.in-Some-Text.field-0-is) in
    on_some _ _ c.text_size.result (λ n found u v d. text_spelled c.args.bytes.now (spot_of c.args.spot) u n k v found) c.text_size.ensures

pub canonical_size-returns-in-Some : goal.canonical_size-returns-in-Some
canonical_size-returns-in-Some t c =
    on_some _ _ c.container_size.result (λ n found u v d. container_spelled c.args.bytes.now (spot_of c.args.spot) (container_of c.in-Some.container) u c.args.nesting n c.in-Some.ensures.place v d found) c.container_size.ensures

pub container_size-returns : goal.container_size-returns
container_size-returns t c =
    let bytes = c.args.bytes.now in
    let d = container_of c.args.container in
    let octets : IsBytes bytes = search rules in
    let counted = c.count-count.ensures.count in
    λ ks ts names holds. container_held bytes d ks ts c.args.nesting c.entries_size-entries.result c.in_ok-keys.keys c.in_ok-behind.behind octets c.requires.framed names holds (c.entries_size-entries.ensures ∙ ap (entries_size d.form d.is_object) counted) (c.in_ok-keys.ensures ks names)
    (subst (λ o. AreValuesAt bytes d o (spellings ts) c.in_ok-behind.behind) (c.in_ok-offset.ensures.1) (c.in_ok-behind.ensures ts holds))
    (λ e. let h = c.needs_form.ensures c.if-not-needs_form.false e in let wide = c.entries_size-wide.ensures ∙ ap (entries_size small d.is_object) counted in omega (arith, h, wide, c.in_ok-checked_add.ensures.1, c.in_ok-small.ensures.1))

pub values_behind-loop-k-preserved : goal.values_behind-loop-k-preserved
values_behind-loop-k-preserved t c =
    let bytes = c.args.bytes.now in
    let d = container_of c.args.container in
    let k = c.loop-k.k in
    λ ts holds.
    let n = holds.number in
    let deep = holds.shallow in
    let low : k < length (tree_list ts) = omega (arith, n, c.loop-k-test.true, c.count-k-end.ensures.count) in
    let so_far = c.loop-k.invariant ts holds in
    let z : 0 + k ≡ k = omega arith in
    let v = subst (λ i. IsValue bytes (nth ts k) (child bytes d i)) z (nth_value bytes d 0 holds.floor k ts holds.elements low) in
    let shallow = nth_depth k ts low in
    let found = c.in_ok-size.ensures (nth ts k) v (omega (arith, shallow, deep)) in (
      entries_more bytes d k c.loop-k.end c.args.offset ts low c.in_ok-size.size c.in_ok-end.end found (c.in_ok-end.ensures.1 ∙ ap (λ x. c.loop-k.end + x) c.behind.ensures) so_far.0,
      measured_more bytes d k c.loop-k.end c.args.offset ts low c.in_ok-size.size d.form c.loop-k.end c.in_ok-end.end _ found.sized (c.in_ok-end.ensures.1 ∙ ap (λ x. c.loop-k.end + x) c.behind.ensures) so_far.1,
      measured_more bytes d k c.loop-k.end c.args.offset ts low c.in_ok-size.size small c.loop-k.small c.in_ok-small.small _ found.sized (c.in_ok-small.ensures.1 ∙ ap (λ x. c.loop-k.small + x) c.behind-in-loop-k.ensures) so_far.2,
    )

pub values_behind-returns : goal.values_behind-returns
values_behind-returns t c =
    let bytes = c.args.bytes.now in
    let d = container_of c.args.container in
    λ ts holds. let so_far = c.loop-k.invariant ts holds in
    values_found bytes d c.loop-k.k c.args.offset c.args.nesting ts (record { end = c.loop-k.end; small = c.loop-k.small }) holds c.requires.framed (omega (arith, c.loop-k-test.false, c.count-k-end.ensures.count)) (ap (λ n. n - d.at) (sym c.end.ensures.place) ∙ c.if-end-container.false) so_far.0 so_far.1 so_far.2
