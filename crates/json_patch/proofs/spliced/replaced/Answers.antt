use Rattle.std.proofs.Common.{◌≡◌, ◌≤◌, IfSome, sym, ap, subst, ◌∙◌}
use Rattle.tree_model.specs.Tree.{Tree, IsTree, depth}
use Rattle.binary_model.specs.Stands.{IsValue}
use Rattle.binary_model.specs.Canonical.{spelling}
use Rattle.binary_model.proofs.in_place.PositionLemmas.{put_at}
use Rattle.json_tree.specs.View.{tree_of}
use Rattle.json_binary.specs.Place.{spot_of}
use Rattle.json_binary.specs.Writing.{spelling_of}
use Rattle.json_patch.specs.Led.{IsLed}
use Rattle.json_patch.proofs.SplicedLemmas.{replaced_from, on_both}
use Rattle.json_patch.proofs.spliced.replaced.Goals as goal

pub returns-in-Some-3 : goal.returns-in-Some-3
returns-in-Some-3 c =
    let bytes = c.args.bytes.now in
    let path = c.args.pair.now.path in
    let v = tree_of c.args.pair.now.value in
    let ks = c.in-Some.positions.items in
    let whole = c.in-Some-3.whole in
    let is : IsTree v = subst (λ o. IfSome o (λ x. IsTree v)) c.in-Some-2.is c.in_ok-value.ensures.is_tree in
    let new : spelling_of c.in-Some-2.value ≡ spelling v = subst (λ o. IfSome o (λ x. spelling_of x ≡ spelling v)) c.in-Some-2.is c.in_ok-value.ensures.spelled in
    let laid : (t w : Tree) → IsValue bytes t (spot_of c.root.result) → depth t ≤ 100 → spelling_of c.in-Some-2.value ≡ spelling w → spelling_of whole ≡ spelling (put_at c.deref.result.now w t) =
    subst (λ o. IfSome o (λ s. (t w : Tree) → IsValue bytes t (spot_of c.root.result) → depth t ≤ 100 → spelling_of c.in-Some-2.value ≡ spelling w → spelling_of s ≡ spelling (put_at c.deref.result.now w t))) c.in-Some-3.is c.in_ok-whole.ensures in
    on_both _ _ _ c.document.result c.document.ensures.is c.document.ensures.fits (λ out e fits t s.
    let led : IsLed bytes t path c.in_ok-led.led = subst (λ l. IsLed bytes t l c.in_ok-led.led) c.legs.ensures.legs (c.in_ok-led.ensures.led t s.«tree» s.value) in
    let here = subst (IsValue bytes t) (sym c.root.ensures.place) s.value in
    replaced_from path v t ks (spelling_of whole) out.items is (c.in-Some.ensures bytes t path led) (laid t v here s.nested new ∙ ap (λ l. spelling (put_at l v t)) c.deref.ensures.value) e fits)
