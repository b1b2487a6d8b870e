use Rattle.std.proofs.Common.{◌≡◌, Some, ap, sym, ◌∙◌, arith, ◌++◌, false}
use Rattle.tree_model.specs.Text.{trees_text, members_text}
use Rattle.json_tree.specs.View.{tree_of}
use Rattle.json_binary.specs.Place.{container_of, spot_of}
use Rattle.json_binary.specs.View.{form_of, width_of, kind_if}
use Rattle.binary_model.specs.Layout.{kind_at, literal, signed, unsigned}
use Rattle.json_binary.specs.Decoding.{literal_at, signed_at, unsigned_at}
use Rattle.json_tree.proofs.Growth.{extends_on}
use Rattle.json_binary.proofs.TextLemmas.{element_text, elements_text, member_text, members_text_done, array_text, object_text, literal_found, signed_found, unsigned_found, given_as, on_ok}
use Rattle.json_binary.proofs.cursor.text.+print.Goals as goal

pub push_value-returns-in-Some-Literal-clause-ok : goal.push_value-returns-in-Some-Literal-clause-ok
push_value-returns-in-Some-Literal-clause-ok t c =
    let k : kind_at c.args.bytes.now c.args.spot.type_at ≡ literal = c.of.ensures ∙ ap kind_if (c.in-Some-Literal.is ∙ ap Some c.in-Some-Literal.field-0-is) in
    on_ok _ _ c.push_found.result (λ h u v d. h u (given_as _ c.read_literal.result _ _ (literal_found c.args.bytes.now (spot_of c.args.spot) u k v) c.read_literal.ensures.value)) c.push_found.ensures.ok

pub push_value-returns-in-Some-Signed-clause-ok : goal.push_value-returns-in-Some-Signed-clause-ok
push_value-returns-in-Some-Signed-clause-ok t c =
    let k : kind_at c.args.bytes.now c.args.spot.type_at ≡ signed (width_of c.in-Some-Signed.width) = c.of.ensures ∙ ap kind_if (c.in-Some-Signed.is ∙ ap Some c.in-Some-Signed.field-0-is) in
    on_ok _ _ c.push_found-in-Some-Signed.result (λ h u v d. h u (given_as _ c.read_signed.result _ _ (signed_found c.args.bytes.now (spot_of c.args.spot) (width_of c.in-Some-Signed.width) u k v) c.read_signed.ensures.value)) c.push_found-in-Some-Signed.ensures.ok

pub push_value-returns-in-Some-Unsigned-clause-ok : goal.push_value-returns-in-Some-Unsigned-clause-ok
push_value-returns-in-Some-Unsigned-clause-ok t c =
    let k : kind_at c.args.bytes.now c.args.spot.type_at ≡ unsigned (width_of c.in-Some-Unsigned.width) = c.of.ensures ∙ ap kind_if (c.in-Some-Unsigned.is ∙ ap Some c.in-Some-Unsigned.field-0-is) in
    on_ok _ _ c.push_found-in-Some-Unsigned.result (λ h u v d. h u (given_as _ c.read_unsigned.result _ _ (unsigned_found c.args.bytes.now (spot_of c.args.spot) (width_of c.in-Some-Unsigned.width) u k v) c.read_unsigned.ensures.value)) c.push_found-in-Some-Unsigned.ensures.ok

pub push_array-returns-clause-ok : goal.push_array-returns-clause-ok
push_array-returns-clause-ok t c =
    λ u v d. array_text c.args.bytes.now (spot_of c.args.spot) (form_of c.args.form) u c.args.nesting c.args.out.now.items c.push.new.self.items c.push_elements.new.out.items c.push-2.new.self.items c.requires.kind v d
    c.in_ok-push.ensures.items c.in_ok-push_elements.ensures.ok c.in_ok-push-2.ensures.items

pub push_object-returns-clause-ok : goal.push_object-returns-clause-ok
push_object-returns-clause-ok t c =
    λ u v d. object_text c.args.bytes.now (spot_of c.args.spot) (form_of c.args.form) u c.args.nesting c.args.out.now.items c.push.new.self.items c.push_members.new.out.items c.push-2.new.self.items c.requires.kind v d
    c.in_ok-push.ensures.items c.in_ok-push_members.ensures.ok c.in_ok-push-2.ensures.items

pub push_elements-loop-k-preserved : goal.push_elements-loop-k-preserved
push_elements-loop-k-preserved t c = (
  (λ ts floor a n d. element_text c.args.bytes.now (container_of c.args.container) c.loop-k.k floor c.args.nesting ts c.loop-k.later (c.args.out.now.items ++ trees_text false ts) c.loop-k.out.items c.push_comma.new.out.items c.push_child.new.out.items
      a (omega (arith, n, c.loop-k-test.true, c.count-k-end.ensures.count)) d c.in_ok-push_comma.ensures.ok c.in_ok-push_child.ensures.ok (c.loop-k.invariant.0 ts floor a n d)),
  extends_on _ _ _ (extends_on _ _ _ c.loop-k.invariant.1 c.in_ok-push_comma.ensures.kept) c.in_ok-push_child.ensures.kept,
)

pub push_elements-returns-clause-ok : goal.push_elements-returns-clause-ok
push_elements-returns-clause-ok t c =
    λ ts floor a n d. elements_text c.args.bytes.now (container_of c.args.container) c.loop-k.k floor c.args.nesting ts c.loop-k.later (c.args.out.now.items ++ trees_text false ts) c.loop-k.out.items (omega (arith, n, c.loop-k-test.false, c.count-k-end.ensures.count)) (c.loop-k.invariant.0 ts floor a n d)

pub push_members-loop-k-preserved : goal.push_members-loop-k-preserved
push_members-loop-k-preserved t c = (
  (λ ms start floor a h n d. member_text c.args.bytes.now (container_of c.args.container) c.loop-k.k start floor c.args.nesting ms c.loop-k.later (c.args.out.now.items ++ members_text false ms) c.loop-k.out.items c.push_comma.new.out.items c.push_key.new.out.items c.push_child.new.out.items
      a h (omega (arith, n, c.loop-k-test.true, c.count-k-end.ensures.count)) d c.in_ok-push_comma.ensures.ok c.in_ok-push_key.ensures.ok c.in_ok-push_child.ensures.ok (c.loop-k.invariant.0 ms start floor a h n d)),
  extends_on _ _ _ (extends_on _ _ _ (extends_on _ _ _ c.loop-k.invariant.1 c.in_ok-push_comma.ensures.kept) c.in_ok-push_key.ensures.kept) c.in_ok-push_child.ensures.kept,
)

pub push_members-returns-clause-ok : goal.push_members-returns-clause-ok
push_members-returns-clause-ok t c =
    λ ms start floor a h n d. members_text_done c.args.bytes.now (container_of c.args.container) c.loop-k.k start floor c.args.nesting ms c.loop-k.later (c.args.out.now.items ++ members_text false ms) c.loop-k.out.items (omega (arith, n, c.loop-k-test.false, c.count-k-end.ensures.count)) (c.loop-k.invariant.0 ms start floor a h n d)
