use Rattle.std.proofs.Common.{◌≡◌, ◌++◌, ◌∷◌, ◌-◌, ◌+◌, ◌∙◌, [], Some, Err, IfSome, sym, ap, subst, arith, length, map}
use Rattle.json_tree.specs.View.{tree_of}
use Rattle.binary_model.specs.Layout.{end_as, entries_end, values_floor, count, floor_after}
use Rattle.binary_model.specs.FirstFault.{read_value}
use Rattle.json_binary.specs.View.{form_of, width_of, kind_if}
use Rattle.json_binary.specs.Place.{container_of, spot_of}
use Rattle.json_binary.specs.Decoding.{fault_of, Gives, values_of, members_of}
use Rattle.json_binary.proofs.DecodeLemmas
use Rattle.std.specs.Vec.Iter.{into_iter_items}
use Rattle.json_binary.proofs.MemberLemmas.{keys_counted, members_with_next, keys_more}
use Rattle.json_binary.proofs.codec.decoder.+value.Goals as goal
use Rattle.json_binary.proofs.codec.decoder.+value.Goals.{read_elements-then-not-inlines, read_elements-else-not-inlines, read_members-then-not-inlines, read_members-else-not-inlines}

-- ---- arrays

pub read_array-returns-then-nesting-eq0-clause-value : goal.read_array-returns-then-nesting-eq0-clause-value
read_array-returns-then-nesting-eq0-clause-value t c =
    let bytes = c.args.bytes.now in
    let s = spot_of c.args.spot in
    ap (λ n. read_value n bytes s) c.if-nesting-eq0.true ∙ DecodeLemmas.array_deep bytes s (form_of c.args.form) c.requires.kind

pub read_array-returns-in_err-check_frame-clause-value : goal.read_array-returns-in_err-check_frame-clause-value
read_array-returns-in_err-check_frame-clause-value t c =
    let bytes = c.args.bytes.now in
    let s = spot_of c.args.spot in
    let e = c.in_err-check_frame.field-0.0 in
    DecodeLemmas.exits (λ f. tree_of f.value) c.from_residual.result e (read_value c.args.nesting bytes s) c.from_residual.ensures.1
    (DecodeLemmas.array_bad_frame bytes s c.args.nesting c.if-nesting-eq0.false (form_of c.args.form) (fault_of e) c.requires.kind c.in_err-check_frame.ensures.gives)

pub read_array-returns-in_err-list-clause-value : goal.read_array-returns-in_err-list-clause-value
read_array-returns-in_err-list-clause-value t c =
    let bytes = c.args.bytes.now in
    let s = spot_of c.args.spot in
    let e = c.in_err-list.field-0.0 in
    DecodeLemmas.exits (λ f. tree_of f.value) c.from_residual-in_err-list.result e (read_value c.args.nesting bytes s) c.from_residual-in_err-list.ensures.1
    (DecodeLemmas.array_bad_values bytes s c.args.nesting c.if-nesting-eq0.false (form_of c.args.form) (fault_of e) _ c.requires.kind c.in_ok-check_frame.ensures.gives c.in_err-list.ensures)

pub read_array-returns-clause-value : goal.read_array-returns-clause-value
read_array-returns-clause-value t c =
    DecodeLemmas.array_good c.args.bytes.now (spot_of c.args.spot) c.args.nesting c.if-nesting-eq0.false (form_of c.args.form) _ c.in_ok-list.list c.requires.kind c.in_ok-check_frame.ensures.gives c.in_ok-list.ensures

pub read_array-returns-clause-end : goal.read_array-returns-clause-end
read_array-returns-clause-end t c = c.end.ensures.place ∙ sym (ap (λ k. end_as c.args.bytes.now k (spot_of c.args.spot)) c.requires.kind)

-- ---- values by their kind

pub read_value-returns-in-Some-Literal-clause-value : goal.read_value-returns-in-Some-Literal-clause-value
read_value-returns-in-Some-Literal-clause-value t c =
    let bytes = c.args.bytes.now in
    let s = spot_of c.args.spot in
    let kind = c.of.ensures ∙ ap kind_if (c.in-Some-Literal.is ∙ ap Some c.in-Some-Literal.field-0-is) in
    subst (Gives (λ f. tree_of f.value) c.read_literal.result) (sym (DecodeLemmas.value_literal bytes s c.args.nesting kind)) c.read_literal.ensures.value

pub read_value-returns-in-Some-Signed-clause-value : goal.read_value-returns-in-Some-Signed-clause-value
read_value-returns-in-Some-Signed-clause-value t c =
    let bytes = c.args.bytes.now in
    let s = spot_of c.args.spot in
    let kind = c.of.ensures ∙ ap kind_if (c.in-Some-Signed.is ∙ ap Some c.in-Some-Signed.field-0-is) in
    subst (Gives (λ f. tree_of f.value) c.read_signed.result) (sym (DecodeLemmas.value_signed bytes s c.args.nesting (width_of c.in-Some-Signed.width) kind)) c.read_signed.ensures.value

pub read_value-returns-in-Some-Unsigned-clause-value : goal.read_value-returns-in-Some-Unsigned-clause-value
read_value-returns-in-Some-Unsigned-clause-value t c =
    let bytes = c.args.bytes.now in
    let s = spot_of c.args.spot in
    let kind = c.of.ensures ∙ ap kind_if (c.in-Some-Unsigned.is ∙ ap Some c.in-Some-Unsigned.field-0-is) in
    subst (Gives (λ f. tree_of f.value) c.read_unsigned.result) (sym (DecodeLemmas.value_unsigned bytes s c.args.nesting (width_of c.in-Some-Unsigned.width) kind)) c.read_unsigned.ensures.value

pub read_value-returns-in-Some-Text-clause-value : goal.read_value-returns-in-Some-Text-clause-value
read_value-returns-in-Some-Text-clause-value t c =
    let bytes = c.args.bytes.now in
    let s = spot_of c.args.spot in
    let kind = c.of.ensures ∙ ap kind_if (c.in-Some-Text.is ∙ ap Some c.in-Some-Text.field-0-is) in
    subst (Gives (λ f. tree_of f.value) c.read_text.result) (sym (DecodeLemmas.value_text bytes s c.args.nesting kind)) c.read_text.ensures.value

pub read_value-returns-in-None-clause-value : goal.read_value-returns-in-None-clause-value
read_value-returns-in-None-clause-value t c =
    let bytes = c.args.bytes.now in
    let s = spot_of c.args.spot in
    let kind = c.of.ensures ∙ ap kind_if c.in-None.is in
    subst (λ o. IfSome o (λ f. read_value c.args.nesting bytes s ≡ Err f)) (sym c.type_fault.ensures) (DecodeLemmas.value_other bytes s c.args.nesting kind)

-- ---- objects

pub read_object-returns-then-nesting-eq0-clause-value : goal.read_object-returns-then-nesting-eq0-clause-value
read_object-returns-then-nesting-eq0-clause-value t c =
    let bytes = c.args.bytes.now in
    let s = spot_of c.args.spot in
    ap (λ n. read_value n bytes s) c.if-nesting-eq0.true ∙ DecodeLemmas.object_deep bytes s (form_of c.args.form) c.requires.kind

pub read_object-returns-in_err-check_frame-clause-value : goal.read_object-returns-in_err-check_frame-clause-value
read_object-returns-in_err-check_frame-clause-value t c =
    let bytes = c.args.bytes.now in
    let s = spot_of c.args.spot in
    let e = c.in_err-check_frame.field-0.0 in
    DecodeLemmas.exits (λ f. tree_of f.value) c.from_residual.result e (read_value c.args.nesting bytes s) c.from_residual.ensures.1
    (DecodeLemmas.object_bad_frame bytes s c.args.nesting c.if-nesting-eq0.false (form_of c.args.form) (fault_of e) c.requires.kind c.in_err-check_frame.ensures.gives)

pub read_object-returns-in_err-keys-clause-value : goal.read_object-returns-in_err-keys-clause-value
read_object-returns-in_err-keys-clause-value t c =
    let bytes = c.args.bytes.now in
    let s = spot_of c.args.spot in
    let e = c.in_err-keys.field-0.0 in
    DecodeLemmas.exits (λ f. tree_of f.value) c.from_residual-in_err-keys.result e (read_value c.args.nesting bytes s) c.from_residual-in_err-keys.ensures.1
    (DecodeLemmas.object_bad_keys bytes s c.args.nesting c.if-nesting-eq0.false (form_of c.args.form) (fault_of e) _ c.requires.kind c.in_ok-check_frame.ensures.gives c.in_err-keys.ensures)

pub read_object-returns-in_err-members-clause-value : goal.read_object-returns-in_err-members-clause-value
read_object-returns-in_err-members-clause-value t c =
    let bytes = c.args.bytes.now in
    let s = spot_of c.args.spot in
    let e = c.in_err-members.field-0.0 in
    DecodeLemmas.exits (λ f. tree_of f.value) c.from_residual-in_err-members.result e (read_value c.args.nesting bytes s) c.from_residual-in_err-members.ensures.1
    (DecodeLemmas.object_bad_values bytes s c.args.nesting c.if-nesting-eq0.false (form_of c.args.form) (fault_of e) _ c.in_ok-keys.keys.items c.requires.kind c.in_ok-check_frame.ensures.gives c.in_ok-keys.ensures c.in_err-members.ensures)

pub read_object-returns-clause-value : goal.read_object-returns-clause-value
read_object-returns-clause-value t c =
    DecodeLemmas.object_good c.args.bytes.now (spot_of c.args.spot) c.args.nesting c.if-nesting-eq0.false (form_of c.args.form) _ c.in_ok-keys.keys.items c.in_ok-members.members c.requires.kind c.in_ok-check_frame.ensures.gives c.in_ok-keys.ensures c.in_ok-members.ensures

-- ---- elements

pub read_elements-returns-in_err-spot : goal.read_elements-returns-in_err-spot
read_elements-returns-in_err-spot t c =
    let bytes = c.args.bytes.now in
    let d = container_of c.args.container in
    let e = c.in_err-spot.field-0.0 in
    let total = DecodeLemmas.values_from c.args.nesting bytes d c.count-count.result 0 (values_floor bytes d) in
    let bad = DecodeLemmas.elements_bad_entry c.args.nesting bytes d (fault_of e) c.loop-k.list c.count-count.result c.loop-k.k c.loop-k.floor (DecodeLemmas.collected [] total) c.loop-k-test.true c.in_err-spot.ensures.gives c.loop-k.invariant in
    DecodeLemmas.exits (λ list. list) c.from_residual-in_err-spot.result e (values_of c.args.nesting bytes d) c.from_residual-in_err-spot.ensures.1
    (subst (λ r. IfSome (fault_of e) (λ f. r ≡ Err f)) (DecodeLemmas.none_collected total ∙ ap (λ m. DecodeLemmas.values_from c.args.nesting bytes d m 0 (values_floor bytes d)) c.count-count.ensures.count) bad)

pub read_elements-returns-in_err-found : goal.read_elements-returns-in_err-found
read_elements-returns-in_err-found t c =
    let bytes = c.args.bytes.now in
    let d = container_of c.args.container in
    let e = c.in_err-found.field-0.0 in
    let total = DecodeLemmas.values_from c.args.nesting bytes d c.count-count.result 0 (values_floor bytes d) in
    let bad = DecodeLemmas.elements_bad_value c.args.nesting bytes d (fault_of e) c.loop-k.list c.count-count.result c.loop-k.k c.loop-k.floor (spot_of c.in_ok-spot.spot) (DecodeLemmas.collected [] total) c.loop-k-test.true c.in_ok-spot.ensures.gives c.in_err-found.ensures.value c.loop-k.invariant in
    DecodeLemmas.exits (λ list. list) c.from_residual-in_err-found.result e (values_of c.args.nesting bytes d) c.from_residual-in_err-found.ensures.1
    (subst (λ r. IfSome (fault_of e) (λ f. r ≡ Err f)) (DecodeLemmas.none_collected total ∙ ap (λ m. DecodeLemmas.values_from c.args.nesting bytes d m 0 (values_floor bytes d)) c.count-count.ensures.count) bad)

pub read_elements-loop-k-preserved : goal.read_elements-loop-k-preserved
read_elements-loop-k-preserved t c =
    let bytes = c.args.bytes.now in
    let d = container_of c.args.container in
    let total = DecodeLemmas.collected [] (DecodeLemmas.values_from c.args.nesting bytes d c.count-count.result 0 (values_floor bytes d)) in
    let next : c.if-not-inlines.floor ≡ floor_after bytes d c.loop-k.k c.loop-k.floor =
    DecodeLemmas.floor_next c.args.nesting bytes d c.loop-k.k c.loop-k.floor c.in_ok-found.found.end c.if-not-inlines.floor (spot_of c.in_ok-spot.spot) c.inlines.result c.in_ok-spot.ensures.gives c.inlines.ensures
    (λ e. elim c.if-not-inlines.branch [ read_elements-then-not-inlines w ↦ cc | read_elements-else-not-inlines w ↦ w.floor-is ])
    (λ e. elim c.if-not-inlines.branch [ read_elements-then-not-inlines w ↦ w.floor-is | read_elements-else-not-inlines w ↦ cc ]) c.in_ok-found.ensures.end in
    let more = DecodeLemmas.elements_go_on c.args.nesting bytes d c.loop-k.list c.count-count.result c.loop-k.k c.loop-k.floor c.if-not-inlines.floor (spot_of c.in_ok-spot.spot) (tree_of c.in_ok-found.found.value) total
    c.loop-k-test.true c.in_ok-spot.ensures.gives c.in_ok-found.ensures.value next c.loop-k.invariant in
    subst (λ ts. DecodeLemmas.collected ts (DecodeLemmas.values_from c.args.nesting bytes d (c.count-count.result - (c.loop-k.k + 1)) (c.loop-k.k + 1) c.if-not-inlines.floor) ≡ total) (sym c.in_ok-push.ensures.ok) more

pub read_elements-returns : goal.read_elements-returns
read_elements-returns t c =
    let bytes = c.args.bytes.now in
    let d = container_of c.args.container in
    let total = DecodeLemmas.values_from c.args.nesting bytes d c.count-count.result 0 (values_floor bytes d) in
    sym (DecodeLemmas.none_collected total ∙ ap (λ m. DecodeLemmas.values_from c.args.nesting bytes d m 0 (values_floor bytes d)) c.count-count.ensures.count)
    ∙ DecodeLemmas.elements_done c.args.nesting bytes d c.loop-k.list c.count-count.result c.loop-k.k c.loop-k.floor (DecodeLemmas.collected [] total) c.loop-k-test.false c.loop-k.invariant

-- ---- members

pub read_members-loop-key-init : goal.read_members-loop-key-init
read_members-loop-key-init t c =
    let bytes = c.args.bytes.now in
    let d = container_of c.args.container in
    let items = c.into_iter-key-iterator.ensures.into_iter_gives.0 in
    let counted = keys_counted bytes d (count bytes d) (entries_end bytes d) c.args.keys.items (λ i. omega (arith, c.type_inv.bytes i)) c.requires.keys in
    let many : length (into_iter_items c.into_iter-key-iterator.result) ≡ count bytes d = ap length items ∙ counted in (
      omega (arith, many),
      ap (λ ms. map (λ m. m.0) ms ++ into_iter_items c.into_iter-key-iterator.result) c.in_ok-members.ensures ∙ items,
      (λ i. DecodeLemmas.joined (c.in_ok-members.ensures i) (items i) (DecodeLemmas.values_from c.args.nesting bytes d (many i) 0 (c.values_floor-floor.ensures i))),
    )

pub read_members-returns-in_err-spot : goal.read_members-returns-in_err-spot
read_members-returns-in_err-spot t c =
    let bytes = c.args.bytes.now in
    let d = container_of c.args.container in
    let e = c.in_err-spot.field-0.0 in
    let total = DecodeLemmas.joined [] c.args.keys.items (values_of c.args.nesting bytes d) in
    let so_far = subst (λ r. DecodeLemmas.joined c.loop-key.members r (DecodeLemmas.values_from c.args.nesting bytes d (length r) c.loop-key.k c.loop-key.floor) ≡ total) c.in-Some.ensures.steps.0 c.loop-key.invariant.2 in
    let bad = DecodeLemmas.members_bad_entry c.args.nesting bytes d (fault_of e) c.loop-key.members c.in-Some.key (into_iter_items c.next.new.self) c.loop-key.k c.loop-key.floor total c.in_err-spot.ensures.gives so_far in
    DecodeLemmas.exits (λ members. members) c.from_residual-in_err-spot.result e (members_of c.args.keys.items (values_of c.args.nesting bytes d)) c.from_residual-in_err-spot.ensures.1
    (subst (λ r. IfSome (fault_of e) (λ f. r ≡ Err f)) (DecodeLemmas.none_joined c.args.keys.items (values_of c.args.nesting bytes d)) bad)

pub read_members-returns-in_err-found : goal.read_members-returns-in_err-found
read_members-returns-in_err-found t c =
    let bytes = c.args.bytes.now in
    let d = container_of c.args.container in
    let e = c.in_err-found.field-0.0 in
    let total = DecodeLemmas.joined [] c.args.keys.items (values_of c.args.nesting bytes d) in
    let so_far = subst (λ r. DecodeLemmas.joined c.loop-key.members r (DecodeLemmas.values_from c.args.nesting bytes d (length r) c.loop-key.k c.loop-key.floor) ≡ total) c.in-Some.ensures.steps.0 c.loop-key.invariant.2 in
    let bad = DecodeLemmas.members_bad_value c.args.nesting bytes d (fault_of e) c.loop-key.members c.in-Some.key (into_iter_items c.next.new.self) c.loop-key.k c.loop-key.floor (spot_of c.in_ok-spot.spot) total c.in_ok-spot.ensures.gives c.in_err-found.ensures.value so_far in
    DecodeLemmas.exits (λ members. members) c.from_residual-in_err-found.result e (members_of c.args.keys.items (values_of c.args.nesting bytes d)) c.from_residual-in_err-found.ensures.1
    (subst (λ r. IfSome (fault_of e) (λ f. r ≡ Err f)) (DecodeLemmas.none_joined c.args.keys.items (values_of c.args.nesting bytes d)) bad)

pub read_members-push-requires : goal.read_members-push-requires
read_members-push-requires t c =
    let bytes = c.args.bytes.now in
    let d = container_of c.args.container in
    let all = subst (λ r. map (λ m. m.0) c.loop-key.members ++ r ≡ c.args.keys.items) c.in-Some.ensures.steps.0 c.loop-key.invariant.1 in
    record { rising = members_with_next bytes d (count bytes d) (entries_end bytes d) c.args.keys.items (λ i. omega (arith, c.type_inv.bytes i)) c.requires.keys c.loop-key.members c.in-Some.key (tree_of c.in_ok-found.found.value) (into_iter_items c.next.new.self) all }

pub read_members-loop-key-preserved : goal.read_members-loop-key-preserved
read_members-loop-key-preserved t c =
    let bytes = c.args.bytes.now in
    let d = container_of c.args.container in
    let key = c.in-Some.key in
    let ks = into_iter_items c.next.new.self in
    let value = tree_of c.in_ok-found.found.value in
    let total = DecodeLemmas.joined [] c.args.keys.items (values_of c.args.nesting bytes d) in
    let step = c.in-Some.ensures.steps.0 in
    let many : c.loop-key.k + length (key ∷ ks) ≡ count bytes d = subst (λ r. c.loop-key.k + length r ≡ count bytes d) step c.loop-key.invariant.0 in
    let all = subst (λ r. map (λ m. m.0) c.loop-key.members ++ r ≡ c.args.keys.items) step c.loop-key.invariant.1 in
    let so_far = subst (λ r. DecodeLemmas.joined c.loop-key.members r (DecodeLemmas.values_from c.args.nesting bytes d (length r) c.loop-key.k c.loop-key.floor) ≡ total) step c.loop-key.invariant.2 in
    let after = c.in_ok-push.ensures.ok in
    let next : c.if-not-inlines.floor ≡ floor_after bytes d c.loop-key.k c.loop-key.floor =
    DecodeLemmas.floor_next c.args.nesting bytes d c.loop-key.k c.loop-key.floor c.in_ok-found.found.end c.if-not-inlines.floor (spot_of c.in_ok-spot.spot) c.inlines.result c.in_ok-spot.ensures.gives c.inlines.ensures
    (λ e. elim c.if-not-inlines.branch [ read_members-then-not-inlines w ↦ cc | read_members-else-not-inlines w ↦ w.floor-is ])
    (λ e. elim c.if-not-inlines.branch [ read_members-then-not-inlines w ↦ w.floor-is | read_members-else-not-inlines w ↦ cc ]) c.in_ok-found.ensures.end in
    let more = DecodeLemmas.members_go_on c.args.nesting bytes d c.loop-key.members key ks c.loop-key.k c.loop-key.floor c.if-not-inlines.floor (spot_of c.in_ok-spot.spot) value total c.in_ok-spot.ensures.gives c.in_ok-found.ensures.value next so_far in (
      omega (arith, many),
      ap (λ ms. map (λ m. m.0) ms ++ ks) after ∙ keys_more c.loop-key.members key value ks ∙ all,
      ap (λ ms. DecodeLemmas.joined ms ks (DecodeLemmas.values_from c.args.nesting bytes d (length ks) (c.loop-key.k + 1) c.if-not-inlines.floor)) after ∙ more,
    )
