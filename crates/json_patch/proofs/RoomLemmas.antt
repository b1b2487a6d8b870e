-- Values of a container in place, and the room between them.
use Rattle.std.proofs.Common.{◌≡◌, ◌<◌, ℕ, suc, ◌+◌, ◌-◌, Bool, true, false, List, sym, ap, subst, ◌∙◌, arith, cond}
use Rattle.tree_model.specs.Tree.{Trees}
use Rattle.binary_model.specs.Layout as layout
use Rattle.binary_model.specs.Layout.{Kind, kind_at, kind_of, container_as, container_at, count, end, entries_end, value_entry, value_width, inlined, child, value_end, end_as, values_floor}
use Rattle.binary_model.specs.Stands.{IsValue}
use Rattle.binary_model.specs.Change.{end_before, start_from, room_end}
use Rattle.binary_model.proofs.in_place.StayLemmas.{bounds}
use Rattle.binary_model.proofs.in_place.AgainLemmas.{entry_within}
use Rattle.binary_model.proofs.in_place.RefitLemmas.{nth, rest, FoundAt, element_at}
use Rattle.json_binary.specs.declared.cursor.place.Spot.{Spot}
use Rattle.json_binary.specs.declared.cursor.place.Container.{Container}
use Rattle.json_binary.specs.Place.{container_of, spot_of, IsInside}
use Rattle.json_binary.specs.View.{form_of}
use Rattle.json_patch.specs.Stand.{HasValue, Values, HasValues}

-- the k-th of a container's values stands at the k-th spot that the container has
pub kid_stands : (bytes : List ℕ) (c : layout.Container) (ts : Trees) (k : ℕ) → Values bytes c ts → k < count bytes c → IsValue bytes (nth ts k) (child bytes c k)
kid_stands bytes c ts k h low =
    let z : 0 + k ≡ k = omega arith in
    let many = h.number in
    let found : FoundAt bytes c k (nth ts k) (rest ts k) = subst (λ i. FoundAt bytes c i (nth ts k) (rest ts k)) z (element_at bytes c ts 0 k h.elements (omega (arith, low, many))) in
    found.1

-- a value of the container stands, within the bytes
pub kid_in : (bytes : List ℕ) (c : Container) (k : ℕ) (s : Spot) → HasValues bytes c → k < count bytes (container_of c) → spot_of s ≡ child bytes (container_of c) k → HasValue bytes (spot_of s) × IsInside bytes s
kid_in bytes c k s h low e =
    let (ts, vs) = h.1 in
    let v : IsValue bytes (nth ts k) (spot_of s) = subst (IsValue bytes (nth ts k)) (sym e) (kid_stands bytes (container_of c) ts k vs low) in
    let extent = bounds bytes (nth ts k) (spot_of s) v in
    let a = extent.0 in
    let b = extent.1 in
    let type_at : s.type_at ≡ value_entry bytes (container_of c) k = ap (λ u. u.type_at) e in
    let limit : s.limit ≡ end bytes (container_of c) = ap (λ u. u.limit) e in
    let entry = entry_within bytes (container_of c) k (count bytes (container_of c)) low in
    let inside = h.0.1 in
    let whole = h.0.2 in (
      (nth ts k, v),
      record { typed_at = omega (arith, type_at, entry, whole, inside); begins = omega (arith, a, b); ends = omega (arith, limit, inside) },
    )

-- no value with an offset yet: the room begins, and ends, one value further on
pub skip_before : (bytes : List ℕ) (c : layout.Container) (k j : ℕ) → inlined bytes c j ≡ true → end_before bytes c (suc j) ≡ end_before bytes c k → end_before bytes c j ≡ end_before bytes c k
skip_before bytes c k j e h = sym (ap (λ b. cond b (end_before bytes c j) (value_end bytes (child bytes c j))) e) ∙ h

pub found_before : (bytes : List ℕ) (c : layout.Container) (k j : ℕ) → inlined bytes c j ≡ false → end_before bytes c (suc j) ≡ end_before bytes c k → value_end bytes (child bytes c j) ≡ end_before bytes c k
found_before bytes c k j e h = sym (ap (λ b. cond b (end_before bytes c j) (value_end bytes (child bytes c j))) e) ∙ h

inlined_here : (bytes : List ℕ) (c : Container) (j : ℕ) (s : Spot) (b : Bool) → spot_of s ≡ child bytes (container_of c) j → layout.is_inlined (form_of c.form) (kind_at bytes s.type_at) ≡ b → inlined bytes (container_of c) j ≡ b
inlined_here bytes c j s b e h = ap (λ u. layout.is_inlined (form_of c.form) (kind_at bytes u.type_at)) (sym e) ∙ h

-- looking back from a value, an inlined one doesn't change where those before the value end
pub back_over : (bytes : List ℕ) (c : Container) (k n : ℕ) (s : Spot) → 0 < n → spot_of s ≡ child bytes (container_of c) (n - 1) → layout.is_inlined (form_of c.form) (kind_at bytes s.type_at) ≡ true
    → end_before bytes (container_of c) n ≡ end_before bytes (container_of c) k → end_before bytes (container_of c) (n - 1) ≡ end_before bytes (container_of c) k
back_over bytes c k n s low e h same =
    let back : suc (n - 1) ≡ n = omega (arith, low) in
    skip_before bytes (container_of c) k (n - 1) (inlined_here bytes c (n - 1) s true e h) (ap (end_before bytes (container_of c)) back ∙ same)

-- looking back from a value, the first one that isn't inlined ends where those before the value do
pub back_to : (bytes : List ℕ) (c : Container) (k n : ℕ) (s : Spot) → 0 < n → spot_of s ≡ child bytes (container_of c) (n - 1) → layout.is_inlined (form_of c.form) (kind_at bytes s.type_at) ≡ false
    → end_before bytes (container_of c) n ≡ end_before bytes (container_of c) k → value_end bytes (spot_of s) ≡ end_before bytes (container_of c) k
back_to bytes c k n s low e h same =
    let back : suc (n - 1) ≡ n = omega (arith, low) in
    ap (value_end bytes) e ∙ found_before bytes (container_of c) k (n - 1) (inlined_here bytes c (n - 1) s false e h) (ap (end_before bytes (container_of c)) back ∙ same)

-- looking on from a value, an inlined one doesn't change where the value's room ends
pub on_over : (bytes : List ℕ) (c : Container) (k n : ℕ) (s : Spot) → n < count bytes (container_of c) → spot_of s ≡ child bytes (container_of c) n → layout.is_inlined (form_of c.form) (kind_at bytes s.type_at) ≡ true
    → start_from bytes (container_of c) (count bytes (container_of c) - n) n ≡ room_end bytes (container_of c) k
    → start_from bytes (container_of c) (count bytes (container_of c) - (n + 1)) (n + 1) ≡ room_end bytes (container_of c) k
on_over bytes c k n s low e h same =
    let d = container_of c in
    let more : count bytes d - n ≡ suc (count bytes d - (n + 1)) = omega (arith, low) in
    let next : n + 1 ≡ suc n = omega arith in
    ap (start_from bytes d (count bytes d - (n + 1))) next
    ∙ sym (ap (λ b. cond b (start_from bytes d (count bytes d - (n + 1)) (suc n)) (child bytes d n).at) (inlined_here bytes c n s true e h))
    ∙ sym (ap (λ m. start_from bytes d m n) more) ∙ same
