-- A value replaced in place: the container stands for the tree with the new value.
use Rattle.std.proofs.Common.{◌≡◌, ℕ, zero, suc, ◌+◌, ◌-◌, ◌^◌, ◌≤◌, ◌<◌, Bool, true, false, List, [], ◌∷◌, length, slice_index, refl, sym, ap, subst, ◌∙◌, arith, cond, lit≤}
use Rattle.byteorder.specs.Numbers.{little_from-lt, length-bytes_low_first}
use Rattle.tree_model.specs.Tree.{Tree, Trees, no_trees, tree, tree_list, IsTree}
use Rattle.binary_model.specs.Layout.{Form, small, large, word, kind_of, code_of, is_inlined, Spot, kind_at, number_at, Container, count, end, header_end, values_at, entries_end, value_entry, values_floor, inlined, child, value_end, floor_after, value_width}
use Rattle.binary_model.specs.Stands.{IsBytes, IsPlaced, IsValue, AreElements}
use Rattle.binary_model.specs.Place.{Holds}
use Rattle.binary_model.specs.Canonical.{spelling, inlined_bytes, low_bytes}
use Rattle.binary_model.specs.Change.{written, end_before, start_from, room_start, room_end, in_entry, at_place}
use Rattle.binary_model.proofs.in_place.AgreeLemmas.{Same, same_part, same_agree, number_agrees}
use Rattle.binary_model.proofs.canonical.LengthLemmas.{length-inlined, fits_tree}
use Rattle.binary_model.proofs.canonical.CanonicalLemmas.{first_held, second_held, byte_held, number_held, moved}
use Rattle.binary_model.proofs.canonical.RoundLemmas.{stand_tree, code_again, w4}
use Rattle.binary_model.proofs.in_place.WrittenLemmas.{written_length, written_below, written_behind, written_holds, bytes_cons, bytes_written}
use Rattle.binary_model.proofs.ByteLemmas.{spelled_bytes, code_low, low_are_bytes, inlined_are_bytes}
use Rattle.binary_model.proofs.in_place.StayLemmas.{bounds, inlined_spot, child_inlined, child_outside}
use Rattle.binary_model.proofs.in_place.AgainLemmas.{floor_low, entry_within, values_first, count_same, end_same, entry_same}
use Rattle.binary_model.proofs.in_place.RefitLemmas.{nth, rest, rest_length, ends_rise, FoundAt, element_at, floor_up}
use Rattle.binary_model.proofs.in_place.KidsLemmas.{kids, Kids, Refits}

-- the values that are left begin before the end
pub starts_within : (bytes : List ℕ) (c : Container) (ts : Trees) (j floor : ℕ) → AreElements bytes c j floor ts → start_from bytes c (length (tree_list ts)) j ≤ end bytes c
starts_within bytes c no_trees j floor h = omega arith
starts_within bytes c (tree t ts) j floor h = go (inlined bytes c j) refl (starts_within bytes c ts (suc j) (floor_after bytes c j floor) h.2)
  where
    go : (b : Bool) → inlined bytes c j ≡ b → start_from bytes c (length (tree_list ts)) (suc j) ≤ end bytes c → cond b (start_from bytes c (length (tree_list ts)) (suc j)) (child bytes c j).at ≤ end bytes c
    go true e low = low
    go false e low = let extent = bounds bytes t (child bytes c j) h.1 in let a = extent.0 in let b = extent.1 in omega (arith, a, b)

-- a value that stands ends within the size
pub ends_within : (bytes : List ℕ) (c : Container) (t : Tree) (j floor : ℕ) → IsValue bytes t (child bytes c j) → floor ≤ end bytes c → floor_after bytes c j floor ≤ end bytes c
ends_within bytes c t j floor h low = go (inlined bytes c j)
  where
    go : (b : Bool) → cond b floor (value_end bytes (child bytes c j)) ≤ end bytes c
    go true = low
    go false = (bounds bytes t (child bytes c j) h).1

all_ends_within : (bytes : List ℕ) (c : Container) (ts : Trees) (j n : ℕ) → AreElements bytes c j (end_before bytes c j) ts → n ≤ length (tree_list ts) → end_before bytes c j ≤ end bytes c → end_before bytes c (j + n) ≤ end bytes c
all_ends_within bytes c ts j zero h low top = let e : j ≡ j + 0 = omega arith in subst (λ i. end_before bytes c i ≤ end bytes c) e top
all_ends_within bytes c no_trees j (suc n) h low top = let no : ⊥ = omega (arith, low) in absurd no
all_ends_within bytes c (tree t ts) j (suc n) h low top =
    let e : suc j + n ≡ j + suc n = omega arith in
    subst (λ i. end_before bytes c i ≤ end bytes c) e (all_ends_within bytes c ts (suc j) n h.2 (omega (arith, low)) (ends_within bytes c t j (end_before bytes c j) h.1 top))

-- the room of the n-th value, which r values follow
pub record Room (bytes : List ℕ) (c : Container) (n r : ℕ) (t : Tree) : Type 0 where
  -- from the container's first byte to its end
  pub head : (c.at ≤ header_end c) × (header_end c ≤ values_at bytes c) × (values_at bytes c ≤ value_entry bytes c n)
  pub entry : value_entry bytes c n + value_width c.form ≡ value_entry bytes c (suc n)
  pub entries : value_entry bytes c (suc n) ≤ entries_end bytes c
  pub floor : entries_end bytes c ≤ end_before bytes c n
  pub placed : IsPlaced bytes c n (end_before bytes c n)
  pub value : IsValue bytes t (child bytes c n)
  pub up : end_before bytes c n ≤ end_before bytes c (suc n)
  pub start : end_before bytes c (suc n) ≤ start_from bytes c r (suc n)
  pub top : start_from bytes c r (suc n) ≤ end bytes c
  pub room : room_end bytes c n ≡ start_from bytes c r (suc n)

-- the n-th value of a container has its room
pub room_of : (bytes : List ℕ) (t : Tree) (s : Spot) (c : Container) (n : ℕ) → Kids bytes t s c → n < length (tree_list (kids t)) → Room bytes c n (length (tree_list (rest (kids t) n))) (nth (kids t) n)
room_of bytes t s c n h low =
    let z : 0 + n ≡ n = omega arith in
    let first = values_first bytes c in
    let many = h.number in
    let behind = rest_length (kids t) n in
    let found : FoundAt bytes c n (nth (kids t) n) (rest (kids t) n) = subst (λ k. FoundAt bytes c k (nth (kids t) n) (rest (kids t) n)) z (element_at bytes c (kids t) 0 n h.elements low) in
    let rise : values_floor bytes c ≤ end_before bytes c n = subst (λ k. values_floor bytes c ≤ end_before bytes c k) z (ends_rise bytes c (kids t) 0 n h.elements (omega (arith, low))) in
    let below : end_before bytes c n ≤ end bytes c = subst (λ k. end_before bytes c k ≤ end bytes c) z (all_ends_within bytes c (kids t) 0 n h.elements (omega (arith, low)) h.floor.1) in
    let floor_first = h.floor.0 in
    let last = entry_within bytes c n (count bytes c) (omega (arith, low, many)) in
    let left : count bytes c - suc n ≡ length (tree_list (rest (kids t) n)) = omega (arith, many, behind) in
    record {
      head = (omega arith, first, omega arith);
      entry = omega arith;
      entries = omega (arith, last);
      floor = omega (arith, rise, floor_first);
      placed = found.0;
      value = found.1;
      up = floor_up bytes c (nth (kids t) n) n (end_before bytes c n) found.0 found.1;
      start = floor_low bytes c (rest (kids t) n) (suc n) (end_before bytes c (suc n)) found.2 (ends_within bytes c (nth (kids t) n) n (end_before bytes c n) found.1 below);
      top = starts_within bytes c (rest (kids t) n) (suc n) (end_before bytes c (suc n)) found.2;
      room = ap (λ k. start_from bytes c k (suc n)) left;
    }

-- what a pair leaves: the tree at the spot, and all bytes outside it
pub record Lifted (xs ys : List ℕ) (t : Tree) (s : Spot) : Type 0 where
  pub len : length xs ≡ length ys
  pub octets : IsBytes ys
  pub value : IsValue ys t s
  pub ends : value_end ys s ≡ value_end xs s
  pub below : Same xs ys 0 s.at
  pub above : (i : ℕ) → value_end xs s ≤ i → slice_index xs i ≡ slice_index ys i

-- ---- in the entry

-- what a replaced value leaves: it stands, and what isn't its room is as before
abbrev pub Replaced : List ℕ → List ℕ → Container → ℕ → ℕ → Tree → Type 0
Replaced xs ys c n r u = (length xs ≡ length ys) × IsBytes ys × Refits xs ys c n r u × Same xs ys 0 (value_entry xs c n) × ((i : ℕ) → end xs c ≤ i → slice_index xs i ≡ slice_index ys i)

kind_here : (ys : List ℕ) (u : Tree) (e : ℕ) → slice_index ys e ≡ code_of (spelling u).0 → kind_at ys e ≡ (spelling u).0
kind_here ys u e h = ap kind_of h ∙ code_again u

-- an inlined one does
pub replaced_inlined : (xs : List ℕ) (c : Container) (n r : ℕ) (t u : Tree) → IsBytes xs → Room xs c n r t → end xs c ≤ length xs → IsTree u → is_inlined c.form (spelling u).0 ≡ true
    → Replaced xs (in_entry xs c n (spelling u)) c n r u
replaced_inlined xs c n r t u octets room top is e =
    let v = spelling u in
    let entry = value_entry xs c n in
    let new = code_of v.0 ∷ inlined_bytes c.form v in
    let ys = written xs entry new in
    let short = fits_tree u c.form e in
    let wide = length-inlined c.form v short in
    let a = room.head.0 in
    let b = room.head.1 in
    let d = room.head.2 in
    let next = room.entry in
    let entries = room.entries in
    let floor = room.floor in
    let up = room.up in
    let start = room.start in
    let last = room.top in
    let inside : entry + length new ≤ length xs = omega (arith, wide, next, entries, floor, up, start, last, top) in
    let entry_low : entry ≤ length xs = omega (arith, inside) in
    let len = written_length xs entry new inside in
    let below = written_below xs entry new entry_low in
    let behind = written_behind xs entry new entry_low in
    let held = written_holds xs entry new entry_low in
    let before : Same xs ys c.at entry = same_part xs ys 0 entry c.at entry below (omega arith) (omega arith) in
    let head : Same xs ys c.at (header_end c) = same_part xs ys c.at entry c.at (header_end c) before (omega arith) (omega (arith, b, d)) in
    let many = count_same xs ys c head in
    let ends = end_same xs ys c head in
    let place : value_entry ys c n ≡ entry = entry_same xs ys c n many in
    let kind : kind_at ys (value_entry ys c n) ≡ v.0 = ap (kind_at ys) place ∙ kind_here ys u entry (byte_held ys entry (code_of v.0) (inlined_bytes c.form v) held) in
    let inl : inlined ys c n ≡ true = ap (is_inlined c.form) kind ∙ e in
    let spot = inlined_spot ys c n in
    let tail : Holds ys (suc (value_entry ys c n)) (inlined_bytes c.form v) = moved (omega (arith, place)) (second_held (code_of v.0 ∷ []) (inlined_bytes c.form v) held) in
    let few : length v.1 < 2 ^ 32 = omega (arith, short, w4 c.form) in
    let stands = stand_tree u is ys spot kind (omega (arith, short, place, ends, next, entries, floor, up, start, last)) few (first_held v.1 _ tail) in (
      sym len,
      bytes_written xs entry new octets (bytes_cons (code_of v.0) (inlined_bytes c.form v) (code_low v.0) (inlined_are_bytes c.form v (spelled_bytes u is))),
      record {
        before = before;
        middle = λ i first low. behind i (omega (arith, first, wide, next));
        placed = λ f. let no : ⊥ = cc in absurd no;
        value = subst (IsValue ys u) (sym (child_inlined ys c n inl)) stands.0;
        last = subst (λ b. cond b (end_before xs c n) (value_end ys (child ys c n)) ≤ start_from xs c r (suc n)) (sym inl) (omega (arith, up, start));
        later = λ i first low. behind i (omega (arith, first, wide, next, entries, floor, up, start));
      },
      below,
      (λ i first. behind i (omega (arith, first, wide, next, entries, floor, up, start, last))),
    )

-- ---- at its place

-- a number of so many bytes is below their bound
pub number_low : (bytes : List ℕ) (w at : ℕ) → IsBytes bytes → number_at bytes w at < 256 ^ w
unfolding number_at
number_low bytes w at h = little_from-lt at w bytes h

words : (form : Form) → 256 ^ word form ≤ 2 ^ 32
words small = lit≤ tt
words large = lit≤ tt

-- a value's room begins behind what stands before it
pub place_above : (bytes : List ℕ) (c : Container) (n : ℕ) → IsPlaced bytes c n (end_before bytes c n) → end_before bytes c n ≤ room_start bytes c n
place_above bytes c n p = go (inlined bytes c n) refl
  where
    go : (b : Bool) → inlined bytes c n ≡ b → end_before bytes c n ≤ cond b (end_before bytes c n) (child bytes c n).at
    go true e = omega arith
    go false e = p e

-- and one at its place that fits the room
pub replaced_outside : (xs : List ℕ) (c : Container) (n r : ℕ) (t u : Tree) → IsBytes xs → Room xs c n r t → end xs c ≤ length xs → IsTree u → is_inlined c.form (spelling u).0 ≡ false
    → room_start xs c n + length (spelling u).1 ≤ room_end xs c n → Replaced xs (at_place xs c n (room_start xs c n) (spelling u)) c n r u
replaced_outside xs c n r t u octets room top is e fits =
    let v = spelling u in
    let place = room_start xs c n in
    let entry = value_entry xs c n in
    let offset = low_bytes (word c.form) (place - c.at) in
    let new = code_of v.0 ∷ offset in
    let mid = written xs entry new in
    let ys = written mid place v.1 in
    let wide = length-bytes_low_first 0 (word c.form) (place - c.at) in
    let a = room.head.0 in
    let b = room.head.1 in
    let d = room.head.2 in
    let next = room.entry in
    let entries = room.entries in
    let floor = room.floor in
    let last = room.top in
    let room_same = room.room in
    let above = place_above xs c n room.placed in
    let inside : entry + length new ≤ length xs = omega (arith, wide, next, entries, floor, above, fits, room_same, last, top) in
    let entry_low : entry ≤ length xs = omega (arith, inside) in
    let len_mid = written_length xs entry new inside in
    let place_fits : place + length v.1 ≤ length mid = omega (arith, len_mid, fits, room_same, last, top) in
    let place_low : place ≤ length mid = omega (arith, place_fits) in
    let len = written_length mid place v.1 place_fits in
    let below_mid = written_below xs entry new entry_low in
    let behind_mid = written_behind xs entry new entry_low in
    let below_place = written_below mid place v.1 place_low in
    let behind_place = written_behind mid place v.1 place_low in
    let held = written_holds xs entry new entry_low in
    let held_value = written_holds mid place v.1 place_low in
    let entry_first : entry + value_width c.form ≤ place = omega (arith, next, entries, floor, above) in
    let below : Same xs ys 0 entry = λ i first low. below_mid i first low ∙ below_place i (omega arith) (omega (arith, low, entry_first)) in
    let before : Same xs ys c.at entry = same_part xs ys 0 entry c.at entry below (omega arith) (omega arith) in
    let head : Same xs ys c.at (header_end c) = same_part xs ys c.at entry c.at (header_end c) before (omega arith) (omega (arith, b, d)) in
    let many = count_same xs ys c head in
    let ends = end_same xs ys c head in
    let entry_eq : value_entry ys c n ≡ entry = entry_same xs ys c n many in
    let code : slice_index ys entry ≡ code_of v.0 = sym (below_place entry (omega arith) (omega (arith, entry_first))) ∙ byte_held mid entry (code_of v.0) offset held in
    let kind : kind_at ys (value_entry ys c n) ≡ v.0 = ap (kind_at ys) entry_eq ∙ kind_here ys u entry code in
    let inl : inlined ys c n ≡ false = ap (is_inlined c.form) kind ∙ e in
    let size : end xs c ≡ c.at + number_at xs (word c.form) (c.at + word c.form) = refl in
    let size_low = number_low xs (word c.form) (c.at + word c.form) octets in
    let large_low = words c.form in
    let at_above : c.at ≤ place = omega (arith, a, b, d, entry_first) in
    let offset_low : place - c.at < 256 ^ word c.form = omega (arith, fits, room_same, last, size, size_low) in
    let tail : Holds mid (suc entry) offset = moved (omega arith) (second_held (code_of v.0 ∷ []) offset held) in
    let number : number_at ys (word c.form) (suc (value_entry ys c n)) ≡ place - c.at =
    ap (λ k. number_at ys (word c.form) (suc k)) entry_eq
    ∙ sym (number_agrees mid ys (suc entry) (suc entry) (word c.form) (same_agree mid ys 0 place (suc entry) (word c.form) below_place (omega arith) (omega (arith, entry_first))))
    ∙ number_held mid (suc entry) (word c.form) (place - c.at) offset_low tail in
    let spot : Spot = record { type_at = value_entry ys c n; at = place; limit = end ys c } in
    let back : c.at + (place - c.at) ≡ place = omega (arith, at_above) in
    let same : child ys c n ≡ spot = child_outside ys c n inl ∙ ap (λ m. record { type_at = value_entry ys c n; at = c.at + m; limit = end ys c }) number
    ∙ ap (λ m. record { type_at = value_entry ys c n; at = m; limit = end ys c }) back in
    let few : length v.1 < 2 ^ 32 = omega (arith, fits, room_same, last, size, size_low, large_low, at_above) in
    let stands = stand_tree u is ys spot kind (omega (arith, fits, room_same, last, ends)) few held_value in
    let stop = stands.1 in
    let end_eq : value_end ys (child ys c n) ≡ place + length v.1 = ap (value_end ys) same ∙ stop in (
      sym len_mid ∙ sym len,
      bytes_written mid place v.1 (bytes_written xs entry new octets (bytes_cons (code_of v.0) offset (code_low v.0) (low_are_bytes 0 (word c.form) (place - c.at)))) (spelled_bytes u is),
      record {
        before = before;
        middle = λ i first low. behind_mid i (omega (arith, first, wide, next)) ∙ below_place i (omega arith) (omega (arith, low, above));
        placed = λ f. subst (λ s. end_before xs c n ≤ s.at) (sym same) above;
        value = subst (IsValue ys u) (sym same) stands.0;
        last = subst (λ b. cond b (end_before xs c n) (value_end ys (child ys c n)) ≤ start_from xs c r (suc n)) (sym inl) (omega (arith, end_eq, fits, room_same));
        later = λ i first low. behind_mid i (omega (arith, first, wide, entry_first, fits, room_same)) ∙ behind_place i (omega (arith, first, fits, room_same));
      },
      below,
      (λ i first. behind_mid i (omega (arith, first, wide, entry_first, fits, room_same, last)) ∙ behind_place i (omega (arith, first, fits, room_same, last))),
    )
