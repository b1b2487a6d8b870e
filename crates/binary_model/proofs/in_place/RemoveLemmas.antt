-- A value removed in place: the container stands for the tree without it.
use Rattle.std.proofs.Common.{◌≡◌, ℕ, zero, suc, ◌+◌, ◌-◌, ◌*◌, ◌≤◌, ◌<◌, Bool, true, false, List, [], ◌∷◌, length, map, slice_range, refl, sym, ap, ap₂, subst, ◌∙◌, arith, cond, inl, inr, mul-le-mul_right}
use Rattle.std.proofs.lemmas.Bool.{cases_lt}
use Rattle.tree_model.specs.Tree.{Tree, null, boolean, number, text, array, object, Trees, no_trees, tree, tree_list, Members, no_members, member, member_list}
use Rattle.binary_model.specs.Layout.{kind_of, Spot, kind_at, Container, container_as, count, end, header_end, key_entry, values_at, entries_end, value_entry, key_at, key_end, key_of, keys_end, values_floor, inlined, child, value_end, end_as, floor_after, key_width, value_width}
use Rattle.binary_model.specs.Stands.{IsBytes, AreKeys, IsPlaced, AreElements}
use Rattle.binary_model.specs.Change.{without_value}
use Rattle.binary_model.proofs.in_place.AgreeLemmas.{some_is, Agree, Same, same_part, agree_part, range_same}
use Rattle.binary_model.proofs.reading.StandLemmas.{values, values_length, keys_length}
use Rattle.binary_model.proofs.in_place.StayLemmas.{bounds, EntryMoved, StandsAgain, one_again}
use Rattle.binary_model.proofs.in_place.AgainLemmas.{floor_low, NextEntries, elements_again, NextKeys, KeysBelow, keys_again, keys_inside, keys_low, keys_under, key_at_moved, key_end_moved, entry_within, key_within, stays, all_stay}
use Rattle.binary_model.proofs.in_place.RefitLemmas.{rest, rest_length, floor_up}
use Rattle.binary_model.proofs.in_place.KidsLemmas.{kids, KeyPart, Kids, from_kids}
use Rattle.binary_model.proofs.in_place.ReplaceLemmas.{ends_within, Lifted}
use Rattle.binary_model.proofs.in_place.LiftLemmas.{Acts}
use Rattle.binary_model.proofs.in_place.ShrinkLemmas.{Shrunk, shrunk}

-- values without the n-th
abbrev pub without_element : Trees → ℕ → Trees
without_element no_trees n = no_trees
without_element (tree t ts) zero = ts
without_element (tree t ts) (suc n) = tree t (without_element ts n)

-- members without the n-th
abbrev pub without_nth_member : Members → ℕ → Members
without_nth_member no_members n = no_members
without_nth_member (member k t ms) zero = ms
without_nth_member (member k t ms) (suc n) = member k t (without_nth_member ms n)

-- a container without its n-th value
abbrev pub without_kid : Tree → ℕ → Tree
without_kid (array ts) n = array (without_element ts n)
without_kid (object ms) n = object (without_nth_member ms n)
without_kid t n = t

-- keys without the k-th
abbrev pub without_key : List (List ℕ) → ℕ → List (List ℕ)
without_key [] n = []
without_key (k ∷ ks) zero = ks
without_key (k ∷ ks) (suc n) = k ∷ without_key ks n

values_without : (ms : Members) (n : ℕ) → values (without_nth_member ms n) ≡ without_element (values ms) n
values_without no_members n = refl
values_without (member k t ms) zero = refl
values_without (member k t ms) (suc n) = ap (tree t) (values_without ms n)

-- they are those of the members without it
pub keys_without : (ms : Members) (n : ℕ) → map (λ m. m.0) (member_list (without_nth_member ms n)) ≡ without_key (map (λ m. m.0) (member_list ms)) n
keys_without no_members n = refl
keys_without (member k t ms) zero = refl
keys_without (member k t ms) (suc n) = ap (λ ks. k ∷ ks) (keys_without ms n)

kids_without : (t : Tree) (n : ℕ) → kids (without_kid t n) ≡ without_element (kids t) n
kids_without null n = refl
kids_without (boolean b) n = refl
kids_without (number z) n = refl
kids_without (text x) n = refl
kids_without (array ts) n = refl
kids_without (object ms) n = values_without ms n

without_length : (ts : Trees) (n : ℕ) → n < length (tree_list ts) → length (tree_list (without_element ts n)) ≡ length (tree_list ts) - 1
without_length no_trees n low = omega arith
without_length (tree t ts) zero low = omega arith
without_length (tree t ts) (suc n) low = let e = without_length ts n (omega (arith, low)) in omega (arith, e, low)

without_key_length : (ks : List (List ℕ)) (n : ℕ) → n < length ks → length (without_key ks n) ≡ length ks - 1
without_key_length [] n low = omega arith
without_key_length (k ∷ ks) zero low = omega arith
without_key_length (k ∷ ks) (suc n) low = let e = without_key_length ks n (omega (arith, low)) in omega (arith, e, low)

-- ---- values

abbrev FirstEntries : List ℕ → List ℕ → Container → ℕ → ℕ → Type 0
FirstEntries xs ys c j n = (m : ℕ) → m < n → EntryMoved xs ys c (j + m) (j + m)

again_floor : (xs ys : List ℕ) (t : Tree) (c : Container) (j floor above : ℕ) (b : Bool) → inlined xs c j ≡ b → StandsAgain xs ys t c j j b → above ≤ floor → floor_after ys c j above ≤ floor_after xs c j floor
again_floor xs ys t c j floor above true e one low =
    subst (λ b. cond b above (value_end ys (child ys c j)) ≤ cond (inlined xs c j) floor (value_end xs (child xs c j))) (sym one.0)
    (subst (λ b. above ≤ cond b floor (value_end xs (child xs c j))) (sym e) low)
again_floor xs ys t c j floor above false e one low =
    let same = (one.2 refl).1 in
    subst (λ b. cond b above (value_end ys (child ys c j)) ≤ cond (inlined xs c j) floor (value_end xs (child xs c j))) (sym one.0)
    (subst (λ b. value_end ys (child ys c j) ≤ cond b floor (value_end xs (child xs c j))) (sym e) (omega (arith, same)))

again_place : (xs ys : List ℕ) (t : Tree) (c : Container) (j floor above : ℕ) (b : Bool) → inlined xs c j ≡ b → StandsAgain xs ys t c j j b → above ≤ floor → IsPlaced xs c j floor → IsPlaced ys c j above
again_place xs ys t c j floor above true e one low p = λ f. let no : ⊥ = let g = one.0 in cc in absurd no
again_place xs ys t c j floor above false e one low p = λ f. let first = p e in let same = (one.2 refl).0 in omega (arith, first, same, low)

taken : (ts : Trees) (xs ys : List ℕ) (c : Container) (j n floor above low : ℕ) → length xs ≡ length ys → end ys c ≡ end xs c → AreElements xs c j floor ts → n < length (tree_list ts) → floor ≤ end xs c
    → FirstEntries xs ys c j n → NextEntries xs ys c (suc (j + n)) (j + n) (length (tree_list (rest ts n))) → Same xs ys low (end xs c) → low ≤ floor → above ≤ floor
    → AreElements ys c j above (without_element ts n)
taken no_trees xs ys c j n floor above low len ends h below top first later same a b = tt
taken (tree t ts) xs ys c j zero floor above low len ends h below top first later same a b =
    let e : j + 0 ≡ j = omega arith in
    let up = floor_up xs c t j floor h.0 h.1 in
    let start = floor_low xs c ts (suc j) (floor_after xs c j floor) h.2 (ends_within xs c t j floor h.1 top) in
    elements_again ts (all_stay ts) xs ys c (suc j) j (floor_after xs c j floor) above low len ends h.2 (subst (λ k. NextEntries xs ys c (suc k) k (length (tree_list ts))) e later) same (omega (arith, a, up, start)) (omega (arith, b, up, start))
taken (tree t ts) xs ys c j (suc n) floor above low len ends h below top first later same a b =
    let e : j + suc n ≡ suc j + n = omega arith in
    let here : j + 0 ≡ j = omega arith in
    let entry : EntryMoved xs ys c j j = subst (λ i. EntryMoved xs ys c i i) here (first 0 (omega arith)) in
    let extent = bounds xs t (child xs c j) h.1 in
    let up = floor_up xs c t j floor h.0 h.1 in
    let flag = inlined xs c j in
    let one = one_again t (stays t) xs ys c j j len entry ends h.1 flag refl (λ f. let at = h.0 f in same_part xs ys low (end xs c) (child xs c j).at (value_end xs (child xs c j)) same (omega (arith, a, at)) extent.1) in (
      again_place xs ys t c j floor above flag refl one b h.0,
      one.1,
      taken ts xs ys c (suc j) n (floor_after xs c j floor) (floor_after ys c j above) low len ends h.2 (omega (arith, below)) (ends_within xs c t j floor h.1 top)
          (λ m less. let i : j + suc m ≡ suc j + m = omega arith in subst (λ i. EntryMoved xs ys c i i) i (first (suc m) (omega (arith, less))))
          (subst (λ k. NextEntries xs ys c (suc k) k (length (tree_list (rest ts n)))) e later) same (omega (arith, a, up)) (again_floor xs ys t c j floor above flag refl one b),
    )

-- ---- keys

abbrev FirstKeys : List ℕ → List ℕ → Container → ℕ → ℕ → Type 0
FirstKeys xs ys c j n = (m : ℕ) → m < n → Agree xs (key_entry c (j + m)) ys (key_entry c (j + m)) (key_width c.form)

keys_taken : (ks : List (List ℕ)) (xs ys : List ℕ) (c : Container) (j n floor above : ℕ) → length xs ≡ length ys → end ys c ≡ end xs c → AreKeys xs c j floor ks → n < length ks
    → FirstKeys xs ys c j n → NextKeys xs ys c (suc (j + n)) (j + n) (length ks - suc n) → Same xs ys floor (end xs c) → above ≤ floor → AreKeys ys c j above (without_key ks n)
keys_taken [] xs ys c j n floor above len ends h below first later same low = tt
keys_taken (k ∷ ks) xs ys c j zero floor above len ends h below first later same low =
    let e : j + 0 ≡ j = omega arith in
    let size : suc (length ks) - 1 ≡ length ks = omega arith in
    let a = h.0 in
    keys_again ks xs ys c (suc j) j (key_end xs c j) above (end xs c) len ends (omega (arith, low, a)) h.3
    (subst (λ k. NextKeys xs ys c (suc k) k (length ks)) e (subst (λ m. NextKeys xs ys c (suc (j + 0)) (j + 0) m) size later)) (keys_inside ks xs c (suc j) (key_end xs c j) h.3)
    (same_part xs ys floor (end xs c) (key_end xs c j) (end xs c) same (omega (arith, a)) (omega arith))
keys_taken (k ∷ ks) xs ys c j (suc n) floor above len ends h below first later same low =
    let e : j + suc n ≡ suc j + n = omega arith in
    let here : j + 0 ≡ j = omega arith in
    let entry : Agree xs (key_entry c j) ys (key_entry c j) (key_width c.form) = subst (λ i. Agree xs (key_entry c i) ys (key_entry c i) (key_width c.form)) here (first 0 (omega arith)) in
    let start = key_at_moved xs ys c j j entry in
    let stop = key_end_moved xs ys c j j entry in
    let a = h.0 in
    let b = h.1 in
    let size : suc (length ks) - suc (suc n) ≡ length ks - suc n = omega arith in
    let letters : key_of ys c j ≡ key_of xs c j =
    ap₂ (λ a b. slice_range ys a b) start stop ∙ sym (range_same xs ys (key_at xs c j) (key_end xs c j) len (same_part xs ys floor (end xs c) (key_at xs c j) (key_end xs c j) same a b)) in (
      omega (arith, low, a, start),
      omega (arith, b, stop, ends),
      letters ∙ h.2,
      keys_taken ks xs ys c (suc j) n (key_end xs c j) (key_end ys c j) len ends h.3 (omega (arith, below))
          (λ m less. let i : j + suc m ≡ suc j + m = omega arith in subst (λ i. Agree xs (key_entry c i) ys (key_entry c i) (key_width c.form)) i (first (suc m) (omega (arith, less))))
          (subst (λ k. NextKeys xs ys c (suc k) k (length ks - suc n)) e (subst (λ m. NextKeys xs ys c (suc (j + suc n)) (j + suc n) m) size later))
          (same_part xs ys floor (end xs c) (key_end xs c j) (end xs c) same (omega (arith, a)) (omega arith)) (omega (arith, stop)),
    )

-- ---- the entries that moved

values_kept : (xs ys : List ℕ) (c : Container) (k : ℕ) → Shrunk xs ys c k → FirstEntries xs ys c 0 k
values_kept xs ys c k h = λ m low.
    let i = 0 + m in
    let w = value_width c.form in
    let lower = h.lower in
    let more : suc i * w ≤ k * w = mul-le-mul_right w (let e : suc i ≤ k = omega (arith, low) in e) in
    let step : suc i * w ≡ i * w + w = omega arith in
    (omega (arith, lower), agree_part xs ys (values_at xs c) (values_at ys c) (k * w) (i * w) w h.values_before (omega (arith, more, step)))

values_later : (xs ys : List ℕ) (c : Container) (k n : ℕ) → n ≤ count xs c - suc k → Shrunk xs ys c k → NextEntries xs ys c (suc (0 + k)) (0 + k) n
values_later xs ys c k n most h = λ m low.
    let w = value_width c.form in
    let lower = h.lower in
    let left : value_entry xs c (suc k) + m * w ≡ value_entry xs c (suc (0 + k) + m) = omega arith in
    let right : value_entry ys c k + m * w ≡ value_entry ys c ((0 + k) + m) = omega arith in
    let last = entry_within xs c (suc (0 + k) + m) (count xs c) (omega (arith, low, most)) in (
      omega (arith, lower),
      subst (λ a. Agree xs a ys (value_entry ys c ((0 + k) + m)) w) left (subst (λ b. Agree xs (value_entry xs c (suc k) + m * w) ys b w) right
          (agree_part xs ys (value_entry xs c (suc k)) (value_entry ys c k) (entries_end xs c - value_entry xs c (suc k)) (m * w) w h.values_behind (omega (arith, last, left)))),
    )

keys_kept : (xs ys : List ℕ) (c : Container) (k : ℕ) → c.is_object ≡ true → Shrunk xs ys c k → FirstKeys xs ys c 0 k
keys_kept xs ys c k is_object h = λ m low.
    let i = 0 + m in
    let w = key_width c.form in
    let more : suc i * w ≤ k * w = mul-le-mul_right w (let e : suc i ≤ k = omega (arith, low) in e) in
    let step : suc i * w ≡ i * w + w = omega arith in
    agree_part xs ys (header_end c) (header_end c) (k * w) (i * w) w (h.keys_before is_object) (omega (arith, more, step))

keys_later : (xs ys : List ℕ) (c : Container) (k n : ℕ) → c.is_object ≡ true → n ≤ count xs c - suc k → Shrunk xs ys c k → NextKeys xs ys c (suc (0 + k)) (0 + k) n
keys_later xs ys c k n is_object most h = λ m low.
    let w = key_width c.form in
    let left : key_entry c (suc k) + m * w ≡ key_entry c (suc (0 + k) + m) = omega arith in
    let right : key_entry c k + m * w ≡ key_entry c ((0 + k) + m) = omega arith in
    let last = key_within c (suc (0 + k) + m) (count xs c) (omega (arith, low, most)) in
    subst (λ a. Agree xs a ys (key_entry c ((0 + k) + m)) w) left (subst (λ b. Agree xs (key_entry c (suc k) + m * w) ys b w) right
    (agree_part xs ys (key_entry c (suc k)) (key_entry c k) (key_entry c (count xs c) - key_entry c (suc k)) (m * w) w (h.keys_behind is_object) (omega (arith, last, left))))

-- ---- the keys and the floors of what is left

entries_lower : (xs ys : List ℕ) (c : Container) (k : ℕ) → Shrunk xs ys c k → entries_end ys c ≤ entries_end xs c
entries_lower xs ys c k h =
    let lower = h.lower in
    let fewer = h.fewer in
    let less : count ys c ≤ count xs c = omega (arith, fewer) in
    let more : count ys c * value_width c.form ≤ count xs c * value_width c.form = mul-le-mul_right (value_width c.form) less in
    omega (arith, lower, more)

key_under : (xs ys : List ℕ) (c : Container) (k top i : ℕ) → c.is_object ≡ true → Shrunk xs ys c k → k < count xs c → suc i ≡ count xs c - 1 → KeysBelow xs c 0 (count xs c) top → key_end ys c i ≤ top
key_under xs ys c k top i is_object h low size under = elim (cases_lt i k) [
  | inl less ↦
      let z : 0 + i ≡ i = omega arith in
      let entry = subst (λ j. Agree xs (key_entry c j) ys (key_entry c j) (key_width c.form)) z (keys_kept xs ys c k is_object h i less) in
      let same = key_end_moved xs ys c i i entry in
      let at = subst (λ j. key_end xs c j ≤ top) z (under i (omega (arith, size))) in
      omega (arith, same, at)
  | inr more ↦
      let m = i - k in
      let left : suc (0 + k) + m ≡ 0 + suc i = omega (arith, more) in
      let right : 0 + k + m ≡ i = omega (arith, more) in
      let entry = keys_later xs ys c k (count xs c - suc k) is_object (omega arith) h m (omega (arith, more, size)) in
      let moved = subst (λ a. Agree xs (key_entry c a) ys (key_entry c i) (key_width c.form)) left (subst (λ b. Agree xs (key_entry c (suc (0 + k) + m)) ys (key_entry c b) (key_width c.form)) right entry) in
      let same = key_end_moved xs ys c (0 + suc i) i moved in
      let at = under (suc i) (omega (arith, size)) in
      omega (arith, same, at)
]

abbrev LeftKeys : List ℕ → List ℕ → Container → ℕ → Tree → Type 0
LeftKeys xs ys c k t = KeyPart ys c (without_kid t k) × (entries_end ys c ≤ values_floor ys c) × (values_floor ys c ≤ values_floor xs c)

last_under : (xs ys : List ℕ) (c : Container) (k top p : ℕ) → c.is_object ≡ true → Shrunk xs ys c k → k < count xs c → p ≡ count xs c - 1 → entries_end xs c ≤ top → KeysBelow xs c 0 (count xs c) top → keys_end ys c p ≤ top
last_under xs ys c k top zero is_object h low size floor under = let lower = entries_lower xs ys c k h in omega (arith, lower, floor)
last_under xs ys c k top (suc i) is_object h low size floor under = key_under xs ys c k top i is_object h low size under

left_keys : (t : Tree) (xs ys : List ℕ) (c : Container) (k : ℕ) → Shrunk xs ys c k → k < count xs c → count xs c ≡ length (tree_list (kids t)) → entries_end xs c ≤ end xs c → entries_end xs c ≤ values_floor xs c → KeyPart xs c t → LeftKeys xs ys c k t
left_keys null xs ys c k h low many whole floor p = absurd p
left_keys (boolean b) xs ys c k h low many whole floor p = absurd p
left_keys (number z) xs ys c k h low many whole floor p = absurd p
left_keys (text x) xs ys c k h low many whole floor p = absurd p
left_keys (array ts) xs ys c k h low many whole floor p =
    let lower = entries_lower xs ys c k h in
    let new : values_floor ys c ≡ entries_end ys c = ap (λ b. cond b (keys_end ys c (count ys c)) (entries_end ys c)) p in
    let old : values_floor xs c ≡ entries_end xs c = ap (λ b. cond b (keys_end xs c (count xs c)) (entries_end xs c)) p in
    (p, omega (arith, new), omega (arith, new, old, lower))
left_keys (object ms) xs ys c k h low many whole floor p =
    let ks = map (λ m. m.0) (member_list ms) in
    let lower = entries_lower xs ys c k h in
    let ends = h.ends in
    let fewer = h.fewer in
    let all_keys : count xs c ≡ length ks = many ∙ sym (values_length ms) ∙ sym (keys_length ms) in
    let z : 0 + length ks ≡ count xs c = omega (arith, all_keys) in
    let new : values_floor ys c ≡ keys_end ys c (count ys c) = ap (λ b. cond b (keys_end ys c (count ys c)) (entries_end ys c)) p.0 in
    let old : values_floor xs c ≡ keys_end xs c (count xs c) = ap (λ b. cond b (keys_end xs c (count xs c)) (entries_end xs c)) p.0 in
    let left = keys_taken ks xs ys c 0 k (entries_end xs c) (entries_end ys c) h.len ends p.1 (omega (arith, low, all_keys)) (keys_kept xs ys c k p.0 h) (keys_later xs ys c k (length ks - suc k) p.0 (omega (arith, all_keys)) h)
    (λ i first below. h.behind i first) lower in
    let left_length = without_key_length ks k (omega (arith, low, all_keys)) in
    let number : 0 + length (without_key ks k) ≡ count ys c = omega (arith, left_length, fewer, all_keys) in
    let rise = (keys_low (without_key ks k) ys c 0 left (omega (arith, lower, whole, ends))).0 in
    let under : KeysBelow xs c 0 (count xs c) (values_floor xs c) = subst (λ top. KeysBelow xs c 0 (count xs c) top) (sym old)
    (subst (λ n. KeysBelow xs c 0 (count xs c) (keys_end xs c n)) z (subst (λ n. KeysBelow xs c 0 n (keys_end xs c (0 + length ks))) (sym all_keys) (keys_under ks xs c 0 p.1))) in (
      (p.0, subst (AreKeys ys c 0 (entries_end ys c)) (sym (keys_without ms k)) left),
      subst (λ n. entries_end ys c ≤ n) (ap (keys_end ys c) number ∙ sym new) rise,
      subst (λ n. n ≤ values_floor xs c) (sym new) (last_under xs ys c k (values_floor xs c) (count ys c) p.0 h low fewer floor under),
    )

-- ---- the container

removed : (xs ys : List ℕ) (t : Tree) (s : Spot) (c : Container) (n : ℕ) → Kids xs t s c → s.type_at < s.at → n < length (tree_list (kids t)) → Shrunk xs ys c n → Lifted xs ys (without_kid t n) s
removed xs ys t s c n h type_at low less =
    let many = h.number in
    let here : n < count xs c = omega (arith, low, many) in
    let whole = h.frame.2 in
    let inside = h.frame.1 in
    let ends = less.ends in
    let place = h.place in
    let lower = entries_lower xs ys c n less in
    let keys = left_keys t xs ys c n less here many whole h.floor.0 h.keys in
    let floor_first = keys.1 in
    let floor_lower = keys.2 in
    let floor_last = h.floor.1 in
    let behind = rest_length (kids t) n in
    let left = without_length (kids t) n low in
    let fewer = less.fewer in
    let kind : kind_at ys s.type_at ≡ kind_at xs s.type_at = ap kind_of (sym (less.below s.type_at (omega arith) (omega (arith, type_at, place)))) in
    let same_kids = kids_without t n in
    let same_size : length (tree_list (kids (without_kid t n))) ≡ length (tree_list (without_element (kids t) n)) = ap (λ ts. length (tree_list ts)) same_kids in
    let after : Kids ys (without_kid t n) s c = record {
      is = ap (λ k. container_as k s.at) kind ∙ h.is;
      ends = λ others. ap (λ k. end_as others k s) kind ∙ h.ends others;
      place = place;
      frame = (h.frame.0, omega (arith, inside, ends), omega (arith, lower, whole, ends));
      number = omega (arith, fewer, many, left, same_size);
      floor = (floor_first, omega (arith, floor_lower, floor_last, ends));
      elements = subst (λ ts. AreElements ys c 0 (values_floor ys c) ts) (sym same_kids)
          (taken (kids t) xs ys c 0 n (values_floor xs c) (values_floor ys c) (entries_end xs c) less.len ends h.elements low floor_last (values_kept xs ys c n less)
          (values_later xs ys c n (length (tree_list (rest (kids t) n))) (omega (arith, behind, many)) less) (λ i first below. less.behind i first) h.floor.0 floor_lower);
      keys = keys.0;
    } in
    let stop = h.ends xs in
    record {
      len = less.len;
      octets = less.octets;
      value = from_kids ys (without_kid t n) s c after;
      ends = after.ends ys ∙ ends ∙ sym stop;
      below = subst (Same xs ys 0) place less.below;
      above = λ i first. less.behind i (omega (arith, first, stop, whole));
    }

-- a removed entry leaves bytes that stand for the container without its value
pub kid_removed : (xs : List ℕ) → IsBytes xs → Acts xs (without_value xs) without_kid
kid_removed xs octets t ys s c n h type_at limit low e =
    let inside = h.frame.1 in
    let whole = h.frame.2 in
    let many = h.number in
    let less = shrunk xs c n octets (omega (arith, low, many)) (omega (arith, whole, inside, limit)) in
    subst (λ zs. Lifted xs zs (without_kid t n) s) (some_is e) (removed xs _ t s c n h type_at low less)
