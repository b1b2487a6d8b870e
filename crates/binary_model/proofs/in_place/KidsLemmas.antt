-- A list or an object in place as a container with values, and back.
use Rattle.std.proofs.Common.{◌≡◌, ℕ, zero, suc, ◌+◌, ◌-◌, ◌*◌, ◌≤◌, ◌<◌, true, false, List, ◌∷◌, length, map, Some, refl, sym, ap, subst, ◌∙◌, arith, cond, IsSomeAnd}
use Rattle.tree_model.specs.Tree.{Tree, null, boolean, number, text, array, object, Trees, no_trees, tree, tree_list, Members, no_members, member, member_list}
use Rattle.binary_model.specs.Layout.{Kind, object_in, array_in, Spot, kind_at, Container, container_as, container_at, count, end, header_end, key_entry, values_at, entries_end, value_entry, keys_end, values_floor, child, value_end, end_as, floor_after, value_width}
use Rattle.binary_model.specs.Stands.{IsFrame, AreKeys, IsPlaced, IsValue, AreElements}
use Rattle.binary_model.specs.Change.{end_before, start_from}
use Rattle.binary_model.proofs.in_place.AgreeLemmas.{Same, same_part}
use Rattle.binary_model.proofs.reading.StandLemmas.{values, values_stand, values_length, keys_length}
use Rattle.binary_model.proofs.canonical.RoundLemmas.{hold_back}
use Rattle.binary_model.proofs.in_place.AgainLemmas.{HasElements, HasMembers, KeysBelow, keys_again, keys_low, keys_under, keys_stay, entry_within, count_same, end_same, entries_end_same, entry_stays, values_first, values_floor_same, frame_same}
use Rattle.binary_model.proofs.in_place.RefitLemmas.{rest, with_element, rest_length, with_length, ends_rise, NewAt, refitted}

-- the values of a container; a scalar has none
abbrev pub kids : Tree → Trees
kids (array ts) = ts
kids (object ms) = values ms
kids t = no_trees

-- members whose n-th value is another
abbrev pub with_nth_member : Members → ℕ → Tree → Members
with_nth_member no_members n u = no_members
with_nth_member (member k t ms) zero u = member k u ms
with_nth_member (member k t ms) (suc n) u = member k t (with_nth_member ms n u)

-- a container whose n-th value is another
abbrev pub with_kid : Tree → ℕ → Tree → Tree
with_kid (array ts) n u = array (with_element ts n u)
with_kid (object ms) n u = object (with_nth_member ms n u)
with_kid t n u = t

values_with : (ms : Members) (n : ℕ) (u : Tree) → values (with_nth_member ms n u) ≡ with_element (values ms) n u
values_with no_members n u = refl
values_with (member k t ms) zero u = refl
values_with (member k t ms) (suc n) u = ap (tree t) (values_with ms n u)

-- another value leaves the keys
pub keys_with : (ms : Members) (n : ℕ) (u : Tree) → map (λ m. m.0) (member_list (with_nth_member ms n u)) ≡ map (λ m. m.0) (member_list ms)
keys_with no_members n u = refl
keys_with (member k t ms) zero u = refl
keys_with (member k t ms) (suc n) u = ap (λ ks. k ∷ ks) (keys_with ms n u)

kids_with : (t : Tree) (n : ℕ) (u : Tree) → kids (with_kid t n u) ≡ with_element (kids t) n u
kids_with null n u = refl
kids_with (boolean b) n u = refl
kids_with (number z) n u = refl
kids_with (text x) n u = refl
kids_with (array ts) n u = refl
kids_with (object ms) n u = values_with ms n u

-- an object's keys stand in the container
abbrev pub KeyPart : List ℕ → Container → Tree → Type 0
KeyPart bytes c (array ts) = c.is_object ≡ false
KeyPart bytes c (object ms) = (c.is_object ≡ true) × AreKeys bytes c 0 (entries_end bytes c) (map (λ m. m.0) (member_list ms))
KeyPart bytes c t = ⊥

-- the tree stands in this container
pub record Kids (bytes : List ℕ) (t : Tree) (s : Spot) (c : Container) : Type 0 where
  pub is : container_at bytes s ≡ Some c
  pub ends : (others : List ℕ) → end_as others (kind_at bytes s.type_at) s ≡ end others c
  pub place : c.at ≡ s.at
  pub frame : IsFrame bytes c s.limit
  pub number : count bytes c ≡ length (tree_list (kids t))
  pub floor : (entries_end bytes c ≤ values_floor bytes c) × (values_floor bytes c ≤ end bytes c)
  pub elements : AreElements bytes c 0 (values_floor bytes c) (kids t)
  pub keys : KeyPart bytes c t

array_kids : (bytes : List ℕ) (ts : Trees) (s : Spot) (kind : Kind) → kind_at bytes s.type_at ≡ kind → IsSomeAnd (container_as kind s.at) (HasElements bytes s.limit ts) → (c : Container) × Kids bytes (array ts) s c
array_kids bytes ts s (array_in form) e p =
    let c : Container = record { form = form; is_object = false; at = s.at } in (
      c,
      record {
        is = ap (λ k. container_as k s.at) e;
        ends = λ others. ap (λ k. end_as others k s) e;
        place = refl;
        frame = p.1;
        number = p.2;
        floor = (omega arith, p.1.2);
        elements = p.3;
        keys = p.0;
      },
    )
array_kids bytes ts s (object_in form) e p = let f = p.0 in let no : ⊥ = cc in absurd no
array_kids bytes ts s kind e p = absurd p

object_kids : (bytes : List ℕ) (ms : Members) (s : Spot) (kind : Kind) → kind_at bytes s.type_at ≡ kind → IsSomeAnd (container_as kind s.at) (HasMembers bytes s.limit ms) → (c : Container) × Kids bytes (object ms) s c
object_kids bytes ms s (object_in form) e p =
    let c : Container = record { form = form; is_object = true; at = s.at } in
    let ks = map (λ m. m.0) (member_list ms) in
    let number = p.2 in
    let low = keys_low ks bytes c 0 p.3 p.1.2 in
    let at_end : keys_end bytes c (0 + length ks) ≡ values_floor bytes c = ap (keys_end bytes c) (let z : 0 + length ks ≡ length ks = omega arith in z ∙ keys_length ms ∙ sym number) in (
      c,
      record {
        is = ap (λ k. container_as k s.at) e;
        ends = λ others. ap (λ k. end_as others k s) e;
        place = refl;
        frame = p.1;
        number = number ∙ values_length ms;
        floor = subst (λ n. (entries_end bytes c ≤ n) × (n ≤ end bytes c)) at_end low;
        elements = values_stand bytes c 0 (values_floor bytes c) ms p.4;
        keys = (p.0, p.3);
      },
    )
object_kids bytes ms s (array_in form) e p = let f = p.0 in let no : ⊥ = cc in absurd no
object_kids bytes ms s kind e p = absurd p

-- a value that has values is a container in place that has them
pub to_kids : (bytes : List ℕ) (t : Tree) (s : Spot) → IsValue bytes t s → 0 < length (tree_list (kids t)) → (c : Container) × Kids bytes t s c
to_kids bytes null s v low = let no : ⊥ = omega (arith, low) in absurd no
to_kids bytes (boolean b) s v low = let no : ⊥ = omega (arith, low) in absurd no
to_kids bytes (number z) s v low = let no : ⊥ = omega (arith, low) in absurd no
to_kids bytes (text x) s v low = let no : ⊥ = omega (arith, low) in absurd no
to_kids bytes (array ts) s v low = array_kids bytes ts s (kind_at bytes s.type_at) refl v
to_kids bytes (object ms) s v low = object_kids bytes ms s (kind_at bytes s.type_at) refl v

-- a container in place that has a tree's values stands for it
pub from_kids : (bytes : List ℕ) (t : Tree) (s : Spot) (c : Container) → Kids bytes t s c → IsValue bytes t s
from_kids bytes null s c h = absurd h.keys
from_kids bytes (boolean b) s c h = absurd h.keys
from_kids bytes (number z) s c h = absurd h.keys
from_kids bytes (text x) s c h = absurd h.keys
from_kids bytes (array ts) s c h =
    let floor : values_floor bytes c ≡ entries_end bytes c = ap (λ b. cond b (keys_end bytes c (count bytes c)) (entries_end bytes c)) h.keys in
    subst (λ o. IsSomeAnd o (HasElements bytes s.limit ts)) (sym h.is) (h.keys, h.frame, h.number, subst (λ n. AreElements bytes c 0 n ts) floor h.elements)
from_kids bytes (object ms) s c h =
    subst (λ o. IsSomeAnd o (HasMembers bytes s.limit ms)) (sym h.is) (h.keys.0, h.frame, h.number ∙ sym (values_length ms), h.keys.1, hold_back bytes c 0 (values_floor bytes c) ms h.elements)

-- ---- one value replaced

-- the bytes but the k-th entry, what is before its room and behind what is new have stayed; r values are behind it
pub record Refits (xs ys : List ℕ) (c : Container) (k r : ℕ) (u : Tree) : Type 0 where
  pub before : Same xs ys c.at (value_entry xs c k)
  pub middle : Same xs ys (value_entry xs c (suc k)) (end_before xs c k)
  pub placed : IsPlaced ys c k (end_before xs c k)
  pub value : IsValue ys u (child ys c k)
  pub last : floor_after ys c k (end_before xs c k) ≤ start_from xs c r (suc k)
  pub later : Same xs ys (start_from xs c r (suc k)) (end xs c)

keys_refit : (t : Tree) (xs ys : List ℕ) (c : Container) (n : ℕ) (u : Tree) → length xs ≡ length ys → end ys c ≡ end xs c → entries_end ys c ≡ entries_end xs c → entries_end xs c ≤ end xs c
    → count xs c ≡ length (tree_list (kids t)) → Same xs ys c.at (values_at xs c) → Same xs ys (entries_end xs c) (values_floor xs c) → KeyPart xs c t → KeyPart ys c (with_kid t n u)
keys_refit null xs ys c n u len ends same whole many head letters k = absurd k
keys_refit (boolean b) xs ys c n u len ends same whole many head letters k = absurd k
keys_refit (number z) xs ys c n u len ends same whole many head letters k = absurd k
keys_refit (text x) xs ys c n u len ends same whole many head letters k = absurd k
keys_refit (array ts) xs ys c n u len ends same whole many head letters k = k
keys_refit (object ms) xs ys c n u len ends same whole many head letters k =
    let ks = map (λ m. m.0) (member_list ms) in
    let all_keys : count xs c ≡ length ks = many ∙ sym (values_length ms) ∙ sym (keys_length ms) in
    let at : values_at xs c ≡ key_entry c (length ks) = ap (λ b. cond b (key_entry c (count xs c)) (header_end c)) k.0 ∙ ap (key_entry c) all_keys in
    let at_end : keys_end xs c (0 + length ks) ≡ values_floor xs c = ap (keys_end xs c) (let z : 0 + length ks ≡ length ks = omega arith in z ∙ sym all_keys)
    ∙ sym (ap (λ b. cond b (keys_end xs c (count xs c)) (entries_end xs c)) k.0) in (
      k.0,
      subst (AreKeys ys c 0 (entries_end ys c)) (sym (keys_with ms n u))
          (keys_again ks xs ys c 0 0 (entries_end xs c) (entries_end ys c) (values_floor xs c) len ends (omega (arith, same)) k.1
          (keys_stay xs ys c (length ks) (subst (Same xs ys c.at) at head)) (subst (KeysBelow xs c 0 (length ks)) at_end (keys_under ks xs c 0 k.1)) letters),
    )

-- and with another n-th value that fits, for the tree with that value
pub refit : (t : Tree) (xs ys : List ℕ) (s : Spot) (c : Container) (n : ℕ) (u : Tree) → length xs ≡ length ys → Kids xs t s c → n < length (tree_list (kids t)) → kind_at ys s.type_at ≡ kind_at xs s.type_at
    → Refits xs ys c n (length (tree_list (rest (kids t) n))) u → Kids ys (with_kid t n u) s c × (value_end ys s ≡ value_end xs s)
refit t xs ys s c n u len h low kind new =
    let first = values_first xs c in
    let start : c.at ≤ header_end c = omega arith in
    let head : Same xs ys c.at (header_end c) = same_part xs ys c.at (value_entry xs c n) c.at (header_end c) new.before (omega arith) (omega (arith, first)) in
    let many = count_same xs ys c head in
    let ends = end_same xs ys c head in
    let at_values : Same xs ys c.at (values_at xs c) = same_part xs ys c.at (value_entry xs c n) c.at (values_at xs c) new.before (omega arith) (omega arith) in
    let floor_eq = values_floor_same xs ys c at_values in
    let last = entries_end_same xs ys c many in
    let number = h.number in
    let z : 0 + n ≡ n = omega arith in
    let r = length (tree_list (rest (kids t) n)) in
    let behind : r ≡ length (tree_list (kids t)) - suc n = rest_length (kids t) n in
    let rise : values_floor xs c ≤ end_before xs c n = subst (λ k. values_floor xs c ≤ end_before xs c k) z (ends_rise xs c (kids t) 0 n h.elements (omega (arith, low))) in
    let floor_first = h.floor.0 in
    let entry_last = entry_within xs c n (count xs c) (omega (arith, low, number)) in
    let step : value_entry xs c (suc n) ≡ value_entry xs c n + value_width c.form = omega arith in
    let letters : Same xs ys (entries_end xs c) (values_floor xs c) = same_part xs ys (value_entry xs c (suc n)) (end_before xs c n) (entries_end xs c) (values_floor xs c) new.middle (omega (arith, entry_last, step)) rise in
    let values_before : Same xs ys (values_floor xs c) (end_before xs c n) = same_part xs ys (value_entry xs c (suc n)) (end_before xs c n) (values_floor xs c) (end_before xs c n) new.middle (omega (arith, entry_last, step, floor_first)) (omega arith) in
    let at : NewAt xs ys c n r u = record {
      placed = new.placed;
      value = new.value;
      last = new.last;
      behind = λ m below.
          let k = suc n + m in
          let before_end = entry_within xs c k (count xs c) (omega (arith, below, behind, number)) in
          let far : value_entry xs c (suc n) ≤ value_entry xs c k = let e : value_entry xs c k ≡ value_entry xs c (suc n) + m * value_width c.form = omega arith in omega (arith, e) in
          entry_stays xs ys c k (value_entry xs c (suc n)) (end_before xs c n) many new.middle far (omega (arith, before_end, floor_first, rise));
      later = new.later;
    } in
    let all = refitted (kids t) xs ys c 0 n u len ends h.elements low
    (λ m below. let last_before = entry_within xs c (0 + m) n (omega (arith, below)) in entry_stays xs ys c (0 + m) c.at (value_entry xs c n) many new.before (omega (arith, first)) last_before)
    (subst (λ k. Same xs ys (values_floor xs c) (end_before xs c k)) (sym z) values_before) (subst (λ k. NewAt xs ys c k r u) (sym z) at) in
    let floor_last = h.floor.1 in (
      record {
        is = ap (λ k. container_as k s.at) kind ∙ h.is;
        ends = λ others. ap (λ k. end_as others k s) kind ∙ h.ends others;
        place = h.place;
        frame = frame_same xs ys c s.limit many ends h.frame;
        number = many ∙ number ∙ sym (with_length (kids t) n u) ∙ ap (λ ts. length (tree_list ts)) (sym (kids_with t n u));
        floor = (omega (arith, floor_first, floor_eq, last), omega (arith, floor_last, floor_eq, ends));
        elements = subst (λ ts. AreElements ys c 0 (values_floor ys c) ts) (sym (kids_with t n u)) (subst (λ f. AreElements ys c 0 f (with_element (kids t) n u)) (sym floor_eq) all);
        keys = keys_refit t xs ys c n u len ends last h.frame.2 number at_values letters h.keys;
      },
      ap (λ k. end_as ys k s) kind ∙ h.ends ys ∙ ends ∙ sym (h.ends xs),
    )
