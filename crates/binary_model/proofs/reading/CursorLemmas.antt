-- Where bytes stand for a tree, what a path finds in place stands for what it finds in the tree.
use Rattle.std.proofs.Common.{◌≡◌, ℕ, zero, suc, ◌+◌, ◌-◌, ◌<◌, ℤ, Bool, true, false, ◌==◌, List, [], ◌∷◌, length, map, get_or, Option, Some, None, refl, sym, ap, subst, arith, nat_lt, cond, IsSomeAnd, bytes_eq}
use Rattle.std.specs.Option.{option_and_then, option_map}
use Rattle.std.specs.List.{slice_get}
use Rattle.std.proofs.lemmas.Bool.{ltb-true, ltb-false}
use Rattle.std.proofs.lemmas.Option.{slice_get_past, slice_get-get_or}
use Rattle.tree_model.specs.Tree.{Tree, null, boolean, number, text, array, object, Trees, no_trees, tree, tree_list, Members, no_members, member, member_list, get}
use Rattle.tree_model.specs.Path.{Leg, key, cell, last, Path, from_end, itself_at, child as tree_child, find}
use Rattle.binary_model.specs.Layout.{Kind, signed, unsigned, Spot, kind_at, Container, container_as, container_at, count, entries_end, key_end, values_floor, child, floor_after}
use Rattle.binary_model.specs.Stands.{IsNumberAs, AreKeys, IsValue, AreElements, HoldValues}
use Rattle.binary_model.specs.Cursor.{key_index, itself_in_place, outside_containers, in_object, in_array, leg_in, child_spot, find_spot, BothFound}

-- the n-th element stands in the n-th value from the j-th on
pub element_stands : (bytes : List ℕ) (c : Container) (ts : Trees) (j floor n : ℕ) → AreElements bytes c j floor ts → n < length (tree_list ts) → IsValue bytes (get_or (tree_list ts) n null) (child bytes c (j + n))
element_stands bytes c no_trees j floor n h low = let no : ⊥ = omega (arith, low) in absurd no
element_stands bytes c (tree t ts) j floor zero h low =
    let e : j ≡ j + 0 = omega arith in
    subst (λ i. IsValue bytes t (child bytes c i)) e h.1
element_stands bytes c (tree t ts) j floor (suc n) h low =
    let e : suc j + n ≡ j + suc n = omega arith in
    subst (λ i. IsValue bytes (get_or (tree_list ts) n null) (child bytes c i)) e (element_stands bytes c ts (suc j) (floor_after bytes c j floor) n h.2 (omega (arith, low)))

place_found : (bytes : List ℕ) (c : Container) (ts : Trees) (n : ℕ) → AreElements bytes c 0 (entries_end bytes c) ts → n < length (tree_list ts) → BothFound bytes (slice_get (tree_list ts) n) (Some (child bytes c n))
place_found bytes c ts n h low =
    let e : 0 + n ≡ n = omega arith in
    subst (λ o. BothFound bytes o (Some (child bytes c n))) (sym (slice_get-get_or (tree_list ts) n null low))
    (subst (λ i. IsValue bytes (get_or (tree_list ts) n null) (child bytes c i)) e (element_stands bytes c ts 0 (entries_end bytes c) n h low))

cell_found : (bytes : List ℕ) (c : Container) (ts : Trees) (n m : ℕ) → AreElements bytes c 0 (entries_end bytes c) ts → m ≡ length (tree_list ts) → (b : Bool) → nat_lt n m ≡ b
    → BothFound bytes (slice_get (tree_list ts) n) (cond b (Some (child bytes c n)) None)
cell_found bytes c ts n m h e true k = let low = ltb-true n m k in place_found bytes c ts n h (omega (arith, low, e))
cell_found bytes c ts n m h e false k =
    let high = ltb-false n m k in
    subst (λ o. BothFound bytes o None) (sym (slice_get_past (tree_list ts) n (omega (arith, high, e)))) tt

last_found : (bytes : List ℕ) (c : Container) (ts : Trees) (n m : ℕ) → AreElements bytes c 0 (entries_end bytes c) ts → m ≡ length (tree_list ts) → (b : Bool) → nat_lt n m ≡ b
    → BothFound bytes (option_and_then (slice_get (tree_list ts)) (cond b (Some (m - suc n)) None)) (option_map (child bytes c) (cond b (Some (m - suc n)) None))
last_found bytes c ts n m h e true k = let low = ltb-true n m k in place_found bytes c ts (m - suc n) h (omega (arith, low, e))
last_found bytes c ts n m h e false k = tt

chosen_found : (bytes : List ℕ) (c : Container) (t : Tree) (j : ℕ) (o : Option Tree) (p : Option ℕ) → IsValue bytes t (child bytes c j) → BothFound bytes o (option_map (child bytes c) p) → (b : Bool)
    → BothFound bytes (cond b (Some t) o) (option_map (child bytes c) (cond b (Some j) p))
chosen_found bytes c t j o p v h true = v
chosen_found bytes c t j o p v h false = h

key_found : (bytes : List ℕ) (c : Container) (k : List ℕ) (ms : Members) (j floor above : ℕ) → AreKeys bytes c j floor (map (λ m. m.0) (member_list ms)) → HoldValues bytes c j above ms
    → BothFound bytes (get k ms) (option_map (child bytes c) (key_index bytes c (length (member_list ms)) j k))
key_found bytes c k no_members j floor above a h = tt
key_found bytes c k (member l t ms) j floor above a h =
    subst (λ x. BothFound bytes (get k (member l t ms)) (option_map (child bytes c) (cond (bytes_eq k x) (Some j) (key_index bytes c (length (member_list ms)) (suc j) k)))) (sym a.2)
    (chosen_found bytes c t j (get k ms) (key_index bytes c (length (member_list ms)) (suc j) k) h.1
    (key_found bytes c k ms (suc j) (key_end bytes c j) (floor_after bytes c j above) a.3 h.2) (bytes_eq k l))

itself_found : (bytes : List ℕ) (t : Tree) (s : Spot) → IsValue bytes t s → (b : Bool) → BothFound bytes (cond b (Some t) None) (cond b (Some s) None)
itself_found bytes t s v true = v
itself_found bytes t s v false = tt

-- ---- by kinds

outside_found : (bytes : List ℕ) (t : Tree) (s : Spot) → IsValue bytes t s → ((k : List ℕ) → tree_child t (key k) ≡ None) → ((n : ℕ) → tree_child t (cell n) ≡ itself_at n t) → ((n : ℕ) → tree_child t (last n) ≡ itself_at n t)
    → (l : Leg) → BothFound bytes (tree_child t l) (outside_containers s l)
outside_found bytes t s v f g h (key k) = subst (λ o. BothFound bytes o None) (sym (f k)) tt
outside_found bytes t s v f g h (cell n) = subst (λ o. BothFound bytes o (itself_in_place n s)) (sym (g n)) (itself_found bytes t s v (n == 0))
outside_found bytes t s v f g h (last n) = subst (λ o. BothFound bytes o (itself_in_place n s)) (sym (h n)) (itself_found bytes t s v (n == 0))

number_scalar : (bytes : List ℕ) (z : ℤ) (s : Spot) (kind : Kind) → IsNumberAs kind bytes z s → container_as kind s.at ≡ None
number_scalar bytes z s (signed width) h = refl
number_scalar bytes z s (unsigned width) h = refl
number_scalar bytes z s kind h = absurd h

leg_outside : (bytes : List ℕ) (t : Tree) (s : Spot) (l : Leg) → container_at bytes s ≡ None → BothFound bytes (tree_child t l) (outside_containers s l) → BothFound bytes (tree_child t l) (child_spot bytes s l)
leg_outside bytes t s l e h = subst (λ o. BothFound bytes (tree_child t l) (leg_in bytes s o l)) (sym e) h

-- the leg through an array, and through an object, that stands in this container
array_leg : (bytes : List ℕ) (ts : Trees) (s : Spot) (c : Container) (l : Leg) → c.is_object ≡ false → count bytes c ≡ length (tree_list ts) → AreElements bytes c 0 (entries_end bytes c) ts
    → BothFound bytes (tree_child (array ts) l) (leg_in bytes s (Some c) l)
array_leg bytes ts s c (key k) e n h = subst (λ b. BothFound bytes None (cond b (in_object bytes s c (key k)) None)) (sym e) tt
array_leg bytes ts s c (cell i) e n h =
    subst (λ b. BothFound bytes (slice_get (tree_list ts) i) (cond b (in_object bytes s c (cell i)) (in_array bytes c (cell i)))) (sym e) (cell_found bytes c ts i (count bytes c) h n (nat_lt i (count bytes c)) refl)
array_leg bytes ts s c (last i) e n h =
    subst (λ b. BothFound bytes (tree_child (array ts) (last i)) (cond b (in_object bytes s c (last i)) (in_array bytes c (last i)))) (sym e)
    (subst (λ m. BothFound bytes (option_and_then (slice_get (tree_list ts)) (from_end m i)) (in_array bytes c (last i))) n (last_found bytes c ts i (count bytes c) h n (nat_lt i (count bytes c)) refl))

object_leg : (bytes : List ℕ) (ms : Members) (s : Spot) (c : Container) (l : Leg) → IsValue bytes (object ms) s → c.is_object ≡ true → count bytes c ≡ length (member_list ms)
    → AreKeys bytes c 0 (entries_end bytes c) (map (λ m. m.0) (member_list ms)) → HoldValues bytes c 0 (values_floor bytes c) ms → BothFound bytes (tree_child (object ms) l) (leg_in bytes s (Some c) l)
object_leg bytes ms s c (key k) v e n a h =
    subst (λ b. BothFound bytes (get k ms) (cond b (in_object bytes s c (key k)) None)) (sym e)
    (subst (λ m. BothFound bytes (get k ms) (option_map (child bytes c) (key_index bytes c m 0 k))) (sym n) (key_found bytes c k ms 0 (entries_end bytes c) (values_floor bytes c) a h))
object_leg bytes ms s c (cell i) v e n a h = subst (λ b. BothFound bytes (itself_at i (object ms)) (cond b (itself_in_place i s) (in_array bytes c (cell i)))) (sym e) (itself_found bytes (object ms) s v (i == 0))
object_leg bytes ms s c (last i) v e n a h = subst (λ b. BothFound bytes (itself_at i (object ms)) (cond b (itself_in_place i s) (in_array bytes c (last i)))) (sym e) (itself_found bytes (object ms) s v (i == 0))

some_leg : (bytes : List ℕ) (t : Tree) (s : Spot) (l : Leg) (P : Container → Type 0) → ((c : Container) → P c → BothFound bytes (tree_child t l) (leg_in bytes s (Some c) l))
    → (o : Option Container) → IsSomeAnd o P → BothFound bytes (tree_child t l) (leg_in bytes s o l)
some_leg bytes t s l P h None p = absurd p
some_leg bytes t s l P h (Some c) p = h c p

leg_found : (bytes : List ℕ) (t : Tree) (s : Spot) (l : Leg) → IsValue bytes t s → BothFound bytes (tree_child t l) (child_spot bytes s l)
leg_found bytes null s l v = leg_outside bytes null s l (ap (λ k. container_as k s.at) v.0) (outside_found bytes null s v (λ k. refl) (λ n. refl) (λ n. refl) l)
leg_found bytes (boolean b) s l v = leg_outside bytes (boolean b) s l (ap (λ k. container_as k s.at) v.0) (outside_found bytes (boolean b) s v (λ k. refl) (λ n. refl) (λ n. refl) l)
leg_found bytes (number z) s l v = leg_outside bytes (number z) s l (number_scalar bytes z s (kind_at bytes s.type_at) v) (outside_found bytes (number z) s v (λ k. refl) (λ n. refl) (λ n. refl) l)
leg_found bytes (text x) s l v = leg_outside bytes (text x) s l (ap (λ k. container_as k s.at) v.0) (outside_found bytes (text x) s v (λ k. refl) (λ n. refl) (λ n. refl) l)
leg_found bytes (array ts) s l v = some_leg bytes (array ts) s l _ (λ c p. array_leg bytes ts s c l p.0 p.2 p.3) (container_at bytes s) v
leg_found bytes (object ms) s l v = some_leg bytes (object ms) s l _ (λ c p. object_leg bytes ms s c l v p.0 p.2 p.3 p.4) (container_at bytes s) v

then_found : (bytes : List ℕ) (f : Tree → Option Tree) (g : Spot → Option Spot) → ((t : Tree) (s : Spot) → IsValue bytes t s → BothFound bytes (f t) (g s))
    → (o : Option Tree) (p : Option Spot) → BothFound bytes o p → BothFound bytes (option_and_then f o) (option_and_then g p)
then_found bytes f g h None None b = tt
then_found bytes f g h (Some t) (Some s) b = h t s b
then_found bytes f g h None (Some s) b = absurd b
then_found bytes f g h (Some t) None b = absurd b

-- a path finds in place what it finds in the tree
pub path_found : (bytes : List ℕ) (path : Path) (t : Tree) (s : Spot) → IsValue bytes t s → BothFound bytes (find path t) (find_spot bytes path s)
path_found bytes [] t s v = v
path_found bytes (l ∷ ls) t s v = then_found bytes (find ls) (find_spot bytes ls) (path_found bytes ls) (tree_child t l) (child_spot bytes s l) (leg_found bytes t s l v)
