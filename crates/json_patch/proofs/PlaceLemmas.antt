-- What a leg enters in place.
use Rattle.std.proofs.Common.{◌≡◌, ◌≤◌, ◌<◌, ℕ, zero, suc, ◌+◌, ◌-◌, ℤ, ◌==◌, ◌&&◌, Bool, true, false, List, [], ◌∷◌, length, map, get_or, slice_get, bytes_eq, Option, Some, None, unwrap_or, option_and_then, Less, Equal, refl, sym, ap, subst, ◌∙◌, arith, cond, nat_lt, IsSomeAnd, ◌⊎◌, inl, inr}
use Rattle.std.proofs.lemmas.Bool.{ltb-true, ltb-false}
use Rattle.std.proofs.lemmas.Option.{slice_get_past, slice_get-get_or}
use Rattle.std.proofs.lemmas.Slice.Eq.{bytes_eq-Decides}
use Rattle.tree_model.specs.Tree.{Tree, null, boolean, number, text, array, object, Trees, no_trees, tree, tree_list, Members, no_members, member, member_list, get, key_cmp, AreMembers, IsTree}
use Rattle.tree_model.specs.Path.{Leg, key, cell, last, from_end, itself_at, child as tree_child}
use Rattle.tree_model.proofs.KeyLemmas.{itself, other_bytes, same_bytes}
use Rattle.tree_model.proofs.KeyOrder.{Above, Rising, rising_from}
use Rattle.binary_model.specs.Layout as layout
use Rattle.binary_model.specs.Layout.{Kind, signed, unsigned, kind_at, container_as, container_at, count, end, entries_end, key_of, key_end, keys_end, values_floor, child}
use Rattle.binary_model.specs.Stands.{IsNumberAs, AreKeys, IsValue, AreElements}
use Rattle.binary_model.specs.Change.{member_position, position_of}
use Rattle.binary_model.proofs.in_place.AgreeLemmas.{some_is}
use Rattle.binary_model.proofs.reading.StandLemmas.{values, values_stand, values_length, keys_length}
use Rattle.binary_model.proofs.in_place.AgainLemmas.{HasElements, HasMembers, keys_low}
use Rattle.binary_model.proofs.in_place.RefitLemmas.{nth}
use Rattle.binary_model.proofs.in_place.PositionLemmas.{Itself as ItselfAt, Enters, Step}
use Rattle.json_edit.specs.Places as places
use Rattle.json_edit.specs.Places.{place_in}
use Rattle.json_binary.specs.declared.cursor.place.Spot.{Spot}
use Rattle.json_binary.specs.declared.cursor.place.Container.{Container}
use Rattle.json_binary.specs.Place.{container_of, spot_of, IsFramed}
use Rattle.json_patch.specs.declared.lead.Entered.TheVariants.{Nothing, Itself}
use Rattle.json_patch.specs.Stand.{Values}
use Rattle.json_patch.specs.Led.{IsEntered, EntersValue, IsNumber, IsMember}
use Rattle.json_patch.proofs.RoomLemmas.{kid_stands}

-- ---- the container that a value is

some_at : (P : layout.Container → Type 0) (o : Option layout.Container) (d : layout.Container) → o ≡ Some d → IsSomeAnd o P → P d
some_at P None d e p = absurd p
some_at P (Some x) d e p = subst P (some_is e) p

-- where there is no container, there is none with a property
pub none_at : (P : layout.Container → Type 0) (o : Option layout.Container) → o ≡ None → IsSomeAnd o P → ⊥
none_at P None e p = absurd p
none_at P (Some x) e p = let no : ⊥ = cc in no

number_none : (bytes : List ℕ) (z : ℤ) (s : layout.Spot) (kind : Kind) → IsNumberAs kind bytes z s → container_as kind s.at ≡ None
number_none bytes z s (signed width) h = refl
number_none bytes z s (unsigned width) h = refl
number_none bytes z s kind h = absurd h

-- a list or an object
abbrev pub Holder : List ℕ → layout.Spot → layout.Container → Tree → Type 0
Holder bytes s d t = ((ts : Trees) × (t ≡ array ts) × HasElements bytes s.limit ts d) ⊎ ((ms : Members) × (t ≡ object ms) × HasMembers bytes s.limit ms d)

no_container : {X : Type 0} (o : Option layout.Container) (d : layout.Container) → o ≡ None → o ≡ Some d → X
no_container o d n e = let no : ⊥ = cc in absurd no

-- a tree at whose spot a container begins is a list or an object that stands in it
pub holder : (bytes : List ℕ) (t : Tree) (s : layout.Spot) (d : layout.Container) → IsValue bytes t s → container_at bytes s ≡ Some d → Holder bytes s d t
holder bytes null s d v e = no_container (container_at bytes s) d (ap (λ k. container_as k s.at) v.0) e
holder bytes (boolean b) s d v e = no_container (container_at bytes s) d (ap (λ k. container_as k s.at) v.0) e
holder bytes (number z) s d v e = no_container (container_at bytes s) d (number_none bytes z s (kind_at bytes s.type_at) v) e
holder bytes (text x) s d v e = no_container (container_at bytes s) d (ap (λ k. container_as k s.at) v.0) e
holder bytes (array ts) s d v e = inl (ts, refl, some_at (HasElements bytes s.limit ts) (container_at bytes s) d e v)
holder bytes (object ms) s d v e = inr (ms, refl, some_at (HasMembers bytes s.limit ms) (container_at bytes s) d e v)

-- the elements of a list are the values of its container
pub elements_values : (bytes : List ℕ) (limit : ℕ) (ts : Trees) (d : layout.Container) → HasElements bytes limit ts d → Values bytes d ts
elements_values bytes limit ts d h =
    let floor : values_floor bytes d ≡ entries_end bytes d = ap (λ b. cond b (keys_end bytes d (count bytes d)) (entries_end bytes d)) h.0 in
    let whole = h.1.2 in
    record { number = h.2; elements = subst (λ n. AreElements bytes d 0 n ts) (sym floor) h.3; floor = (omega (arith, floor), omega (arith, floor, whole)) }

-- the values of an object's members are those of its container
pub members_values : (bytes : List ℕ) (limit : ℕ) (ms : Members) (d : layout.Container) → HasMembers bytes limit ms d → Values bytes d (values ms)
members_values bytes limit ms d h =
    let ks = map (λ m. m.0) (member_list ms) in
    let many = h.2 in
    let low = keys_low ks bytes d 0 h.3 h.1.2 in
    let at_end : keys_end bytes d (0 + length ks) ≡ values_floor bytes d = ap (keys_end bytes d) (let z : 0 + length ks ≡ length ks = omega arith in z ∙ keys_length ms ∙ sym many)
    ∙ sym (ap (λ b. cond b (keys_end bytes d (count bytes d)) (entries_end bytes d)) h.0) in
    record {
      number = many ∙ values_length ms;
      elements = values_stand bytes d 0 (values_floor bytes d) ms h.4;
      floor = subst (λ n. (entries_end bytes d ≤ n) × (n ≤ end bytes d)) at_end low;
    }

-- ---- a scalar

itself_found : (n : ℕ) (t : Tree) → (n == 0) ≡ true → itself_at n t ≡ Some t
itself_found n t e = ap (λ b. cond b (Some t) None) e

itself_none : (n : ℕ) (t : Tree) → (n == 0) ≡ false → itself_at n t ≡ None
itself_none n t e = ap (λ b. cond b (Some t) None) e

-- what legs do at a value that is no list, and no object with the leg's key
record Stays (t : Tree) : Type 0 where
  pub cells : (n : ℕ) → (tree_child t (cell n) ≡ itself_at n t) × (position_of t (cell n) ≡ [])
  pub lasts : (n : ℕ) → (tree_child t (last n) ≡ itself_at n t) × (position_of t (last n) ≡ [])

abbrev StaysFor : Tree → Type 0
StaysFor t = Stays t × ((k : List ℕ) → tree_child t (key k) ≡ None)

scalar_stays : (bytes : List ℕ) (t : Tree) (s : layout.Spot) → IsValue bytes t s → container_at bytes s ≡ None → StaysFor t
scalar_stays bytes null s v e = (record { cells = λ n. (refl, refl); lasts = λ n. (refl, refl) }, λ k. refl)
scalar_stays bytes (boolean b) s v e = (record { cells = λ n. (refl, refl); lasts = λ n. (refl, refl) }, λ k. refl)
scalar_stays bytes (number z) s v e = (record { cells = λ n. (refl, refl); lasts = λ n. (refl, refl) }, λ k. refl)
scalar_stays bytes (text x) s v e = (record { cells = λ n. (refl, refl); lasts = λ n. (refl, refl) }, λ k. refl)
scalar_stays bytes (array ts) s v e = absurd (none_at (HasElements bytes s.limit ts) (container_at bytes s) e v)
scalar_stays bytes (object ms) s v e = absurd (none_at (HasMembers bytes s.limit ms) (container_at bytes s) e v)

object_stays : (ms : Members) → Stays (object ms)
object_stays ms = record { cells = λ n. (refl, refl); lasts = λ n. (refl, refl) }

stays_itself : (t : Tree) (l : Leg) → Stays t → places.is_itself l ≡ true → (tree_child t l ≡ Some t) × (position_of t l ≡ [])
stays_itself t (key k) h e = let no : ⊥ = cc in absurd no
stays_itself t (cell n) h e = let c = h.cells n in (c.0 ∙ itself_found n t e, c.1)
stays_itself t (last n) h e = let c = h.lasts n in (c.0 ∙ itself_found n t e, c.1)

stays_nothing : (t : Tree) (l : Leg) → Stays t → ((k : List ℕ) → l ≡ key k → tree_child t l ≡ None) → places.is_itself l ≡ false → tree_child t l ≡ None
stays_nothing t (key k) h none e = none k refl
stays_nothing t (cell n) h none e = (h.cells n).0 ∙ itself_none n t e
stays_nothing t (last n) h none e = (h.lasts n).0 ∙ itself_none n t e

pub scalar_itself : (bytes : List ℕ) (t : Tree) (s : layout.Spot) (l : Leg) → IsValue bytes t s → container_at bytes s ≡ None → places.is_itself l ≡ true → IsEntered bytes s t l Itself
scalar_itself bytes t s l v e h = stays_itself t l (scalar_stays bytes t s v e).0 h

pub scalar_nothing : (bytes : List ℕ) (t : Tree) (s : layout.Spot) (l : Leg) → IsValue bytes t s → container_at bytes s ≡ None → places.is_itself l ≡ false → IsEntered bytes s t l Nothing
scalar_nothing bytes t s l v e h = let stay = scalar_stays bytes t s v e in stays_nothing t l stay.0 (λ k f. ap (tree_child t) f ∙ stay.1 k) h

-- ---- in a list

nth_or : (ts : Trees) (n : ℕ) → get_or (tree_list ts) n null ≡ nth ts n
nth_or no_trees n = refl
nth_or (tree t ts) zero = refl
nth_or (tree t ts) (suc n) = nth_or ts n

-- a number below the count of a list's elements finds the element of that number
pub found_at : (ts : Trees) (n : ℕ) → n < length (tree_list ts) → slice_get (tree_list ts) n ≡ Some (nth ts n)
found_at ts n low = slice_get-get_or (tree_list ts) n null low ∙ ap Some (nth_or ts n)

-- a leg that has a number in a list
abbrev Numbered : Trees → Leg → ℕ → Type 0
Numbered ts l k = (k < length (tree_list ts)) × (position_of (array ts) l ≡ k ∷ []) × (tree_child (array ts) l ≡ Some (nth ts k))

last_numbered : (ts : Trees) (n k : ℕ) → from_end (length (tree_list ts)) n ≡ Some k → k < length (tree_list ts) → Numbered ts (last n) k
last_numbered ts n k e low = (low, ap (λ o. unwrap_or o 0 ∷ []) e, ap (option_and_then (slice_get (tree_list ts))) e ∙ found_at ts k low)

-- a number counted from the end, where there is one, is below the count
pub below_count : (m n k : ℕ) (b : Bool) → nat_lt n m ≡ b → cond b (Some (m - suc n)) None ≡ Some k → k < m
below_count m n k true e h = let low = ltb-true n m e in let same : m - suc n ≡ k = some_is h in omega (arith, low, same)
below_count m n k false e h = let no : ⊥ = cc in absurd no

cell_numbered : (ts : Trees) (m n k : ℕ) → m ≡ length (tree_list ts) → (b : Bool) → nat_lt n m ≡ b → cond b (Some n) None ≡ Some k → Numbered ts (cell n) k
cell_numbered ts m n k e true t h =
    let low = ltb-true n m t in
    let same : n ≡ k = some_is h in
    (omega (arith, low, same, e), ap (λ i. i ∷ []) same, found_at ts n (omega (arith, low, e)) ∙ ap (λ i. Some (nth ts i)) same)
cell_numbered ts m n k e false t h = let no : ⊥ = cc in absurd no

numbered : (ts : Trees) (m : ℕ) (l : Leg) (k : ℕ) → m ≡ length (tree_list ts) → place_in m l ≡ Some k → Numbered ts l k
numbered ts m (key x) k e h = let no : ⊥ = cc in absurd no
numbered ts m (cell n) k e h = cell_numbered ts m n k e (nat_lt n m) refl h
numbered ts m (last n) k e h =
    let same : from_end (length (tree_list ts)) n ≡ Some k = ap (λ i. from_end i n) (sym e) ∙ h in
    last_numbered ts n k same (below_count (length (tree_list ts)) n k (nat_lt n (length (tree_list ts))) refl same)

cell_missing : (ts : Trees) (m n : ℕ) → m ≡ length (tree_list ts) → (b : Bool) → nat_lt n m ≡ b → cond b (Some n) None ≡ None → slice_get (tree_list ts) n ≡ None
cell_missing ts m n e true t h = let no : ⊥ = cc in absurd no
cell_missing ts m n e false t h = let high = ltb-false n m t in slice_get_past (tree_list ts) n (omega (arith, high, e))

missing : (ts : Trees) (m : ℕ) (l : Leg) → m ≡ length (tree_list ts) → place_in m l ≡ None → tree_child (array ts) l ≡ None
missing ts m (key x) e h = refl
missing ts m (cell n) e h = cell_missing ts m n e (nat_lt n m) refl h
missing ts m (last n) e h = ap (option_and_then (slice_get (tree_list ts))) (ap (λ i. from_end i n) (sym e) ∙ h)

-- ---- in an object

above_found : (l k : List ℕ) (ms : Members) (v : Tree) → Above l ms → get k ms ≡ Some v → key_cmp l k ≡ Less
above_found l k no_members v up e = let no : ⊥ = cc in absurd no
above_found l k (member m t ms) v up e = go (bytes_eq k m) refl e (above_found l k ms v up.1)
  where
    go : (b : Bool) → bytes_eq k m ≡ b → cond b (Some t) (get k ms) ≡ Some v → (get k ms ≡ Some v → key_cmp l k ≡ Less) → key_cmp l k ≡ Less
    go true same h later = ap (key_cmp l) ((bytes_eq-Decides k m).0 same) ∙ up.0
    go false same h later = later h

abbrev MemberIs : List ℕ → Members → ℕ → Type 0
MemberIs k ms n = (member_position k ms ≡ n) × (get k ms ≡ Some (nth (values ms) n))

member_is : (bytes : List ℕ) (d : layout.Container) (k : List ℕ) (ms : Members) (j floor n : ℕ) → AreKeys bytes d j floor (map (λ m. m.0) (member_list ms)) → Rising ms → n < length (member_list ms) → key_of bytes d (j + n) ≡ k → MemberIs k ms n
member_is bytes d k no_members j floor n a up low e = let no : ⊥ = omega (arith, low) in absurd no
member_is bytes d k (member l t ms) j floor zero a up low e =
    let z : j ≡ j + 0 = omega arith in
    let same : bytes_eq k l ≡ true = ap (λ x. bytes_eq x l) (sym (ap (key_of bytes d) z ∙ e) ∙ a.2) ∙ same_bytes l in
    (ap (λ b. cond b 0 (suc (member_position k ms))) same, ap (λ b. cond b (Some t) (get k ms)) same)
member_is bytes d k (member l t ms) j floor (suc n) a up low e =
    let z : suc j + n ≡ j + suc n = omega arith in
    let rest = member_is bytes d k ms (suc j) (key_end bytes d j) n a.3 up.1 (omega (arith, low)) (ap (key_of bytes d) z ∙ e) in
    let less = above_found l k ms (nth (values ms) n) up.0 rest.1 in
    let apart : bytes_eq k l ≡ false = other_bytes k l (λ same. let twice : Equal ≡ Less = sym (itself l) ∙ ap (key_cmp l) (sym same) ∙ less in let no : ⊥ = cc in no) in
    (ap (λ b. cond b 0 (suc (member_position k ms))) apart ∙ ap suc rest.0, ap (λ b. cond b (Some t) (get k ms)) apart ∙ rest.1)

-- ---- what a leg enters in a container

in_list : (bytes : List ℕ) (s : layout.Spot) (c : Container) (ts : Trees) (l : Leg) (k : ℕ) (u : Spot) → container_at bytes s ≡ Some (container_of c) → IsFramed bytes c → HasElements bytes s.limit ts (container_of c)
    → place_in (count bytes (container_of c)) l ≡ Some k → spot_of u ≡ child bytes (container_of c) k → EntersValue bytes s (array ts) l c k u
in_list bytes s c ts l k u is framed h at place =
    let vs = elements_values bytes s.limit ts (container_of c) h in
    let many = h.2 in
    let n = numbered ts (count bytes (container_of c)) l k many at in
    let low = n.0 in
    let here : k < count bytes (container_of c) = omega (arith, low, many) in
    record {
      is = is;
      kid = record { values = (framed, (ts, vs)); low = here; spot = place };
      position = n.1;
      value = nth ts k;
      found = n.2;
      stands = subst (IsValue bytes (nth ts k)) (sym place) (kid_stands bytes (container_of c) ts k vs here);
    }

in_object : (bytes : List ℕ) (s : layout.Spot) (c : Container) (ms : Members) (l : Leg) (k : ℕ) (u : Spot) → container_at bytes s ≡ Some (container_of c) → IsFramed bytes c → HasMembers bytes s.limit ms (container_of c)
    → AreMembers (member_list ms) → IsMember bytes (container_of c) l (Some k) → spot_of u ≡ child bytes (container_of c) k → EntersValue bytes s (object ms) l c k u
in_object bytes s c ms (key x) k u is framed h are m place =
    let vs = members_values bytes s.limit ms (container_of c) h in
    let many = h.2 in
    let low = m.0 in
    let z : k ≡ 0 + k = omega arith in
    let found = member_is bytes (container_of c) x ms 0 (entries_end bytes (container_of c)) k h.3 (rising_from ms are) (omega (arith, low, many)) (ap (key_of bytes (container_of c)) (sym z) ∙ m.1) in
    record {
      is = is;
      kid = record { values = (framed, (values ms, vs)); low = low; spot = place };
      position = ap (λ i. i ∷ []) found.0;
      value = nth (values ms) k;
      found = found.1;
      stands = subst (IsValue bytes (nth (values ms) k)) (sym place) (kid_stands bytes (container_of c) (values ms) k vs low);
    }
in_object bytes s c ms (cell n) k u is framed h are m place = let no : ⊥ = cc in absurd no
in_object bytes s c ms (last n) k u is framed h are m place = let no : ⊥ = cc in absurd no

keyed_clash : {X : Type 0} (b : Bool) → b ≡ true → b ≡ false → X
keyed_clash b e f = let no : ⊥ = cc in absurd no

-- a leg that finds a number in a container enters the value of that number, at its spot
pub entered_value : (bytes : List ℕ) (t : Tree) (s : layout.Spot) (c : Container) (l : Leg) (k : ℕ) (u : Spot) → IsTree t → IsValue bytes t s → container_at bytes s ≡ Some (container_of c) → IsFramed bytes c
    → IsNumber bytes (container_of c) l (Some k) → spot_of u ≡ child bytes (container_of c) k → EntersValue bytes s t l c k u
entered_value bytes t s c l k u tree_is v is framed n place = go t (holder bytes t s (container_of c) v is) tree_is
  where
    go : (t : Tree) → Holder bytes s (container_of c) t → IsTree t → EntersValue bytes s t l c k u
    go t (inl (ts, e, h)) tree_is = subst (λ t. EntersValue bytes s t l c k u) (sym e) (in_list bytes s c ts l k u is framed h (n.element h.0) place)
    go t (inr (ms, e, h)) tree_is = subst (λ t. EntersValue bytes s t l c k u) (sym e) (in_object bytes s c ms l k u is framed h (subst IsTree e tree_is).0 (n.member h.0) place)

object_key : (bytes : List ℕ) (s : layout.Spot) (d : layout.Container) (ms : Members) (l : Leg) → HasMembers bytes s.limit ms d → AreMembers (member_list ms) → IsMember bytes d l None → (k : List ℕ) → l ≡ key k → tree_child (object ms) l ≡ None
object_key bytes s d ms (key x) h are m k e = m ms (record { floor = entries_end bytes d; members = are; keys = h.3; number = keys_length ms ∙ sym h.2 })
object_key bytes s d ms (cell n) h are m k e = let no : ⊥ = cc in absurd no
object_key bytes s d ms (last n) h are m k e = let no : ⊥ = cc in absurd no

pub entered_nothing : (bytes : List ℕ) (t : Tree) (s : layout.Spot) (c : Container) (l : Leg) → IsTree t → IsValue bytes t s → container_at bytes s ≡ Some (container_of c)
    → IsNumber bytes (container_of c) l None → (c.is_object && places.is_itself l) ≡ false → IsEntered bytes s t l Nothing
entered_nothing bytes t s c l tree_is v is n out = go t (holder bytes t s (container_of c) v is) tree_is
  where
    go : (t : Tree) → Holder bytes s (container_of c) t → IsTree t → tree_child t l ≡ None
    go t (inl (ts, e, h)) tree_is = ap (λ t. tree_child t l) e ∙ missing ts (count bytes (container_of c)) l h.2 (n.element h.0)
    go t (inr (ms, e, h)) tree_is =
        let itself_out : places.is_itself l ≡ false = sym (ap (λ b. b && places.is_itself l) h.0) ∙ out in
        ap (λ t. tree_child t l) e ∙ stays_nothing (object ms) l (object_stays ms) (object_key bytes s (container_of c) ms l h (subst IsTree e tree_is).0 (n.member h.0)) itself_out

pub entered_itself : (bytes : List ℕ) (t : Tree) (s : layout.Spot) (c : Container) (l : Leg) → IsValue bytes t s → container_at bytes s ≡ Some (container_of c) → (c.is_object && places.is_itself l) ≡ true → IsEntered bytes s t l Itself
entered_itself bytes t s c l v is at = go t (holder bytes t s (container_of c) v is)
  where
    both : (a b : Bool) → (a && b) ≡ true → (a ≡ true) × (b ≡ true)
    both true b e = (refl, e)
    both false b e = let no : ⊥ = cc in absurd no

    go : (t : Tree) → Holder bytes s (container_of c) t → (tree_child t l ≡ Some t) × (position_of t l ≡ [])
    go t (inl (ts, e, h)) = keyed_clash c.is_object (both c.is_object (places.is_itself l) at).0 h.0
    go t (inr (ms, e, h)) = subst (λ t. (tree_child t l ≡ Some t) × (position_of t l ≡ [])) (sym e) (stays_itself (object ms) l (object_stays ms) (both c.is_object (places.is_itself l) at).1)

-- ---- the step of a leg

none_first : {X : Type 0} (k : ℕ) (ks : List ℕ) → [] ≡ k ∷ ks → X
none_first k ks e = let no : ⊥ = cc in absurd no

-- a leg that leads from a tree to itself, with no position entered, stays there
pub stays_at : (t : Tree) (l : Leg) → Step t l t → position_of t l ≡ [] → ItselfAt t l t
stays_at t l (inl s) e = s
stays_at t l (inr (k, s)) e = none_first k [] (sym e ∙ s.position)

first_of : List ℕ → ℕ
first_of [] = 0
first_of (k ∷ ks) = k

-- a leg that leads to a value, with a position entered, enters the value of that number
pub enters_at : (t : Tree) (l : Leg) (v : Tree) (k : ℕ) → Step t l v → position_of t l ≡ k ∷ [] → Enters t l v k
unfolding first_of
enters_at t l v k (inl s) e = none_first k [] (sym s.0 ∙ e)
enters_at t l v k (inr (j, s)) e = subst (Enters t l v) (ap first_of (sym s.position ∙ e)) s

-- where a container stands, its k-th value does
pub kid_there : (bytes : List ℕ) (t : Tree) (s : layout.Spot) (d : layout.Container) (k : ℕ) → IsValue bytes t s → container_at bytes s ≡ Some d → k < count bytes d → (v : Tree) × IsValue bytes v (child bytes d k)
kid_there bytes t s d k v e low = go (holder bytes t s d v e)
  where
    go : Holder bytes s d t → (v : Tree) × IsValue bytes v (child bytes d k)
    go (inl (ts, f, h)) = (nth ts k, kid_stands bytes d ts k (elements_values bytes s.limit ts d h) low)
    go (inr (ms, f, h)) = (nth (values ms) k, kid_stands bytes d (values ms) k (members_values bytes s.limit ms d h) low)
