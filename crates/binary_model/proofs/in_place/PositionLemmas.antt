-- The edits of a tree by the positions that a path enters.
use Rattle.std.proofs.Common.{◌≡◌, ℕ, zero, suc, ◌≤◌, ◌<◌, Bool, true, false, ◌==◌, List, [], ◌∷◌, ◌++◌, length, map, get_or, slice_get, slice_set, remove, bytes_eq, Option, Some, None, is_some, option_map, option_and_then, unwrap_or, Less, Equal, Greater, refl, sym, ap, subst, ◌∙◌, arith, cond, inl, inr, ◌⊎◌}
use Rattle.std.specs.Ordering.{match_ordering}
use Rattle.std.proofs.lemmas.Option.{slice_get_past, slice_get-get_or}
use Rattle.std.proofs.lemmas.Bool.{cases_lt}
use Rattle.std.proofs.lemmas.Slice.Eq.{bytes_eq-Decides}
use Rattle.tree_model.specs.Tree.{Tree, null, boolean, number, text, array, object, Trees, no_trees, tree, tree_list, trees, Members, no_members, member, member_list, get, put, without, key_cmp, IsKey, AreMembers, IsTree, AreTrees, HoldTrees}
use Rattle.tree_model.specs.Path.{Leg, key, cell, last, Path, from_end, itself_at, child, with_child, at_cell_set}
use Rattle.tree_model.specs.Edit.{at_parent, added, set_at, replaced, taken_out, element_out, set, replace, remove as remove_path}
use Rattle.tree_model.proofs.TreeLemmas.{trees-tree_list}
use Rattle.tree_model.proofs.KeyLemmas.{key_total, itself, turned}
use Rattle.tree_model.proofs.KeyOrder.{Above, Rising, rising_from}
use Rattle.binary_model.specs.Change.{member_position, position_of, positions}
use Rattle.binary_model.proofs.in_place.AgreeLemmas.{some_is}
use Rattle.binary_model.proofs.reading.StandLemmas.{values}
use Rattle.binary_model.proofs.in_place.RefitLemmas.{nth, with_element}
use Rattle.binary_model.proofs.in_place.KidsLemmas.{kids, with_nth_member, with_kid, keys_with}
use Rattle.binary_model.proofs.in_place.RemoveLemmas.{without_element, without_nth_member, without_kid, without_key, keys_without}
use Rattle.binary_model.proofs.in_place.LiftLemmas.{changed_at, Reaches}

-- ---- elements

list_set : (ts : Trees) (n : ℕ) (u : Tree) → trees (slice_set (tree_list ts) n u) ≡ with_element ts n u
list_set no_trees n u = refl
list_set (tree t ts) zero u = ap (tree u) (trees-tree_list ts)
list_set (tree t ts) (suc n) u = ap (tree t) (list_set ts n u)

list_out : (ts : Trees) (n : ℕ) → trees (remove (tree_list ts) n) ≡ without_element ts n
list_out no_trees zero = refl
list_out no_trees (suc n) = refl
list_out (tree t ts) zero = trees-tree_list ts
list_out (tree t ts) (suc n) = ap (tree t) (list_out ts n)

nth_or : (ts : Trees) (n : ℕ) → get_or (tree_list ts) n null ≡ nth ts n
nth_or no_trees n = refl
nth_or (tree t ts) zero = refl
nth_or (tree t ts) (suc n) = nth_or ts n

list_found : (ts : Trees) (n : ℕ) (v : Tree) → slice_get (tree_list ts) n ≡ Some v → (n < length (tree_list ts)) × (nth ts n ≡ v)
list_found ts n v e = elim (cases_lt n (length (tree_list ts))) [
  | inl low ↦ (low, sym (nth_or ts n) ∙ some_is (sym (slice_get-get_or (tree_list ts) n null low) ∙ e))
  | inr high ↦ let none = slice_get_past (tree_list ts) n high in let no : ⊥ = cc in absurd no
]

-- ---- members

above_found : (l k : List ℕ) (ms : Members) (v : Tree) → Above l ms → get k ms ≡ Some v → key_cmp l k ≡ Less
above_found l k no_members v up e = let no : ⊥ = cc in absurd no
above_found l k (member m t ms) v up e = go (bytes_eq k m) refl e (above_found l k ms v up.1)
  where
    go : (b : Bool) → bytes_eq k m ≡ b → cond b (Some t) (get k ms) ≡ Some v → (get k ms ≡ Some v → key_cmp l k ≡ Less) → key_cmp l k ≡ Less
    go true same h later = ap (key_cmp l) ((bytes_eq-Decides k m).0 same) ∙ up.0
    go false same h later = later h

-- a member that is there
record MemberAt (k : List ℕ) (v : Tree) (ms : Members) : Type 0 where
  pub low : member_position k ms < length (tree_list (values ms))
  pub found : nth (values ms) (member_position k ms) ≡ v
  pub set : (u : Tree) → put k u ms ≡ with_nth_member ms (member_position k ms) u
  pub out : without k ms ≡ without_nth_member ms (member_position k ms)

member_at : (k : List ℕ) (v : Tree) (ms : Members) → Rising ms → get k ms ≡ Some v → MemberAt k v ms
member_at k v no_members up e = let no : ⊥ = cc in absurd no
member_at k v (member l t ms) up e = go (bytes_eq k l) refl e (member_at k v ms up.1)
  where
    go : (b : Bool) → bytes_eq k l ≡ b → cond b (Some t) (get k ms) ≡ Some v → (get k ms ≡ Some v → MemberAt k v ms) → MemberAt k v (member l t ms)
    go true same h later =
        let equal : key_cmp k l ≡ Equal = ap (key_cmp k) (sym ((bytes_eq-Decides k l).0 same)) ∙ itself k in
        let here : member_position k (member l t ms) ≡ 0 = ap (λ b. cond b 0 (suc (member_position k ms))) same in
        record {
          low = subst (λ n. n < suc (length (tree_list (values ms)))) (sym here) (omega arith);
          found = ap (nth (values (member l t ms))) here ∙ some_is h;
          set = λ u. ap (λ o. match_ordering o (member k u (member l t ms)) (member l u ms) (member l t (put k u ms))) equal ∙ sym (ap (λ n. with_nth_member (member l t ms) n u) here);
          out = ap (λ b. cond b ms (member l t (without k ms))) same ∙ sym (ap (without_nth_member (member l t ms)) here);
        }
    go false same h later =
        let m = later h in
        let greater : key_cmp k l ≡ Greater = turned l k Less (above_found l k ms v up.0 h) in
        let there : member_position k (member l t ms) ≡ suc (member_position k ms) = ap (λ b. cond b 0 (suc (member_position k ms))) same in
        let low = m.low in
        record {
          low = subst (λ n. n < suc (length (tree_list (values ms)))) (sym there) (omega (arith, low));
          found = ap (nth (values (member l t ms))) there ∙ m.found;
          set = λ u. ap (λ o. match_ordering o (member k u (member l t ms)) (member l u ms) (member l t (put k u ms))) greater ∙ ap (member l t) (m.set u) ∙ sym (ap (λ n. with_nth_member (member l t ms) n u) there);
          out = ap (λ b. cond b ms (member l t (without k ms))) same ∙ ap (member l t) m.out ∙ sym (ap (without_nth_member (member l t ms)) there);
        }

-- ---- one leg

-- the leg stays at the tree
abbrev pub Itself : Tree → Leg → Tree → Type 0
Itself t l v = (position_of t l ≡ []) × (v ≡ t) × ((w : Tree) → with_child t l w ≡ w) × (taken_out t l ≡ None)

-- the leg enters the k-th value
pub record Enters (t : Tree) (l : Leg) (v : Tree) (k : ℕ) : Type 0 where
  pub position : position_of t l ≡ k ∷ []
  pub low : k < length (tree_list (kids t))
  pub found : nth (kids t) k ≡ v
  pub set : (w : Tree) → with_child t l w ≡ with_kid t k w
  pub out : taken_out t l ≡ Some (without_kid t k)

-- a leg goes from a tree to its value, at the position that is counted, or stays where a scalar is its own value
abbrev pub Step : Tree → Leg → Tree → Type 0
Step t l v = Itself t l v ⊎ ((k : ℕ) × Enters t l v k)

stays_here : (t : Tree) (l : Leg) (v : Tree) (n : ℕ) → child t l ≡ itself_at n t → position_of t l ≡ [] → ((w : Tree) → with_child t l w ≡ w) → taken_out t l ≡ None → child t l ≡ Some v → Step t l v
stays_here t l v n at none set out e = inl (none, go (n == 0) (sym at ∙ e), set, out)
  where
    go : (b : Bool) → cond b (Some t) None ≡ Some v → v ≡ t
    go true h = sym (some_is h)
    go false h = let no : ⊥ = cc in absurd no

no_key : (t : Tree) (l : Leg) (v : Tree) → child t l ≡ None → child t l ≡ Some v → Step t l v
no_key t l v n e = let no : ⊥ = cc in absurd no

cell_step : (ts : Trees) (n : ℕ) (v : Tree) → slice_get (tree_list ts) n ≡ Some v → Enters (array ts) (cell n) v n
cell_step ts n v e =
    let f = list_found ts n v e in
    record {
      position = refl;
      low = f.0;
      found = f.1;
      set = λ w. ap array (list_set ts n w);
      out = ap (λ o. cond (is_some o) (element_out ts (Some n)) None) e ∙ ap (λ us. Some (array us)) (list_out ts n);
    }

last_step : (ts : Trees) (n : ℕ) (v : Tree) (o : Option ℕ) → from_end (length (tree_list ts)) n ≡ o → option_and_then (slice_get (tree_list ts)) o ≡ Some v → Step (array ts) (last n) v
last_step ts n v None at e = let no : ⊥ = cc in absurd no
last_step ts n v (Some k) at e =
    let f = list_found ts k v e in
    inr (
      k,
      record {
        position = ap (λ o. unwrap_or o 0 ∷ []) at;
        low = f.0;
        found = f.1;
        set = λ w. ap (λ o. at_cell_set ts o w) at ∙ ap array (list_set ts k w);
        out = ap (element_out ts) at ∙ ap (λ us. Some (array us)) (list_out ts k);
      },
    )

key_step : (ms : Members) (k : List ℕ) (v : Tree) → AreMembers (member_list ms) → get k ms ≡ Some v → Step (object ms) (key k) v
key_step ms k v is e =
    let m = member_at k v ms (rising_from ms is) e in
    inr (
      member_position k ms,
      record {
        position = refl;
        low = m.low;
        found = m.found;
        set = λ w. ap object (m.set w);
        out = ap (λ o. cond (is_some o) (Some (object (without k ms))) None) e ∙ ap (λ ns. Some (object ns)) m.out;
      },
    )

-- a leg that finds something makes such a step
pub leg_step : (t : Tree) (l : Leg) (v : Tree) → IsTree t → child t l ≡ Some v → Step t l v
leg_step null (key k) v is e = no_key null (key k) v refl e
leg_step null (cell n) v is e = stays_here null (cell n) v n refl refl (λ w. refl) refl e
leg_step null (last n) v is e = stays_here null (last n) v n refl refl (λ w. refl) refl e
leg_step (boolean b) (key k) v is e = no_key (boolean b) (key k) v refl e
leg_step (boolean b) (cell n) v is e = stays_here (boolean b) (cell n) v n refl refl (λ w. refl) refl e
leg_step (boolean b) (last n) v is e = stays_here (boolean b) (last n) v n refl refl (λ w. refl) refl e
leg_step (number z) (key k) v is e = no_key (number z) (key k) v refl e
leg_step (number z) (cell n) v is e = stays_here (number z) (cell n) v n refl refl (λ w. refl) refl e
leg_step (number z) (last n) v is e = stays_here (number z) (last n) v n refl refl (λ w. refl) refl e
leg_step (text x) (key k) v is e = no_key (text x) (key k) v refl e
leg_step (text x) (cell n) v is e = stays_here (text x) (cell n) v n refl refl (λ w. refl) refl e
leg_step (text x) (last n) v is e = stays_here (text x) (last n) v n refl refl (λ w. refl) refl e
leg_step (array ts) (key k) v is e = no_key (array ts) (key k) v refl e
leg_step (array ts) (cell n) v is e = inr (n, cell_step ts n v e)
leg_step (array ts) (last n) v is e = last_step ts n v (from_end (length (tree_list ts)) n) refl e
leg_step (object ms) (key k) v is e = key_step ms k v is.0 e
leg_step (object ms) (cell n) v is e = stays_here (object ms) (cell n) v n refl refl (λ w. refl) refl e
leg_step (object ms) (last n) v is e = stays_here (object ms) (last n) v n refl refl (λ w. refl) refl e

-- ---- trees below a tree

-- a tree with another value at the end of positions
abbrev pub put_at : List ℕ → Tree → Tree → Tree
put_at [] u t = u
put_at (k ∷ ks) u t = with_kid t k (put_at ks u (nth (kids t) k))

-- a value put at positions is such a change
pub put_changes : (k : ℕ) (ks : List ℕ) (u t : Tree) → put_at (k ∷ ks) u t ≡ changed_at (λ t n. with_kid t n u) (k ∷ ks) t
put_changes k [] u t = refl
put_changes k (l ∷ ls) u t = ap (with_kid t k) (put_changes l ls u (nth (kids t) k))

values_are : (ms : Members) → HoldTrees ms → AreTrees (values ms)
values_are no_members h = tt
values_are (member k t ms) h = (h.0, values_are ms h.1)

kids_are : (t : Tree) → IsTree t → AreTrees (kids t)
kids_are null h = tt
kids_are (boolean b) h = tt
kids_are (number z) h = tt
kids_are (text x) h = tt
kids_are (array ts) h = h
kids_are (object ms) h = values_are ms h.1

nth_is : (ts : Trees) (n : ℕ) → AreTrees ts → IsTree (nth ts n)
nth_is no_trees n h = tt
nth_is (tree t ts) zero h = h.0
nth_is (tree t ts) (suc n) h = nth_is ts n h.1

kid_is : (t : Tree) (n : ℕ) → IsTree t → IsTree (nth (kids t) n)
kid_is t n h = nth_is (kids t) n (kids_are t h)

-- a step leads from a tree to a tree
pub step_is : (t : Tree) (l : Leg) (v : Tree) → IsTree t → Step t l v → IsTree v
step_is t l v h (inl s) = subst IsTree (sym s.1) h
step_is t l v h (inr s) = subst IsTree s.1.found (kid_is t s.0 h)

-- ---- a path that sets

-- what an act does where the leg finds a value
abbrev Puts : (Tree → Leg → Option Tree) → Tree → Type 0
Puts act u = (t : Tree) (l : Leg) (v : Tree) → child t l ≡ Some v → act t l ≡ Some (with_child t l u)

set_puts : (u : Tree) → Puts (set_at u) u
set_puts u t l v e = ap (λ o. cond (is_some o) (Some (with_child t l u)) (added u t l)) e

replace_puts : (u : Tree) → Puts (replaced u) u
replace_puts u t l v e = ap (λ o. cond (is_some o) (Some (with_child t l u)) None) e

abbrev PutOn : Tree → Leg → Tree → List ℕ → Tree → Type 0
PutOn t l u js v = (with_child t l (put_at js u v) ≡ put_at (position_of t l ++ js) u t) × Reaches (position_of t l ++ js) t

put_on : (t : Tree) (l : Leg) (v : Tree) (js : List ℕ) (u : Tree) → Step t l v → Reaches js v → PutOn t l u js v
put_on t l v js u (inl s) r = (
  s.2 (put_at js u v) ∙ ap (put_at js u) s.1 ∙ sym (ap (λ ks. put_at (ks ++ js) u t) s.0),
  subst (λ ks. Reaches (ks ++ js) t) (sym s.0) (subst (Reaches js) s.1 r),
)
put_on t l v js u (inr (k, s)) r = (
  s.set (put_at js u v) ∙ ap (λ w. with_kid t k (put_at js u w)) (sym s.found) ∙ sym (ap (λ ks. put_at (ks ++ js) u t) s.position),
  subst (λ ks. Reaches (ks ++ js) t) (sym s.position) (s.low, subst (Reaches js) (sym s.found) r),
)

abbrev PutPath : (Tree → Leg → Option Tree) → Tree → Leg → Path → Tree → List ℕ → Type 0
PutPath act u l ls t ks = (at_parent act l ls t ≡ Some (put_at ks u t)) × Reaches ks t

one_put : (act : Tree → Leg → Option Tree) (u : Tree) → Puts act u → (l : Leg) (t : Tree) (ks : List ℕ) → IsTree t → (o : Option Tree) → child t l ≡ o
    → option_and_then (λ v. option_map (λ ks. position_of t l ++ ks) (Some [])) o ≡ Some ks → PutPath act u l [] t ks
one_put act u puts l t ks is None at e = let no : ⊥ = cc in absurd no
one_put act u puts l t ks is (Some v) at e =
    let s = put_on t l v [] u (leg_step t l v is at) tt in
    subst (PutPath act u l [] t) (some_is e) (puts t l v at ∙ ap Some s.0, s.1)

more_put : (act : Tree → Leg → Option Tree) (u : Tree) (l m : Leg) (ls : Path) (t v : Tree) (ks : List ℕ) → IsTree t → child t l ≡ Some v → (o : Option (List ℕ)) → positions (m ∷ ls) v ≡ o
    → option_map (λ ks. position_of t l ++ ks) o ≡ Some ks → ((js : List ℕ) → positions (m ∷ ls) v ≡ Some js → PutPath act u m ls v js) → PutPath act u l (m ∷ ls) t ks
more_put act u l m ls t v ks is at None below e again = let no : ⊥ = cc in absurd no
more_put act u l m ls t v ks is at (Some js) below e again =
    let inner = again js below in
    let s = put_on t l v js u (leg_step t l v is at) inner.1 in
    subst (PutPath act u l (m ∷ ls) t) (some_is e) (ap (λ o. option_map (with_child t l) (option_and_then (at_parent act m ls) o)) at ∙ ap (option_map (with_child t l)) inner.0 ∙ ap Some s.0, s.1)

below_put : (act : Tree → Leg → Option Tree) (u : Tree) (l m : Leg) (ls : Path) (t : Tree) (ks : List ℕ) → IsTree t → (o : Option Tree) → child t l ≡ o
    → option_and_then (λ v. option_map (λ ks. position_of t l ++ ks) (positions (m ∷ ls) v)) o ≡ Some ks → ((v : Tree) (js : List ℕ) → IsTree v → positions (m ∷ ls) v ≡ Some js → PutPath act u m ls v js)
    → PutPath act u l (m ∷ ls) t ks
below_put act u l m ls t ks is None at e again = let no : ⊥ = cc in absurd no
below_put act u l m ls t ks is (Some v) at e again =
    more_put act u l m ls t v ks is at (positions (m ∷ ls) v) refl e (λ js. again v js (step_is t l v is (leg_step t l v is at)))

put_path : (act : Tree → Leg → Option Tree) (u : Tree) → Puts act u → (ls : Path) (l : Leg) (t : Tree) (ks : List ℕ) → IsTree t → positions (l ∷ ls) t ≡ Some ks → PutPath act u l ls t ks
put_path act u puts [] l t ks is e = one_put act u puts l t ks is (child t l) refl e
put_path act u puts (m ∷ ls) l t ks is e = below_put act u l m ls t ks is (child t l) refl e (λ v js. put_path act u puts ls m v js)

-- set replaces along the positions of a path that is found
pub set_positions : (path : Path) (u t : Tree) (ks : List ℕ) → IsTree t → positions path t ≡ Some ks → (set path u t ≡ put_at ks u t) × Reaches ks t
set_positions [] u t ks is e = subst (λ ks. (set [] u t ≡ put_at ks u t) × Reaches ks t) (some_is e) (refl, tt)
set_positions (l ∷ ls) u t ks is e = let p = put_path (set_at u) u (set_puts u) ls l t ks is e in (ap (λ o. unwrap_or o t) p.0, p.1)

-- and so does replace
pub replace_positions : (path : Path) (u t : Tree) (ks : List ℕ) → IsTree t → positions path t ≡ Some ks → (replace path u t ≡ put_at ks u t) × Reaches ks t
replace_positions [] u t ks is e = subst (λ ks. (replace [] u t ≡ put_at ks u t) × Reaches ks t) (some_is e) (refl, tt)
replace_positions (l ∷ ls) u t ks is e = let p = put_path (replaced u) u (replace_puts u) ls l t ks is e in (ap (λ o. unwrap_or o t) p.0, p.1)

-- ---- a path that removes

-- the value at the end of the positions is taken out
abbrev pub Out : List ℕ → Tree → Option Tree → Type 0
Out ks t o = (1 ≤ length ks) × (o ≡ Some (changed_at without_kid ks t))

-- or nothing
abbrev pub TakesOut : List ℕ → Tree → Option Tree → Type 0
TakesOut ks t o = ((o ≡ None) ⊎ Out ks t o) × Reaches ks t

one_out : (t : Tree) (l : Leg) (v : Tree) → Step t l v → TakesOut (position_of t l ++ []) t (taken_out t l)
one_out t l v (inl s) = (inl s.3, subst (λ ks. Reaches (ks ++ []) t) (sym s.0) tt)
one_out t l v (inr (k, s)) = subst (λ ks. TakesOut (ks ++ []) t (taken_out t l)) (sym s.position) (inr (omega arith, s.out), (s.low, tt))

out_below : (t : Tree) (k : ℕ) (js : List ℕ) (v : Tree) (o : Option Tree) → nth (kids t) k ≡ v → Out js v o → Out (k ∷ js) t (option_map (with_kid t k) o)
out_below t k [] v o e h = let low = h.0 in let no : ⊥ = omega (arith, low) in absurd no
out_below t k (j ∷ js) v o e h = (omega arith, ap (option_map (with_kid t k)) h.1 ∙ ap (λ w. Some (with_kid t k (changed_at without_kid (j ∷ js) w))) (sym e))

same_map : (f g : Tree → Tree) (o : Option Tree) → ((w : Tree) → f w ≡ g w) → option_map f o ≡ option_map g o
same_map f g None h = refl
same_map f g (Some w) h = ap Some (h w)

map_itself : (f : Tree → Tree) (o : Option Tree) → ((w : Tree) → f w ≡ w) → option_map f o ≡ o
map_itself f None h = refl
map_itself f (Some w) h = ap Some (h w)

more_out : (t : Tree) (l : Leg) (v : Tree) (js : List ℕ) (o : Option Tree) → Step t l v → TakesOut js v o → TakesOut (position_of t l ++ js) t (option_map (with_child t l) o)
more_out t l v js o (inl s) h =
    subst (λ ks. TakesOut (ks ++ js) t (option_map (with_child t l) o)) (sym s.0) (subst (TakesOut js t) (sym (map_itself (with_child t l) o s.2)) (subst (λ w. TakesOut js w o) s.1 h))
more_out t l v js o (inr (k, s)) (inl none, r) =
    subst (λ ks. TakesOut (ks ++ js) t (option_map (with_child t l) o)) (sym s.position) (inl (ap (option_map (with_child t l)) none), (s.low, subst (Reaches js) (sym s.found) r))
more_out t l v js o (inr (k, s)) (inr out, r) =
    subst (λ ks. TakesOut (ks ++ js) t (option_map (with_child t l) o)) (sym s.position)
    (inr (subst (Out (k ∷ js) t) (sym (same_map (with_child t l) (with_kid t k) o s.set)) (out_below t k js v o s.found out)), (s.low, subst (Reaches js) (sym s.found) r))

one_taken : (l : Leg) (t : Tree) (ks : List ℕ) → IsTree t → (o : Option Tree) → child t l ≡ o
    → option_and_then (λ v. option_map (λ ks. position_of t l ++ ks) (Some [])) o ≡ Some ks → TakesOut ks t (taken_out t l)
one_taken l t ks is None at e = let no : ⊥ = cc in absurd no
one_taken l t ks is (Some v) at e = subst (λ ks. TakesOut ks t (taken_out t l)) (some_is e) (one_out t l v (leg_step t l v is at))

more_taken : (l m : Leg) (ls : Path) (t v : Tree) (ks : List ℕ) → IsTree t → child t l ≡ Some v → (o : Option (List ℕ)) → positions (m ∷ ls) v ≡ o
    → option_map (λ ks. position_of t l ++ ks) o ≡ Some ks → ((js : List ℕ) → positions (m ∷ ls) v ≡ Some js → TakesOut js v (at_parent taken_out m ls v)) → TakesOut ks t (at_parent taken_out l (m ∷ ls) t)
more_taken l m ls t v ks is at None below e again = let no : ⊥ = cc in absurd no
more_taken l m ls t v ks is at (Some js) below e again =
    subst (λ o. TakesOut ks t (option_map (with_child t l) (option_and_then (at_parent taken_out m ls) o))) (sym at)
    (subst (λ ks. TakesOut ks t (option_map (with_child t l) (at_parent taken_out m ls v))) (some_is e) (more_out t l v js (at_parent taken_out m ls v) (leg_step t l v is at) (again js below)))

below_taken : (l m : Leg) (ls : Path) (t : Tree) (ks : List ℕ) → IsTree t → (o : Option Tree) → child t l ≡ o
    → option_and_then (λ v. option_map (λ ks. position_of t l ++ ks) (positions (m ∷ ls) v)) o ≡ Some ks
    → ((v : Tree) (js : List ℕ) → IsTree v → positions (m ∷ ls) v ≡ Some js → TakesOut js v (at_parent taken_out m ls v)) → TakesOut ks t (at_parent taken_out l (m ∷ ls) t)
below_taken l m ls t ks is None at e again = let no : ⊥ = cc in absurd no
below_taken l m ls t ks is (Some v) at e again = more_taken l m ls t v ks is at (positions (m ∷ ls) v) refl e (λ js. again v js (step_is t l v is (leg_step t l v is at)))

out_path : (ls : Path) (l : Leg) (t : Tree) (ks : List ℕ) → IsTree t → positions (l ∷ ls) t ≡ Some ks → TakesOut ks t (at_parent taken_out l ls t)
out_path [] l t ks is e = one_taken l t ks is (child t l) refl e
out_path (m ∷ ls) l t ks is e = below_taken l m ls t ks is (child t l) refl e (λ v js. out_path ls m v js)

-- a path that removes leaves the tree, or takes out the value at the end of its positions
abbrev pub Removes : List ℕ → Tree → Tree → Type 0
Removes ks t u = ((u ≡ t) ⊎ (u ≡ changed_at without_kid ks t)) × Reaches ks t

removes : (ks : List ℕ) (t : Tree) (o : Option Tree) → TakesOut ks t o → Removes ks t (unwrap_or o t)
removes ks t o (inl none, r) = (inl (ap (λ o. unwrap_or o t) none), r)
removes ks t o (inr out, r) = (inr (ap (λ o. unwrap_or o t) out.1), r)

-- a removal along positions takes out the value at their end
pub remove_positions : (path : Path) (t : Tree) (ks : List ℕ) → IsTree t → positions path t ≡ Some ks → Removes ks t (remove_path path t)
remove_positions [] t ks is e = (inl refl, subst (λ ks. Reaches ks t) (some_is e) tt)
remove_positions (l ∷ ls) t ks is e = removes ks t (at_parent taken_out l ls t) (out_path ls l t ks is e)

-- ---- what a tree keeps

elements_with : (ts : Trees) (n : ℕ) (u : Tree) → AreTrees ts → IsTree u → AreTrees (with_element ts n u)
elements_with no_trees n u h is = tt
elements_with (tree t ts) zero u h is = (is, h.1)
elements_with (tree t ts) (suc n) u h is = (h.0, elements_with ts n u h.1 is)

elements_without : (ts : Trees) (n : ℕ) → AreTrees ts → AreTrees (without_element ts n)
elements_without no_trees n h = tt
elements_without (tree t ts) zero h = h.1
elements_without (tree t ts) (suc n) h = (h.0, elements_without ts n h.1)

members_with : (ms : Members) (n : ℕ) (u : Tree) → HoldTrees ms → IsTree u → HoldTrees (with_nth_member ms n u)
members_with no_members n u h is = tt
members_with (member k t ms) zero u h is = (is, h.1)
members_with (member k t ms) (suc n) u h is = (h.0, members_with ms n u h.1 is)

members_without : (ms : Members) (n : ℕ) → HoldTrees ms → HoldTrees (without_nth_member ms n)
members_without no_members n h = tt
members_without (member k t ms) zero h = h.1
members_without (member k t ms) (suc n) h = (h.0, members_without ms n h.1)

abbrev Rise : List (List ℕ) → Type 0
Rise [] = Unit {0}
Rise (k ∷ []) = IsKey k
Rise (k ∷ l ∷ ks) = IsKey k × (key_cmp k l ≡ Less) × Rise (l ∷ ks)

members_rise : (ms : List (List ℕ × Tree)) → AreMembers ms → Rise (map (λ m. m.0) ms)
members_rise [] h = tt
members_rise (m ∷ []) h = h
members_rise (m ∷ n ∷ ms) h = (h.0, h.1, members_rise (n ∷ ms) h.2)

rise_members : (ms : List (List ℕ × Tree)) → Rise (map (λ m. m.0) ms) → AreMembers ms
rise_members [] h = tt
rise_members (m ∷ []) h = h
rise_members (m ∷ n ∷ ms) h = (h.0, h.1, rise_members (n ∷ ms) h.2)

rise_behind : (k : List ℕ) (ks : List (List ℕ)) → Rise (k ∷ ks) → Rise ks
rise_behind k [] h = tt
rise_behind k (l ∷ ks) h = h.2

rise_over : (k l : List ℕ) (ks : List (List ℕ)) → Rise (k ∷ l ∷ ks) → Rise (k ∷ ks)
rise_over k l [] h = h.0
rise_over k l (m ∷ ks) h = (h.0, key_total.trans k l m h.1 h.2.1, h.2.2)

rise_without : (ks : List (List ℕ)) (n : ℕ) → Rise ks → Rise (without_key ks n)
rise_without [] n h = tt
rise_without (k ∷ ks) zero h = rise_behind k ks h
rise_without (k ∷ []) (suc n) h = h
rise_without (k ∷ l ∷ ks) (suc zero) h = rise_over k l ks h
rise_without (k ∷ l ∷ ks) (suc (suc n)) h = (h.0, h.1, rise_without (l ∷ ks) (suc n) h.2)

with_kid_is : (t : Tree) (n : ℕ) (u : Tree) → IsTree t → IsTree u → IsTree (with_kid t n u)
with_kid_is null n u h is = tt
with_kid_is (boolean b) n u h is = tt
with_kid_is (number z) n u h is = h
with_kid_is (text x) n u h is = h
with_kid_is (array ts) n u h is = elements_with ts n u h is
with_kid_is (object ms) n u h is =
    (rise_members (member_list (with_nth_member ms n u)) (subst Rise (sym (keys_with ms n u)) (members_rise (member_list ms) h.0)), members_with ms n u h.1 is)

without_kid_is : (t : Tree) (n : ℕ) → IsTree t → IsTree (without_kid t n)
without_kid_is null n h = tt
without_kid_is (boolean b) n h = tt
without_kid_is (number z) n h = h
without_kid_is (text x) n h = h
without_kid_is (array ts) n h = elements_without ts n h
without_kid_is (object ms) n h =
    (rise_members (member_list (without_nth_member ms n)) (subst Rise (sym (keys_without ms n)) (rise_without (map (λ m. m.0) (member_list ms)) n (members_rise (member_list ms) h.0))), members_without ms n h.1)

-- what is put leaves a tree
pub put_at_is : (ks : List ℕ) (u t : Tree) → IsTree u → IsTree t → IsTree (put_at ks u t)
put_at_is [] u t is h = is
put_at_is (k ∷ ks) u t is h = with_kid_is t k (put_at ks u (nth (kids t) k)) h (put_at_is ks u (nth (kids t) k) is (kid_is t k h))

-- and so does what is taken out
pub taken_is : (ks : List ℕ) (t : Tree) → IsTree t → IsTree (changed_at without_kid ks t)
taken_is [] t h = h
taken_is (k ∷ []) t h = without_kid_is t k h
taken_is (k ∷ l ∷ ls) t h = with_kid_is t k (changed_at without_kid (l ∷ ls) (nth (kids t) k)) h (taken_is (l ∷ ls) (nth (kids t) k) (kid_is t k h))
