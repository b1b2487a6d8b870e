-- A tree that a removal takes something out of is lighter and no deeper; one that a set adds a value to is heavier.
use Rattle.std.proofs.Common.{◌≡◌, ℕ, ◌≤◌, ◌<◌, zero, suc, max, true≢false, List, [], ◌∷◌, ◌++◌, length, slice_get, Option, Some, None, is_some, option_map, option_and_then, refl, sym, ap, subst, ◌∙◌, arith, cond, inl, inr}
use Rattle.tree_model.specs.Tree.{Tree, null, boolean, number, text, array, object, Trees, no_trees, tree, tree_list, Members, no_members, member, without, depth, trees_depth, members_depth, IsTree}
use Rattle.tree_model.specs.Path.{Leg, key, cell, last, Path, from_end, child as tree_child, with_child}
use Rattle.tree_model.specs.Edit.{at_parent, added, set_at, taken_out, element_out, try_set, try_remove}
use Rattle.binary_model.specs.Change.{position_of, positions}
use Rattle.binary_model.proofs.in_place.AgreeLemmas.{some_is}
use Rattle.binary_model.proofs.in_place.RefitLemmas.{nth}
use Rattle.binary_model.proofs.in_place.KidsLemmas.{kids, with_kid}
use Rattle.binary_model.proofs.in_place.RemoveLemmas.{without_element, without_nth_member, without_kid}
use Rattle.binary_model.proofs.in_place.PositionLemmas.{Step, leg_step, step_is}
use Rattle.json_patch.specs.Touched.{weight}
use Rattle.json_patch.proofs.PlaceLemmas.{found_at, below_count}
use Rattle.json_patch.proofs.WeightLemmas.{kid_heavier, kid_lighter, kid_out_lighter, pushed_heavier, paired_heavier, put_heavier}
use Rattle.json_patch.proofs.SingleLemmas.{kid_deep, below_deep}

-- ---- without one of its values a tree is no deeper

elements_out_deep : (ts : Trees) (n : ℕ) → trees_depth (without_element ts n) ≤ trees_depth ts
elements_out_deep no_trees n = omega arith
elements_out_deep (tree t ts) zero = omega arith
elements_out_deep (tree t ts) (suc n) = let rest : trees_depth (without_element ts n) ≤ trees_depth ts = elements_out_deep ts n in omega (arith, rest)

members_out_deep : (ms : Members) (n : ℕ) → members_depth (without_nth_member ms n) ≤ members_depth ms
members_out_deep no_members n = omega arith
members_out_deep (member k t ms) zero = omega arith
members_out_deep (member k t ms) (suc n) = let rest : members_depth (without_nth_member ms n) ≤ members_depth ms = members_out_deep ms n in omega (arith, rest)

kid_out_deep : (t : Tree) (n : ℕ) → depth (without_kid t n) ≤ depth t
kid_out_deep null n = omega arith
kid_out_deep (boolean b) n = omega arith
kid_out_deep (number z) n = omega arith
kid_out_deep (text x) n = omega arith
kid_out_deep (array ts) n = let e : trees_depth (without_element ts n) ≤ trees_depth ts = elements_out_deep ts n in omega (arith, e)
kid_out_deep (object ms) n = let e : members_depth (without_nth_member ms n) ≤ members_depth ms = members_out_deep ms n in omega (arith, e)

kid_other_deep : (t : Tree) (n : ℕ) (v w : Tree) → n < length (tree_list (kids t)) → nth (kids t) n ≡ v → depth w ≤ depth v → depth (with_kid t n w) ≤ depth t
kid_other_deep t n v w low found h =
    let one : depth (with_kid t n w) ≤ max (depth t) (suc (depth w)) = kid_deep t n w in
    let below : suc (depth (nth (kids t) n)) ≤ depth t = below_deep t n low in
    let same : depth (nth (kids t) n) ≡ depth v = ap depth found in
    omega (arith, one, below, same, h)

-- ---- what a leg takes out

some_none : {X : Type 0} (x : X) → Some x ≡ None → ⊥
some_none x e = true≢false (ap is_some e)

last_out : (ts : Trees) (n : ℕ) (o : Option ℕ) → from_end (length (tree_list ts)) n ≡ o → option_and_then (slice_get (tree_list ts)) o ≡ None → element_out ts o ≡ None
last_out ts n None at e = refl
last_out ts n (Some k) at e = absurd (some_none (nth ts k) (sym (found_at ts k (below_count (length (tree_list ts)) n k _ refl at)) ∙ e))

-- a leg that finds no value takes none out
pub nothing_out : (t : Tree) (l : Leg) → tree_child t l ≡ None → taken_out t l ≡ None
nothing_out null l e = refl
nothing_out (boolean b) l e = refl
nothing_out (number z) l e = refl
nothing_out (text x) l e = refl
nothing_out (array ts) (key k) e = refl
nothing_out (array ts) (cell n) e = ap (λ o. cond (is_some o) (element_out ts (Some n)) None) e
nothing_out (array ts) (last n) e = last_out ts n (from_end (length (tree_list ts)) n) refl e
nothing_out (object ms) (key k) e = ap (λ o. cond (is_some o) (Some (object (without k ms))) None) e
nothing_out (object ms) (cell n) e = refl
nothing_out (object ms) (last n) e = refl

-- ---- what a path takes out

-- the other tree has fewer values, and no more of them nested
abbrev pub IsLess : Tree → Tree → Type 0
IsLess u t = (weight u < weight t) × (depth u ≤ depth t)

leg_out : (t u : Tree) (l : Leg) → IsTree t → (o : Option Tree) → tree_child t l ≡ o → taken_out t l ≡ Some u → IsLess u t
leg_out t u l is None at e = absurd (some_none u (sym e ∙ nothing_out t l at))
leg_out t u l is (Some v) at e = by_step (leg_step t l v is at)
  where
    by_step : Step t l v → IsLess u t
    by_step (inl s) = absurd (some_none u (sym e ∙ s.3))
    by_step (inr (k, s)) = subst (λ u. IsLess u t) (some_is (sym s.out ∙ e)) (kid_out_lighter t k s.low, kid_out_deep t k)

put_less : (t v w : Tree) (l : Leg) → Step t l v → IsLess w v → IsLess (with_child t l w) t
put_less t v w l (inl s) h = subst (λ x. IsLess x t) (sym (s.2 w)) (subst (IsLess w) s.1 h)
put_less t v w l (inr (k, s)) h = subst (λ x. IsLess x t) (sym (s.set w)) (kid_lighter t k v w s.low s.found h.0, kid_other_deep t k v w s.low s.found h.1)

-- the tree behind a step is that behind the legs below it
below_is : (t u v : Tree) (l : Leg) (P : Tree → Type 0) (o : Option Tree) → option_map (with_child t l) o ≡ Some u → ((w : Tree) → o ≡ Some w → P (with_child t l w)) → P u
below_is t u v l P None e f = absurd (some_none u (sym e))
below_is t u v l P (Some w) e f = subst P (some_is e) (f w refl)

path_out : (ls : Path) (l : Leg) (t u : Tree) → IsTree t → at_parent taken_out l ls t ≡ Some u → IsLess u t
path_out [] l t u is e = leg_out t u l is (tree_child t l) refl e
path_out (m ∷ ls) l t u is e = by_child (tree_child t l) refl e (λ v w. path_out ls m v w)
  where
    by_child : (o : Option Tree) → tree_child t l ≡ o → option_map (with_child t l) (option_and_then (at_parent taken_out m ls) o) ≡ Some u
        → ((v w : Tree) → IsTree v → at_parent taken_out m ls v ≡ Some w → IsLess w v) → IsLess u t
    by_child None at h again = absurd (some_none u (sym h))
    by_child (Some v) at h again =
        let step = leg_step t l v is at in
        below_is t u v l (λ x. IsLess x t) (at_parent taken_out m ls v) h (λ w below. put_less t v w l step (again v w (step_is t l v is step) below))

-- what a removal by a path leaves is lighter than the tree, and no deeper
pub out_less : (path : Path) (t u : Tree) → IsTree t → try_remove path t ≡ Some u → IsLess u t
out_less [] t u is e = absurd (some_none u (sym e))
out_less (l ∷ ls) t u is e = path_out ls l t u is e

-- ---- what a set adds where a path finds nothing

-- where a leg finds no value, a set there does what the adding of one does
pub set_added : (u t : Tree) (l : Leg) → tree_child t l ≡ None → set_at u t l ≡ added u t l
set_added u t l e = ap (λ o. cond (is_some o) (Some (with_child t l u)) (added u t l)) e

heavier : (t u w v : Tree) → Some v ≡ Some w → weight t < weight v → weight t < weight w
heavier t u w v e h = subst (λ x. weight t < weight x) (some_is e) h

added_heavier : (u t w : Tree) (l : Leg) → tree_child t l ≡ None → added u t l ≡ Some w → weight t < weight w
added_heavier u null w (cell n) none e = heavier null u w _ e (paired_heavier null u)
added_heavier u (boolean b) w (cell n) none e = heavier (boolean b) u w _ e (paired_heavier (boolean b) u)
added_heavier u (number z) w (cell n) none e = heavier (number z) u w _ e (paired_heavier (number z) u)
added_heavier u (text x) w (cell n) none e = heavier (text x) u w _ e (paired_heavier (text x) u)
added_heavier u (array ts) w (cell n) none e = heavier (array ts) u w _ e (pushed_heavier ts u)
added_heavier u (object ms) w (cell n) none e = heavier (object ms) u w _ e (paired_heavier (object ms) u)
added_heavier u (object ms) w (key k) none e = heavier (object ms) u w _ e (put_heavier k u ms none)
added_heavier u null w (key k) none e = absurd (some_none w (sym e))
added_heavier u (boolean b) w (key k) none e = absurd (some_none w (sym e))
added_heavier u (number z) w (key k) none e = absurd (some_none w (sym e))
added_heavier u (text x) w (key k) none e = absurd (some_none w (sym e))
added_heavier u (array ts) w (key k) none e = absurd (some_none w (sym e))
added_heavier u null w (last n) none e = absurd (some_none w (sym e))
added_heavier u (boolean b) w (last n) none e = absurd (some_none w (sym e))
added_heavier u (number z) w (last n) none e = absurd (some_none w (sym e))
added_heavier u (text x) w (last n) none e = absurd (some_none w (sym e))
added_heavier u (array ts) w (last n) none e = absurd (some_none w (sym e))
added_heavier u (object ms) w (last n) none e = absurd (some_none w (sym e))

put_heavy : (t v w : Tree) (l : Leg) → Step t l v → weight v < weight w → weight t < weight (with_child t l w)
put_heavy t v w l (inl s) h = subst (λ x. weight t < weight x) (sym (s.2 w)) (subst (λ v. weight v < weight w) s.1 h)
put_heavy t v w l (inr (k, s)) h = subst (λ x. weight t < weight x) (sym (s.set w)) (kid_heavier t k v w s.low s.found h)

mapped_none : (f : List ℕ → List ℕ) (o : Option (List ℕ)) → option_map f o ≡ None → o ≡ None
mapped_none f None e = refl
mapped_none f (Some ks) e = absurd (some_none (f ks) e)

path_added : (ls : Path) (l : Leg) (u t w : Tree) → IsTree t → positions (l ∷ ls) t ≡ None → at_parent (set_at u) l ls t ≡ Some w → weight t < weight w
path_added [] l u t w is nowhere e = by_child (tree_child t l) refl nowhere
  where
    by_child : (o : Option Tree) → tree_child t l ≡ o → option_and_then (λ v. option_map (λ js. position_of t l ++ js) (Some [])) o ≡ None → weight t < weight w
    by_child None at h = added_heavier u t w l at (sym (set_added u t l at) ∙ e)
    by_child (Some v) at h = absurd (some_none (position_of t l ++ []) h)
path_added (m ∷ ls) l u t w is nowhere e = by_child (tree_child t l) refl nowhere e (λ v x. path_added ls m u v x)
  where
    by_child : (o : Option Tree) → tree_child t l ≡ o → option_and_then (λ v. option_map (λ js. position_of t l ++ js) (positions (m ∷ ls) v)) o ≡ None
        → option_map (with_child t l) (option_and_then (at_parent (set_at u) m ls) o) ≡ Some w
        → ((v x : Tree) → IsTree v → positions (m ∷ ls) v ≡ None → at_parent (set_at u) m ls v ≡ Some x → weight v < weight x) → weight t < weight w
    by_child None at gone h again = absurd (some_none w (sym h))
    by_child (Some v) at gone h again =
        let step = leg_step t l v is at in
        below_is t w v l (λ x. weight t < weight x) (at_parent (set_at u) m ls v) h
        (λ x below. put_heavy t v x l step (again v x (step_is t l v is step) (mapped_none (λ js. position_of t l ++ js) (positions (m ∷ ls) v) gone) below))

-- where a path leads to no value and a set adds one, the tree becomes heavier
pub set_heavier : (path : Path) (u t w : Tree) → IsTree t → positions path t ≡ None → try_set path u t ≡ Some w → weight t < weight w
set_heavier [] u t w is nowhere e = absurd (some_none [] nowhere)
set_heavier (l ∷ ls) u t w is nowhere e = path_added ls l u t w is nowhere e
