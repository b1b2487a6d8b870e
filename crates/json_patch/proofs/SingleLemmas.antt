-- A value put where a path leads, below the root: when it leaves its tree equal, how deep its tree is, and where it stands.
use Rattle.std.proofs.Common.{nat_lt, ◌≡◌, ℕ, zero, suc, ◌+◌, ◌≤◌, ◌<◌, max, Bool, true, false, true≢false, List, [], ◌∷◌, length, Option, Some, None, option_map, option_and_then, is_some, refl, sym, ap, subst, ◌∙◌, arith}
use Rattle.tree_model.specs.Tree.{Tree, null, boolean, number, text, array, object, Trees, no_trees, tree, tree_list, Members, no_members, member, depth, trees_depth, members_depth, IsTree, AreTrees, HoldTrees}
use Rattle.std.proofs.Common.{◌++◌, ◌==◌, if◌then◌else◌}
use Rattle.std.proofs.lemmas.Grind.{common_steps}
use Rattle.std.proofs.lemmas.Bool.{ltb-false}
use Rattle.tree_model.specs.Path.{Leg, key, cell, last, Path, child}
use Rattle.tree_model.specs.Same.{same_tree}
use Rattle.tree_model.proofs.SameLemmas.{tree_equal, tree_itself}
use Rattle.binary_model.specs.Layout as layout
use Rattle.binary_model.specs.Stands.{IsValue}
use Rattle.json_binary.specs.Place.{container_of}
use Rattle.json_binary.specs.declared.cursor.place.Container.{Container}
use Rattle.json_patch.specs.Stand.{HasValues}
use Rattle.json_patch.specs.Led.{ActsThere}
use Rattle.json_patch.specs.declared.lead.Place.{Place}
use Rattle.binary_model.specs.Change.{position_of, positions, at_holder, Run, runs, runs_from, grown, differing, Progress, step}
use Rattle.binary_model.proofs.in_place.AgreeLemmas.{some_is}
use Rattle.binary_model.proofs.reading.StandLemmas.{values}
use Rattle.binary_model.proofs.in_place.RefitLemmas.{nth, with_element, element_at}
use Rattle.binary_model.proofs.in_place.KidsLemmas.{kids, with_nth_member, with_kid, Kids, to_kids}
use Rattle.binary_model.proofs.in_place.LiftLemmas.{Reaches}
use Rattle.binary_model.proofs.in_place.PositionLemmas.{put_at, set_positions}

-- the value where the positions lead
abbrev pub value_at : List ℕ → Tree → Tree
value_at [] t = t
value_at (k ∷ ks) t = value_at ks (nth (kids t) k)

-- no value isn't some value
pub none_some : {X : Type 0} (x : X) → None ≡ Some x → ⊥
none_some x e = true≢false (sym (ap is_some e))

-- ---- it leaves its tree equal exactly where the value is equal

nth_with : (ts : Trees) (n : ℕ) (u : Tree) → n < length (tree_list ts) → nth (with_element ts n u) n ≡ u
nth_with no_trees n u low = absurd (omega (arith, low))
nth_with (tree t ts) zero u low = refl
nth_with (tree t ts) (suc n) u low = nth_with ts n u (omega (arith, low))

with_nth : (ts : Trees) (n : ℕ) → n < length (tree_list ts) → with_element ts n (nth ts n) ≡ ts
with_nth no_trees n low = refl
with_nth (tree t ts) zero low = refl
with_nth (tree t ts) (suc n) low = ap (tree t) (with_nth ts n (omega (arith, low)))

values_with : (ms : Members) (n : ℕ) (u : Tree) → values (with_nth_member ms n u) ≡ with_element (values ms) n u
values_with no_members n u = refl
values_with (member k t ms) zero u = refl
values_with (member k t ms) (suc n) u = ap (tree t) (values_with ms n u)

members_with_nth : (ms : Members) (n : ℕ) → n < length (tree_list (values ms)) → with_nth_member ms n (nth (values ms) n) ≡ ms
members_with_nth no_members n low = refl
members_with_nth (member k t ms) zero low = refl
members_with_nth (member k t ms) (suc n) low = ap (member k t) (members_with_nth ms n (omega (arith, low)))

pub kid_with : (t : Tree) (n : ℕ) (u : Tree) → n < length (tree_list (kids t)) → nth (kids (with_kid t n u)) n ≡ u
kid_with null n u low = absurd (omega (arith, low))
kid_with (boolean b) n u low = absurd (omega (arith, low))
kid_with (number z) n u low = absurd (omega (arith, low))
kid_with (text s) n u low = absurd (omega (arith, low))
kid_with (array ts) n u low = nth_with ts n u low
kid_with (object ms) n u low = ap (λ ts. nth ts n) (values_with ms n u) ∙ nth_with (values ms) n u low

with_itself : (t : Tree) (n : ℕ) → n < length (tree_list (kids t)) → with_kid t n (nth (kids t) n) ≡ t
with_itself null n low = absurd (omega (arith, low))
with_itself (boolean b) n low = absurd (omega (arith, low))
with_itself (number z) n low = absurd (omega (arith, low))
with_itself (text s) n low = absurd (omega (arith, low))
with_itself (array ts) n low = ap array (with_nth ts n low)
with_itself (object ms) n low = ap object (members_with_nth ms n low)

put_found : (ks : List ℕ) (u t : Tree) → Reaches ks t → value_at ks (put_at ks u t) ≡ u
put_found [] u t r = refl
put_found (k ∷ ks) u t r = ap (value_at ks) (kid_with t k (put_at ks u (nth (kids t) k)) r.0) ∙ put_found ks u (nth (kids t) k) r.1

put_itself : (ks : List ℕ) (t : Tree) → Reaches ks t → put_at ks (value_at ks t) t ≡ t
put_itself [] t r = refl
put_itself (k ∷ ks) t r = ap (with_kid t k) (put_itself ks (nth (kids t) k) r.1) ∙ with_itself t k r.0

-- two answers are equal where each is yes if the other is
pub by_equal : (a b : Bool) → (a ≡ true → b ≡ true) → (b ≡ true → a ≡ true) → a ≡ b
by_equal true true f g = refl
by_equal true false f g = sym (f refl)
by_equal false true f g = g refl
by_equal false false f g = refl

-- a value put where positions lead leaves its tree equal exactly where the value there is equal
pub same_put : (ks : List ℕ) (u t : Tree) → Reaches ks t → same_tree t (put_at ks u t) ≡ same_tree (value_at ks t) u
same_put ks u t r = by_equal (same_tree t (put_at ks u t)) (same_tree (value_at ks t) u)
    (λ h. let e : value_at ks t ≡ u = ap (value_at ks) (tree_equal t (put_at ks u t) h) ∙ put_found ks u t r in subst (λ v. same_tree (value_at ks t) v ≡ true) e (tree_itself (value_at ks t)))
    (λ h. let e : put_at ks u t ≡ t = ap (λ v. put_at ks v t) (sym (tree_equal (value_at ks t) u h)) ∙ put_itself ks t r in subst (λ v. same_tree t v ≡ true) (sym e) (tree_itself t))

-- ---- it is no deeper than what was there, or than the value below its containers

elements_deep : (ts : Trees) (n : ℕ) (u : Tree) → trees_depth (with_element ts n u) ≤ max (trees_depth ts) (depth u)
elements_deep no_trees n u = omega arith
elements_deep (tree t ts) zero u = omega arith
elements_deep (tree t ts) (suc n) u = let rest : trees_depth (with_element ts n u) ≤ max (trees_depth ts) (depth u) = elements_deep ts n u in omega (arith, rest)

members_deep : (ms : Members) (n : ℕ) (u : Tree) → members_depth (with_nth_member ms n u) ≤ max (members_depth ms) (depth u)
members_deep no_members n u = omega arith
members_deep (member k t ms) zero u = omega arith
members_deep (member k t ms) (suc n) u = let rest : members_depth (with_nth_member ms n u) ≤ max (members_depth ms) (depth u) = members_deep ms n u in omega (arith, rest)

-- a tree with one of its values replaced is no deeper than it was, or than one above the new value
pub kid_deep : (t : Tree) (n : ℕ) (u : Tree) → depth (with_kid t n u) ≤ max (depth t) (suc (depth u))
kid_deep null n u = omega arith
kid_deep (boolean b) n u = omega arith
kid_deep (number z) n u = omega arith
kid_deep (text s) n u = omega arith
kid_deep (array ts) n u = let e : trees_depth (with_element ts n u) ≤ max (trees_depth ts) (depth u) = elements_deep ts n u in omega (arith, e)
kid_deep (object ms) n u = let e : members_depth (with_nth_member ms n u) ≤ max (members_depth ms) (depth u) = members_deep ms n u in omega (arith, e)

nth_deep : (ts : Trees) (n : ℕ) → depth (nth ts n) ≤ trees_depth ts
nth_deep no_trees n = omega arith
nth_deep (tree t ts) zero = omega arith
nth_deep (tree t ts) (suc n) = let rest : depth (nth ts n) ≤ trees_depth ts = nth_deep ts n in omega (arith, rest)

values_deep : (ms : Members) → trees_depth (values ms) ≡ members_depth ms
values_deep no_members = refl
values_deep (member k t ms) = ap (max (depth t)) (values_deep ms)

-- a value of a container is less deep than the container
pub below_deep : (t : Tree) (n : ℕ) → n < length (tree_list (kids t)) → suc (depth (nth (kids t) n)) ≤ depth t
below_deep null n low = absurd (omega (arith, low))
below_deep (boolean b) n low = absurd (omega (arith, low))
below_deep (number z) n low = absurd (omega (arith, low))
below_deep (text s) n low = absurd (omega (arith, low))
below_deep (array ts) n low = let e : depth (nth ts n) ≤ trees_depth ts = nth_deep ts n in omega (arith, e)
below_deep (object ms) n low = let e : depth (nth (values ms) n) ≤ members_depth ms = subst (λ d. depth (nth (values ms) n) ≤ d) (values_deep ms) (nth_deep (values ms) n) in omega (arith, e)

-- with a value put in, a tree keeps within a depth that it had, and that the value has below its
-- positions
pub put_deep : (ks : List ℕ) (u t : Tree) (most : ℕ) → Reaches ks t → depth t ≤ most → length ks + depth u ≤ most → depth (put_at ks u t) ≤ most
put_deep [] u t most r h g = omega (arith, g)
put_deep (k ∷ ks) u t zero r h g = absurd (omega (arith, g))
put_deep (k ∷ ks) u t (suc m) r h g =
    let kid : suc (depth (nth (kids t) k)) ≤ depth t = below_deep t k r.0 in
    let inner : depth (put_at ks u (nth (kids t) k)) ≤ m = put_deep ks u (nth (kids t) k) m r.1 (omega (arith, kid, h)) (omega (arith, g)) in
    let one : depth (with_kid t k (put_at ks u (nth (kids t) k))) ≤ max (depth t) (suc (depth (put_at ks u (nth (kids t) k)))) = kid_deep t k (put_at ks u (nth (kids t) k)) in
    omega (arith, inner, one, h)

-- ---- no path enters more values than it has legs

few_positions : (t : Tree) (l : Leg) → length (position_of t l) ≤ 1
few_positions null l = omega arith
few_positions (boolean b) l = omega arith
few_positions (number z) l = omega arith
few_positions (text s) l = omega arith
few_positions (array ts) (key k) = omega arith
few_positions (array ts) (cell n) = omega arith
few_positions (array ts) (last n) = omega arith
few_positions (object ms) (key k) = omega arith
few_positions (object ms) (cell n) = omega arith
few_positions (object ms) (last n) = omega arith

joined : (xs ys : List ℕ) → length (xs ++ ys) ≡ length xs + length ys
joined xs ys = grind (arith, common_steps)

-- a path enters at most as many values as it has legs
pub few_entered : (ls : Path) (t : Tree) (ks : List ℕ) → positions ls t ≡ Some ks → length ks ≤ length ls
few_entered [] t ks e = subst (λ js. length js ≤ 0) (some_is e) (omega arith)
few_entered (l ∷ ls) t ks e = by_child (λ u js f. few_entered ls u js f) (child t l) e
  where
    by_rest : (o : Option (List ℕ)) → ((js : List ℕ) → o ≡ Some js → length js ≤ length ls) → option_map (λ js. position_of t l ++ js) o ≡ Some ks → length ks ≤ suc (length ls)
    by_rest None f h = absurd (none_some ks h)
    by_rest (Some js) f h =
        let few : length js ≤ length ls = f js refl in
        let one : length (position_of t l) ≤ 1 = few_positions t l in
        let all : length (position_of t l ++ js) ≡ length (position_of t l) + length js = joined (position_of t l) js in
        subst (λ xs. length xs ≤ suc (length ls)) (some_is h) (omega (arith, few, one, all))

    by_child : ((u : Tree) (js : List ℕ) → positions ls u ≡ Some js → length js ≤ length ls) → (o : Option Tree) → option_and_then (λ u. option_map (λ js. position_of t l ++ js) (positions ls u)) o ≡ Some ks → length ks ≤ suc (length ls)
    by_child again None h = absurd (none_some ks h)
    by_child again (Some u) h = by_rest (positions ls u) (again u) h

-- ---- no more places differ than there are

grown_by_one : (at x y : ℕ) (rs : List Run) → differing (grown at x y rs) ≡ suc (differing rs)
grown_by_one at x y [] = refl
grown_by_one at x y (r ∷ rs) = by_place (suc at == r.at)
  where
    by_place : (b : Bool) → differing (if b then record { at = at; before = x ∷ r.before; after = y ∷ r.after } ∷ rs else record { at = at; before = x ∷ []; after = y ∷ [] } ∷ r ∷ rs) ≡ suc (differing (r ∷ rs))
    by_place true = omega arith
    by_place false = omega arith

few_from : (at : ℕ) (xs ys : List ℕ) → differing (runs_from at xs ys) ≤ length xs
few_from at [] ys = omega arith
few_from at (x ∷ xs) [] = omega arith
few_from at (x ∷ xs) (y ∷ ys) = by_same (x == y) (few_from (suc at) xs ys)
  where
    by_same : (b : Bool) → differing (runs_from (suc at) xs ys) ≤ length xs → differing (if b then runs_from (suc at) xs ys else grown at x y (runs_from (suc at) xs ys)) ≤ suc (length xs)
    by_same true few = omega (arith, few)
    by_same false few = let one : differing (grown at x y (runs_from (suc at) xs ys)) ≡ suc (differing (runs_from (suc at) xs ys)) = grown_by_one at x y (runs_from (suc at) xs ys) in omega (arith, one, few)

-- at most as many places differ as the old bytes have
pub few_places : (old new : List ℕ) → differing (runs old new) ≤ length old
few_places old new = few_from 0 old new

-- ---- the value stands in place

trees_nth : (ts : Trees) (n : ℕ) → AreTrees ts → IsTree (nth ts n)
trees_nth no_trees n h = tt
trees_nth (tree t ts) zero h = h.0
trees_nth (tree t ts) (suc n) h = trees_nth ts n h.1

values_trees : (ms : Members) → HoldTrees ms → AreTrees (values ms)
values_trees no_members h = tt
values_trees (member k t ms) h = (h.0, values_trees ms h.1)

kid_tree : (t : Tree) (n : ℕ) → IsTree t → IsTree (nth (kids t) n)
kid_tree null n h = tt
kid_tree (boolean b) n h = tt
kid_tree (number z) n h = tt
kid_tree (text s) n h = tt
kid_tree (array ts) n h = trees_nth ts n h
kid_tree (object ms) n h = trees_nth (values ms) n (values_trees ms h.1)

-- the value that positions lead to in a tree is a tree itself
pub at_tree : (ks : List ℕ) (t : Tree) → IsTree t → IsTree (value_at ks t)
at_tree [] t h = h
at_tree (k ∷ ks) t h = at_tree ks (nth (kids t) k) (kid_tree t k h)

-- the value that positions lead to keeps within a depth that its tree has
pub at_shallow : (ks : List ℕ) (t : Tree) (most : ℕ) → Reaches ks t → depth t ≤ most → depth (value_at ks t) ≤ most
at_shallow [] t most r h = h
at_shallow (k ∷ ks) t most r h = let kid : suc (depth (nth (kids t) k)) ≤ depth t = below_deep t k r.0 in at_shallow ks (nth (kids t) k) most r.1 (omega (arith, kid, h))

-- the spot of a container's value, as what an act may hand on
spot_act : List ℕ → layout.Container → ℕ → Option (List ℕ)
spot_act bytes c k = Some ((layout.child bytes c k).type_at ∷ (layout.child bytes c k).at ∷ (layout.child bytes c k).limit ∷ [])

spot_from : Option (List ℕ) → layout.Spot
spot_from (Some (type_at ∷ at ∷ limit ∷ [])) = record { type_at = type_at; at = at; limit = limit }
spot_from o = record { type_at = 0; at = 0; limit = 0 }

same_spot : (bytes : List ℕ) (c d : layout.Container) (k n : ℕ) → spot_act bytes c k ≡ spot_act bytes d n → layout.child bytes c k ≡ layout.child bytes d n
unfolding spot_act spot_from
same_spot bytes c d k n e = ap spot_from e

kid_stands : (bytes : List ℕ) (t : Tree) (s : layout.Spot) (c : layout.Container) (k : ℕ) → Kids bytes t s c → k < length (tree_list (kids t)) → IsValue bytes (nth (kids t) k) (layout.child bytes c k)
kid_stands bytes t s c k h low =
    let e : 0 + k ≡ k = omega arith in
    subst (λ i. IsValue bytes (nth (kids t) k) (layout.child bytes c i)) e (element_at bytes c (kids t) 0 k h.elements low).1

pub stands_there : (ks : List ℕ) (k : ℕ) (bytes : List ℕ) (t : Tree) (s : layout.Spot) (c : layout.Container) (n : ℕ) → IsValue bytes t s → Reaches (k ∷ ks) t
    → ((act : layout.Container → ℕ → Option (List ℕ)) → at_holder bytes act s (k ∷ ks) ≡ act c n) → IsValue bytes (value_at (k ∷ ks) t) (layout.child bytes c n)
stands_there [] k bytes t s c n v r acts =
    let low = r.0 in
    let (d, h) = to_kids bytes t s v (omega (arith, low)) in
    let same = sym (ap (option_and_then (λ c. spot_act bytes c k)) h.is) ∙ acts (spot_act bytes) in
    subst (IsValue bytes (nth (kids t) k)) (same_spot bytes d c k n same) (kid_stands bytes t s d k h low)
stands_there (l ∷ ls) k bytes t s c n v r acts =
    let low = r.0 in
    let (d, h) = to_kids bytes t s v (omega (arith, low)) in
    stands_there ls l bytes (nth (kids t) k) (layout.child bytes d k) c n (kid_stands bytes t s d k h low) r.1
    (λ act. sym (ap (option_and_then (λ c. at_holder bytes act (layout.child bytes c k) (l ∷ ls))) h.is) ∙ acts act)

-- ---- the change of one pair

-- a step to an equal tree leaves the progress as it was
pub step_same : (edit : List ℕ → Option (List ℕ)) (after : Tree) (p : Progress) → same_tree p.«tree» after ≡ true → step edit after p ≡ p
step_same edit after p h = rw h refl

-- a step to another tree leads to that tree, and its bytes are edited if they were so far
pub step_other : (edit : List ℕ → Option (List ℕ)) (after : Tree) (p : Progress) → same_tree p.«tree» after ≡ false → step edit after p ≡ record { «tree» = after; edited = option_and_then edit p.edited }
step_other edit after p h = rw h refl

-- ---- where the place is known

-- the place that a path leads to, as bytes that stand for a tree have it
pub record Found (bytes : List ℕ) (t : Tree) (ks : List ℕ) (c : Container) (k : ℕ) : Type 0 where
  pub values : HasValues bytes c
  pub low : k < layout.count bytes (container_of c)
  pub reaches : Reaches ks t
  pub there : IsValue bytes (value_at ks t) (layout.child bytes (container_of c) k)

no_holder : {X : Type 0} (f : layout.Container → ℕ → Option (List ℕ)) (c : layout.Container) (k : ℕ) → None ≡ spot_act [] c k → X
unfolding spot_act
no_holder f c k e = absurd (true≢false (sym (ap is_some e)))

-- the place that a path leads to is that of a container's value, which stands there
pub place_found : (bytes : List ℕ) (t : Tree) (path : Path) (ks : List ℕ) (p : Place) → IsTree t → IsValue bytes t (layout.root bytes) → positions path t ≡ Some ks → ActsThere bytes ks p → Found bytes t ks p.container p.number
place_found bytes t path [] p is value at a = no_holder (spot_act []) (container_of p.container) p.number (a.acts (spot_act []))
place_found bytes t path (k ∷ ks) p is value at a =
    let reach = (set_positions path null t (k ∷ ks) is at).1 in
    record {
      values = a.kid.values;
      low = a.kid.low;
      reaches = reach;
      there = stands_there ks k bytes t (layout.root bytes) (container_of p.container) p.number value reach a.acts;
    }

-- ---- as many as may be nested

-- a depth that is told not to be over what may be nested is within it
pub not_over : (n : ℕ) (over : Bool) → over ≡ nat_lt 100 n → over ≡ false → n ≤ 100
not_over n over e h = let low = ltb-false 100 n (sym e ∙ h) in omega (arith, low)
