-- What a leg finds in a list and in an object, and what taking it out and putting it back does.
use Rattle.std.proofs.Common.{◌≡◌, ℕ, zero, suc, ◌-◌, ◌<◌, ◌≤◌, ◌==◌, IfSome, IfOk, OnErr, Result, Ok, Err, get_or, take, drop, Bool, true, false, List, [], ◌∷◌, ◌++◌, length, set, Option, Some, None, option_map, is_some, IsSome, refl, sym, ap, ◌∙◌, subst, arith, nat_lt, true≢false, Less, Equal, Greater, Ordering, is_eq, bytes_eq, if◌then◌else◌}
use Rattle.std.specs.List.{slice_get, remove, AllByRecursion}
use Rattle.std.specs.declared.alloc.AllocError.{AllocError}
use Rattle.std.proofs.lemmas.List.{length-set, take_all}
use Rattle.std.proofs.lemmas.Option.{slice_get_past, slice_get-get_or}
use Rattle.std.proofs.lemmas.Bool.Decides.{nat_tests}
use Rattle.tree_model.proofs.TreeLemmas.{tree_list-trees, trees-tree_list}
use Rattle.tree_model.specs.Tree.{Tree, null, boolean, number, text, array, object, Trees, tree_list, trees, Members, no_members, member, members, get, put, without, key_cmp, AreMembers}
use Rattle.tree_model.specs.Path.{Leg, Path, key, cell, last, itself_at, child, with_child}
use Rattle.tree_model.specs.Edit.{at_parent, taken_out, added}
use Rattle.json_tree.proofs.KeyOrder.{Pair, itself, key_equal, key_apart, same_bytes, IsRising, rising_from_members, below_all}
use Rattle.json_tree.specs.View.{tree_of}
use Rattle.json_tree.specs.declared.tree.Json.{Json}
use Rattle.json_edit.specs.Places.{place_in}
use Rattle.json_edit.specs.Acts.{Acts}

abbrev unwrap : {X : Type 0} → X → Option X → X
unwrap d None = d
unwrap d (Some z) = z

some_is : {X : Type 0} (x y : X) → Some x ≡ Some y → x ≡ y
some_is x y e = ap (unwrap x) e

-- nothing isn't something
pub no_some : is_some {T = Tree} None ≡ true → ⊥
no_some e = true≢false (sym e)

none_some : {X : Type 0} (x : X) → None ≡ Some x → ⊥
none_some x e = true≢false (sym (ap is_some e))

-- ---- a list

place_cell : (count m n : ℕ) → place_in count (cell m) ≡ Some n → (m ≡ n) × (m < count)
place_cell count m n e = go (nat_lt m count) refl e
  where
    go : (b : Bool) → nat_lt m count ≡ b → (if b then Some m else None) ≡ Some n → (m ≡ n) × (m < count)
    go true t h = (some_is m n h, grind (arith, nat_tests, t))
    go false t h = absurd (none_some n h)

-- a leg that has a place in a list finds the element there
pub child_in : (ts : List Tree) (l : Leg) (n : ℕ) → place_in (length ts) l ≡ Some n → child (array (trees ts)) l ≡ slice_get ts n
child_in ts (key k) n e = absurd (none_some n e)
child_in ts (cell m) n e = rw (tree_list-trees ts) (ap (slice_get ts) (place_cell (length ts) m n e).0)
child_in ts (last m) n e = rw (tree_list-trees ts, e) refl

-- and one that has none finds nothing
pub child_out : (ts : List Tree) (l : Leg) → place_in (length ts) l ≡ None → child (array (trees ts)) l ≡ None
child_out ts (key k) e = refl
child_out ts (cell m) e = rw (tree_list-trees ts) (go (nat_lt m (length ts)) refl e)
  where
    go : (b : Bool) → nat_lt m (length ts) ≡ b → (if b then Some m else None) ≡ None → slice_get ts m ≡ None
    go true t h = absurd (none_some m (sym h))
    go false t h = slice_get_past ts m (grind (arith, nat_tests, t))
child_out ts (last m) e = rw (tree_list-trees ts, e) refl

-- another child is another element at that place
pub with_in : (ts : List Tree) (l : Leg) (n : ℕ) (u : Tree) → place_in (length ts) l ≡ Some n → with_child (array (trees ts)) l u ≡ array (trees (set ts n u))
with_in ts (key k) n u e = absurd (none_some n e)
with_in ts (cell m) n u e = rw (tree_list-trees ts) (ap (λ i. array (trees (set ts i u))) (place_cell (length ts) m n e).0)
with_in ts (last m) n u e = rw (tree_list-trees ts, e, tree_list-trees ts) refl

set_set : (ts : List Tree) (n : ℕ) (u v : Tree) → set (set ts n v) n u ≡ set ts n u
set_set [] n u v = refl
set_set (t ∷ ts) zero u v = refl
set_set (t ∷ ts) (suc n) u v = ap (λ us. t ∷ us) (set_set ts n u v)

set_same : (ts : List Tree) (n : ℕ) (u : Tree) → slice_get ts n ≡ Some u → set ts n u ≡ ts
set_same [] n u e = refl
set_same (t ∷ ts) zero u e = ap (λ x. x ∷ ts) (sym (some_is t u e))
set_same (t ∷ ts) (suc n) u e = ap (λ us. t ∷ us) (set_same ts n u e)

still_in : (ts : List Tree) (l : Leg) (n : ℕ) (v : Tree) → place_in (length ts) l ≡ Some n → place_in (length (set ts n v)) l ≡ Some n
still_in ts l n v e = ap (λ c. place_in c l) (length-set ts n v) ∙ e

-- an element taken for an edit and put back leaves the list
pub restore_in : (ts : List Tree) (l : Leg) (n : ℕ) (u : Tree) → place_in (length ts) l ≡ Some n → slice_get ts n ≡ Some u → with_child (array (trees (set ts n null))) l u ≡ array (trees ts)
restore_in ts l n u e is = with_in (set ts n null) l n u (still_in ts l n null e) ∙ ap (λ us. array (trees us)) (set_set ts n u null ∙ set_same ts n u is)

-- an element taken out at its place is the leg taken out
pub out_in : (ts : List Tree) (l : Leg) (n : ℕ) (u : Tree) → place_in (length ts) l ≡ Some n → slice_get ts n ≡ Some u → taken_out (array (trees ts)) l ≡ Some (array (trees (remove ts n)))
out_in ts (key k) n u e is = absurd (none_some n e)
out_in ts (cell m) n u e is =
    let same : m ≡ n = (place_cell (length ts) m n e).0 in
    rw (tree_list-trees ts, same, is) refl
out_in ts (last m) n u e is = rw (tree_list-trees ts, e, tree_list-trees ts) refl

-- without a place nothing is taken out
pub out_out : (ts : List Tree) (l : Leg) → place_in (length ts) l ≡ None → taken_out (array (trees ts)) l ≡ None
out_out ts (key k) e = refl
out_out ts (cell m) e = rw (child_out ts (cell m) e) refl
out_out ts (last m) e = rw (tree_list-trees ts, e) refl

-- ---- an object

put_put : (k : List ℕ) (u v : Tree) (ms : Members) → put k u (put k v ms) ≡ put k u ms
put_put k u v no_members = rw (itself k) refl
put_put k u v (member l w ms) = go (key_cmp k l) refl (put_put k u v ms)
  where
    go : (o : Ordering) → key_cmp k l ≡ o → put k u (put k v ms) ≡ put k u ms → put k u (put k v (member l w ms)) ≡ put k u (member l w ms)
    go Less e h = rw (e, itself k) refl
    go Equal e h = rw (e, e) refl
    go Greater e h = rw (e, e, h) refl

get_put : (k : List ℕ) (v : Tree) (ms : Members) → get k (put k v ms) ≡ Some v
get_put k v no_members = rw (same_bytes k) refl
get_put k v (member l w ms) = go (key_cmp k l) refl (get_put k v ms)
  where
    go : (o : Ordering) → key_cmp k l ≡ o → get k (put k v ms) ≡ Some v → get k (put k v (member l w ms)) ≡ Some v
    go Less e h = rw (e, same_bytes k) refl
    go Equal e h = rw (e, ap (bytes_eq k) (sym (key_equal k l e)) ∙ same_bytes k) refl
    go Greater e h = rw (e, key_apart k l (ap is_eq e)) h

-- no member below the first has the key
get_below : (k : List ℕ) (ms : List Pair) → AllByRecursion (λ n. key_cmp k n.0 ≡ Less) ms → get k (members ms) ≡ None
get_below k [] h = refl
get_below k (m ∷ ms) h = rw (key_apart k m.0 (ap is_eq h.0)) (get_below k ms h.1)

put_same : (k : List ℕ) (u : Tree) (ms : List Pair) → IsRising ms → get k (members ms) ≡ Some u → put k u (members ms) ≡ members ms
put_same k u [] up e = absurd (none_some u e)
put_same k u (m ∷ ms) up e = go (key_cmp k m.0) refl (put_same k u ms up.1)
  where
    go : (o : Ordering) → key_cmp k m.0 ≡ o → (get k (members ms) ≡ Some u → put k u (members ms) ≡ members ms) → put k u (members (m ∷ ms)) ≡ members (m ∷ ms)
    go Less h rest = absurd (none_some u (sym (get_below k (m ∷ ms) (below_all k m ms h up)) ∙ e))
    go Equal h rest =
        let here : bytes_eq k m.0 ≡ true = ap (bytes_eq k) (sym (key_equal k m.0 h)) ∙ same_bytes k in
        let value : m.1 ≡ u = some_is m.1 u (rw here at e) in
        rw h (ap (λ v. member m.0 v (members ms)) (sym value))
    go Greater h rest =
        let other : bytes_eq k m.0 ≡ false = key_apart k m.0 (ap is_eq h) in
        rw h (ap (member m.0 m.1) (rest (rw other at e)))

pub put_back : (k : List ℕ) (u : Tree) (ms : List Pair) → AreMembers ms → get k (members ms) ≡ Some u → put k u (put k null (members ms)) ≡ members ms
put_back k u ms are e = put_put k u null (members ms) ∙ put_same k u ms (rising_from_members ms are) e

-- the same of a member: taken and put back it leaves the object
pub member_restores : (r : Option Json) (k : List ℕ) (ms new : List Pair) → AreMembers ms → option_map tree_of r ≡ get k (members ms) → (IsSome r → members new ≡ put k null (members ms))
    → IfSome r (λ t. object (put k (tree_of t) (members new)) ≡ object (members ms))
member_restores None k ms new are before after = tt
member_restores (Some t) k ms new are before after = ap object (ap (put k (tree_of t)) (after refl) ∙ put_back k (tree_of t) ms are (sym before))

-- ---- a child that is taken out, and another that is put in its place

some_in : (ts : Trees) (l : Leg) → IsSome (child (array ts) l) → (n : ℕ) × (place_in (length (tree_list ts)) l ≡ Some n) × (n < length (tree_list ts))
some_in ts (key k) some = absurd (no_some some)
some_in ts (cell m) some = go (nat_lt m (length (tree_list ts))) refl
  where
    go : (b : Bool) → nat_lt m (length (tree_list ts)) ≡ b → (n : ℕ) × (place_in (length (tree_list ts)) (cell m) ≡ Some n) × (n < length (tree_list ts))
    go true t = (m, rw t refl, grind (arith, nat_tests, t))
    go false t = absurd (no_some (subst IsSome (slice_get_past (tree_list ts) m (grind (arith, nat_tests, t))) some))
some_in ts (last m) some = go (nat_lt m (length (tree_list ts))) refl
  where
    go : (b : Bool) → nat_lt m (length (tree_list ts)) ≡ b → (n : ℕ) × (place_in (length (tree_list ts)) (last m) ≡ Some n) × (n < length (tree_list ts))
    go true t = let lt : m < length (tree_list ts) = grind (arith, nat_tests, t) in (length (tree_list ts) - suc m, rw t refl, omega (arith, lt))
    go false t = absurd (no_some (rw t at some))

pub again : (t : Tree) (l : Leg) (u : Tree) → IsSome (child t l) → with_child (with_child t l null) l u ≡ with_child t l u
again null l u some = refl
again (boolean b) l u some = refl
again (number z) l u some = refl
again (text s) l u some = refl
again (array ts) l u some =
    let at = some_in ts l some in
    let whole = trees-tree_list ts in
    subst (λ us. with_child (with_child (array us) l null) l u ≡ with_child (array us) l u) whole
    (ap (λ t. with_child t l u) (with_in (tree_list ts) l at.0 null at.1) ∙ with_in (set (tree_list ts) at.0 null) l at.0 u (still_in (tree_list ts) l at.0 null at.1)
    ∙ ap (λ us. array (trees us)) (set_set (tree_list ts) at.0 u null) ∙ sym (with_in (tree_list ts) l at.0 u at.1))
again (object ms) (key k) u some = ap object (put_put k u null ms)
again (object ms) (cell n) u some = refl
again (object ms) (last n) u some = refl

still_itself : (n : ℕ) (t : Tree) → IsSome (itself_at n t) → IsSome (itself_at n null)
still_itself n t some = go (n == 0) some
  where
    go : (b : Bool) → IsSome (if b then Some t else None) → IsSome (if b then Some null else None)
    go true h = refl
    go false h = h

-- something is found there still
pub still : (t : Tree) (l : Leg) → IsSome (child t l) → IsSome (child (with_child t l null) l)
still null (key k) some = some
still null (cell n) some = some
still null (last n) some = some
still (boolean b) (key k) some = absurd (no_some some)
still (boolean b) (cell n) some = still_itself n (boolean b) some
still (boolean b) (last n) some = still_itself n (boolean b) some
still (number z) (key k) some = absurd (no_some some)
still (number z) (cell n) some = still_itself n (number z) some
still (number z) (last n) some = still_itself n (number z) some
still (text s) (key k) some = absurd (no_some some)
still (text s) (cell n) some = still_itself n (text s) some
still (text s) (last n) some = still_itself n (text s) some
still (array ts) l some =
    let at = some_in ts l some in
    let whole = trees-tree_list ts in
    let lt : at.0 < length (set (tree_list ts) at.0 null) = omega (arith, at.2, length-set (tree_list ts) at.0 null) in
    subst (λ us. IsSome (child (with_child (array us) l null) l)) whole
    (subst IsSome (sym (ap (λ t. child t l) (with_in (tree_list ts) l at.0 null at.1) ∙ child_in (set (tree_list ts) at.0 null) l at.0 (still_in (tree_list ts) l at.0 null at.1) ∙ slice_get-get_or (set (tree_list ts) at.0 null) at.0 null lt)) refl)
still (object ms) (key k) some = subst IsSome (sym (get_put k null ms)) refl
still (object ms) (cell n) some = still_itself n (object ms) some
still (object ms) (last n) some = still_itself n (object ms) some

-- what an edit of the child makes of the parent
pub acts_below : (r : Option Tree) (t u edited new : Tree) (l : Leg) (acted : Bool) → IsSome (child t l) → Acts r u edited acted → new ≡ with_child (with_child t l null) l edited
    → with_child (with_child t l null) l u ≡ t → Acts (option_map (with_child t l) r) t new acted
acts_below None t u edited new l acted some acts is back = (acts.0, is ∙ ap (with_child (with_child t l null) l) acts.1 ∙ back)
acts_below (Some v) t u edited new l acted some acts is back = (acts.0, is ∙ ap (with_child (with_child t l null) l) acts.1 ∙ again t l v some)

-- ---- one leg further up

-- a list that begins with a value is it and the rest
pub parts : {X : Type 0} (xs : List X) (x : X) → 1 ≤ length xs → x ≡ get_or xs 0 x → xs ≡ x ∷ take (length xs - 1) (drop 1 xs)
parts [] x some e = absurd (omega (arith, some))
parts (y ∷ xs) x some e = ap (λ z. z ∷ xs) (sym e) ∙ ap (λ ys. x ∷ ys) (sym (take_all (length (y ∷ xs) - 1) xs (omega arith)))

at_parent_below : (act : Tree → Leg → Option Tree) (l m : Leg) (ls : Path) (t u : Tree) → child t l ≡ Some u → at_parent act l (m ∷ ls) t ≡ option_map (with_child t l) (at_parent act m ls u)
at_parent_below act l m ls t u found = rw found refl

put_again : (l : Leg) (t u taken edited new : Tree) → child t l ≡ Some u → taken ≡ with_child t l null → (IsSome (child taken l) → new ≡ with_child taken l edited)
    → new ≡ with_child (with_child t l null) l edited
put_again l t u taken edited new found is puts =
    puts (subst (λ x. IsSome (child x l)) (sym is) (still t l (subst IsSome (sym found) refl))) ∙ ap (λ x. with_child x l edited) is

-- an edit below a child, put back, is the edit along one leg more
pub below_ok : (act : Tree → Leg → Option Tree) (l m : Leg) (ls : Path) (t u taken edited new : Tree) (r : Result Bool AllocError)
    → Some u ≡ child t l → taken ≡ with_child t l null → with_child taken l u ≡ t → (IsSome (child taken l) → new ≡ with_child taken l edited)
    → IfOk r (λ acted. Acts (at_parent act m ls u) u edited acted) → IfOk r (λ acted. Acts (at_parent act l (m ∷ ls) t) t new acted)
below_ok act l m ls t u taken edited new (Err e) found is restores puts acts = tt
below_ok act l m ls t u taken edited new (Ok acted) found is restores puts acts =
    subst (λ o. Acts o t new acted) (sym (at_parent_below act l m ls t u (sym found)))
    (acts_below (at_parent act m ls u) t u edited new l acted (subst IsSome found refl) acts (put_again l t u taken edited new (sym found) is puts)
    (ap (λ x. with_child x l u) (sym is) ∙ restores))

-- where memory ran out below, the child put back leaves the tree
pub below_err : (l : Leg) (t u taken edited new : Tree) (r : Result Bool AllocError) → Some u ≡ child t l → taken ≡ with_child t l null → with_child taken l u ≡ t
    → (IsSome (child taken l) → new ≡ with_child taken l edited) → OnErr r (edited ≡ u) → OnErr r (new ≡ t)
below_err l t u taken edited new (Ok acted) found is restores puts kept = tt
below_err l t u taken edited new (Err e) found is restores puts kept =
    put_again l t u taken edited new (sym found) is puts ∙ ap (with_child (with_child t l null) l) kept ∙ ap (λ x. with_child x l u) (sym is) ∙ restores

-- ---- an element more, a member less

-- an element behind the last is the cell added
pub pushed : (ts new : List Tree) (u : Tree) (n : ℕ) → new ≡ ts ++ u ∷ [] → Acts (added u (array (trees ts)) (cell n)) (array (trees ts)) (array (trees new)) true
pushed ts new u n is = (refl, ap (λ us. array (trees us)) (is ∙ ap (λ us. us ++ u ∷ []) (sym (tree_list-trees ts))))

without_absent : (k : List ℕ) (ms : Members) → get k ms ≡ None → without k ms ≡ ms
without_absent k no_members e = refl
without_absent k (member l u ms) e = go (bytes_eq k l) refl (without_absent k ms)
  where
    go : (b : Bool) → bytes_eq k l ≡ b → (get k ms ≡ None → without k ms ≡ ms) → without k (member l u ms) ≡ member l u ms
    go true h rest = absurd (none_some u (sym (rw h at e)))
    go false h rest = rw h (ap (member l u) (rest (rw h at e)))

-- a member removed is the key taken out
pub member_removed : (r : Option Json) (k : List ℕ) (ms new : Members) → option_map tree_of r ≡ get k ms → new ≡ without k ms → Acts (taken_out (object ms) (key k)) (object ms) (object new) (is_some r)
member_removed None k ms new before after = rw (← before) (refl, ap object (after ∙ without_absent k ms (sym before)))
member_removed (Some t) k ms new before after = rw (← before) (refl, ap object after)

-- an action that has its tree acted
pub acts_in : (o : Option Tree) (t new : Tree) (ts : Tree) → o ≡ Some ts → new ≡ ts → Acts o t new true
acts_in o t new ts e is = rw e (refl, is)

-- one that has none didn't
pub acts_out : (o : Option Tree) (t : Tree) → o ≡ None → Acts o t t false
acts_out o t e = rw e (refl, refl)
