-- Edits of trees give trees.
use Rattle.std.proofs.Common.{◌≡◌, ℕ, zero, suc, Bool, true, false, List, [], ◌∷◌, ◌++◌, length, remove, slice_get, slice_set, Option, Some, None, is_some, option_map, option_and_then, refl, sym, subst, if◌then◌else◌, ◌==◌, unwrap_or}
use Rattle.tree_model.specs.Tree.{Tree, null, boolean, number, text, array, object, Trees, no_trees, tree, tree_list, trees, IsTree, AreTrees, get, put, without}
use Rattle.tree_model.specs.Path.{Leg, key, cell, last, Path, from_end, itself_at, child, with_child, at_cell_set}
use Rattle.tree_model.specs.Edit.{Edit, Set, Replace, Remove, at_parent, added, replaced, set_at, element_out, taken_out, set as set_one, replace as replace_one, remove as remove_one, set_all, replace_all, remove_all, edited}
use Rattle.tree_model.proofs.TreeLemmas.{trees-tree_list}
use Rattle.binary_model.specs.Change as bytes
use Rattle.history_model.specs.Scripts.{IsLeg, IsPath, ArePairs, ArePaths, HasPaths}
use Rattle.history_model.proofs.MemberLemmas.{got_is, put_is, without_is}

-- ---- elements

again : (us : Trees) → trees (tree_list us) ≡ us
again us = trees-tree_list us

element_is : (ts : Trees) (n : ℕ) (u : Tree) → AreTrees ts → slice_get (tree_list ts) n ≡ Some u → IsTree u
element_is no_trees n u h e = cc
element_is (tree t ts) zero u h e = let one : t ≡ u = cc in subst IsTree one h.0
element_is (tree t ts) (suc n) u h e = element_is ts n u h.1 e

set_are : (ts : Trees) (n : ℕ) (u : Tree) → AreTrees ts → IsTree u → AreTrees (trees (slice_set (tree_list ts) n u))
set_are no_trees n u h is = tt
set_are (tree t ts) zero u h is = (is, subst AreTrees (sym (again ts)) h.1)
set_are (tree t ts) (suc n) u h is = (h.0, set_are ts n u h.1 is)

more_are : (ts : Trees) (u : Tree) → AreTrees ts → IsTree u → AreTrees (trees (tree_list ts ++ u ∷ []))
more_are no_trees u h is = (is, tt)
more_are (tree t ts) u h is = (h.0, more_are ts u h.1 is)

fewer_are : (ts : Trees) (n : ℕ) → AreTrees ts → AreTrees (trees (remove (tree_list ts) n))
fewer_are no_trees zero h = tt
fewer_are no_trees (suc n) h = tt
fewer_are (tree t ts) zero h = subst AreTrees (sym (again ts)) h.1
fewer_are (tree t ts) (suc n) h = (h.0, fewer_are ts n h.1)

-- ---- legs

at_itself : (n : ℕ) (t u : Tree) → IsTree t → itself_at n t ≡ Some u → IsTree u
at_itself n t u h e = go (n == 0) e
  where
    go : (b : Bool) → (if b then Some t else None) ≡ Some u → IsTree u
    go true f = let one : t ≡ u = cc in subst IsTree one h
    go false f = cc

child_is : (t : Tree) (l : Leg) (u : Tree) → IsTree t → child t l ≡ Some u → IsTree u
child_is (array ts) (cell n) u h e = element_is ts n u h e
child_is (array ts) (last n) u h e = go (from_end (length (tree_list ts)) n) e
  where
    go : (o : Option ℕ) → option_and_then (slice_get (tree_list ts)) o ≡ Some u → IsTree u
    go None f = cc
    go (Some k) f = element_is ts k u h f
child_is (array ts) (key k) u h e = cc
child_is (object ms) (key k) u h e = got_is k ms u h.1 e
child_is (object ms) (cell n) u h e = at_itself n (object ms) u h e
child_is (object ms) (last n) u h e = at_itself n (object ms) u h e
child_is null (key k) u h e = cc
child_is null (cell n) u h e = at_itself n null u h e
child_is null (last n) u h e = at_itself n null u h e
child_is (boolean b) (key k) u h e = cc
child_is (boolean b) (cell n) u h e = at_itself n (boolean b) u h e
child_is (boolean b) (last n) u h e = at_itself n (boolean b) u h e
child_is (number z) (key k) u h e = cc
child_is (number z) (cell n) u h e = at_itself n (number z) u h e
child_is (number z) (last n) u h e = at_itself n (number z) u h e
child_is (text s) (key k) u h e = cc
child_is (text s) (cell n) u h e = at_itself n (text s) u h e
child_is (text s) (last n) u h e = at_itself n (text s) u h e

cell_set_is : (ts : Trees) (o : Option ℕ) (u : Tree) → AreTrees ts → IsTree u → IsTree (at_cell_set ts o u)
cell_set_is ts None u h is = h
cell_set_is ts (Some n) u h is = set_are ts n u h is

with_child_is : (t : Tree) (l : Leg) (u : Tree) → IsLeg l → IsTree t → IsTree u → IsTree (with_child t l u)
with_child_is (array ts) (cell n) u leg h is = cell_set_is ts (Some n) u h is
with_child_is (array ts) (last n) u leg h is = cell_set_is ts (from_end (length (tree_list ts)) n) u h is
with_child_is (array ts) (key k) u leg h is = is
with_child_is (object ms) (key k) u leg h is = put_is k u ms leg is h
with_child_is (object ms) (cell n) u leg h is = is
with_child_is (object ms) (last n) u leg h is = is
with_child_is null l u leg h is = is
with_child_is (boolean b) l u leg h is = is
with_child_is (number z) l u leg h is = is
with_child_is (text s) l u leg h is = is

-- ---- acts

abbrev Keeps : (Tree → Leg → Option Tree) → Type 0
Keeps act = (t : Tree) (l : Leg) (v : Tree) → IsTree t → IsLeg l → act t l ≡ Some v → IsTree v

some_tree : (t v : Tree) → Some t ≡ Some v → IsTree t → IsTree v
some_tree t v e h = let one : t ≡ v = cc in subst IsTree one h

replaced_keeps : (u : Tree) → IsTree u → Keeps (replaced u)
replaced_keeps u is t l v h leg e = go (is_some (child t l)) e
  where
    go : (b : Bool) → (if b then Some (with_child t l u) else None) ≡ Some v → IsTree v
    go true f = some_tree (with_child t l u) v f (with_child_is t l u leg h is)
    go false f = cc

added_keeps : (u : Tree) → IsTree u → Keeps (added u)
added_keeps u is (array ts) (cell n) v h leg e = some_tree (array (trees (tree_list ts ++ u ∷ []))) v e (more_are ts u h is)
added_keeps u is (array ts) (key k) v h leg e = cc
added_keeps u is (array ts) (last n) v h leg e = cc
added_keeps u is (object ms) (key k) v h leg e = some_tree (object (put k u ms)) v e (put_is k u ms leg is h)
added_keeps u is (object ms) (cell n) v h leg e = some_tree (array (tree (object ms) (tree u no_trees))) v e (h, (is, tt))
added_keeps u is (object ms) (last n) v h leg e = cc
added_keeps u is null (key k) v h leg e = cc
added_keeps u is null (cell n) v h leg e = some_tree (array (tree null (tree u no_trees))) v e (h, (is, tt))
added_keeps u is null (last n) v h leg e = cc
added_keeps u is (boolean b) (key k) v h leg e = cc
added_keeps u is (boolean b) (cell n) v h leg e = some_tree (array (tree (boolean b) (tree u no_trees))) v e (h, (is, tt))
added_keeps u is (boolean b) (last n) v h leg e = cc
added_keeps u is (number z) (key k) v h leg e = cc
added_keeps u is (number z) (cell n) v h leg e = some_tree (array (tree (number z) (tree u no_trees))) v e (h, (is, tt))
added_keeps u is (number z) (last n) v h leg e = cc
added_keeps u is (text s) (key k) v h leg e = cc
added_keeps u is (text s) (cell n) v h leg e = some_tree (array (tree (text s) (tree u no_trees))) v e (h, (is, tt))
added_keeps u is (text s) (last n) v h leg e = cc

set_keeps : (u : Tree) → IsTree u → Keeps (set_at u)
set_keeps u is t l v h leg e = go (is_some (child t l)) e
  where
    go : (b : Bool) → (if b then Some (with_child t l u) else added u t l) ≡ Some v → IsTree v
    go true f = some_tree (with_child t l u) v f (with_child_is t l u leg h is)
    go false f = added_keeps u is t l v h leg f

out_is : (ts : Trees) (o : Option ℕ) (v : Tree) → AreTrees ts → element_out ts o ≡ Some v → IsTree v
out_is ts None v h e = cc
out_is ts (Some n) v h e = some_tree (array (trees (remove (tree_list ts) n))) v e (fewer_are ts n h)

taken_keeps : Keeps taken_out
taken_keeps (array ts) (cell n) v h leg e = go (is_some (child (array ts) (cell n))) e
  where
    go : (b : Bool) → (if b then element_out ts (Some n) else None) ≡ Some v → IsTree v
    go true f = out_is ts (Some n) v h f
    go false f = cc
taken_keeps (array ts) (last n) v h leg e = out_is ts (from_end (length (tree_list ts)) n) v h e
taken_keeps (array ts) (key k) v h leg e = cc
taken_keeps (object ms) (key k) v h leg e = go (is_some (get k ms)) e
  where
    go : (b : Bool) → (if b then Some (object (without k ms)) else None) ≡ Some v → IsTree v
    go true f = some_tree (object (without k ms)) v f (without_is k ms h)
    go false f = cc
taken_keeps (object ms) (cell n) v h leg e = cc
taken_keeps (object ms) (last n) v h leg e = cc
taken_keeps null l v h leg e = cc
taken_keeps (boolean b) l v h leg e = cc
taken_keeps (number z) l v h leg e = cc
taken_keeps (text s) l v h leg e = cc

parent_is : (act : Tree → Leg → Option Tree) → Keeps act → (ls : Path) (l : Leg) (t v : Tree) → IsTree t → IsLeg l → IsPath ls → at_parent act l ls t ≡ Some v → IsTree v
parent_is act keeps [] l t v h leg legs e = keeps t l v h leg e
parent_is act keeps (m ∷ ls) l t v h leg legs e = by_child (child t l) refl e (λ w is x y. parent_is act keeps ls m w x is legs.0 legs.1 y)
  where
    by_inner : (w : Tree) (r : Option Tree) → at_parent act m ls w ≡ r → IsTree w → option_map (with_child t l) r ≡ Some v → (IsTree w → (x : Tree) → at_parent act m ls w ≡ Some x → IsTree x) → IsTree v
    by_inner w None f is g inner = cc
    by_inner w (Some x) f is g inner = some_tree (with_child t l x) v g (with_child_is t l x leg h (inner is x f))

    by_child : (o : Option Tree) → child t l ≡ o → option_map (with_child t l) (option_and_then (at_parent act m ls) o) ≡ Some v → ((w : Tree) → IsTree w → (x : Tree) → at_parent act m ls w ≡ Some x → IsTree x) → IsTree v
    by_child None f g inner = cc
    by_child (Some w) f g inner = by_inner w (at_parent act m ls w) refl (child_is t l w h f) g (inner w)

or_itself : (o : Option Tree) (t : Tree) → IsTree t → ((v : Tree) → o ≡ Some v → IsTree v) → IsTree (unwrap_or o t)
or_itself None t h g = h
or_itself (Some v) t h g = g v refl

set_is : (p : Path) (u t : Tree) → IsPath p → IsTree u → IsTree t → IsTree (set_one p u t)
set_is [] u t path is h = is
set_is (l ∷ ls) u t path is h = or_itself (at_parent (set_at u) l ls t) t h (λ v e. parent_is (set_at u) (set_keeps u is) ls l t v h path.0 path.1 e)

replace_is : (p : Path) (u t : Tree) → IsPath p → IsTree u → IsTree t → IsTree (replace_one p u t)
replace_is [] u t path is h = is
replace_is (l ∷ ls) u t path is h = or_itself (at_parent (replaced u) l ls t) t h (λ v e. parent_is (replaced u) (replaced_keeps u is) ls l t v h path.0 path.1 e)

remove_is : (p : Path) (t : Tree) → IsPath p → IsTree t → IsTree (remove_one p t)
remove_is [] t path h = h
remove_is (l ∷ ls) t path h = or_itself (at_parent taken_out l ls t) t h (λ v e. parent_is taken_out taken_keeps ls l t v h path.0 path.1 e)

set_all_is : (ps : List (Path × Tree)) (t : Tree) → bytes.HoldTrees ps → ArePairs ps → IsTree t → IsTree (set_all ps t)
set_all_is [] t trees paths h = h
set_all_is (p ∷ ps) t trees paths h = set_all_is ps (set_one p.0 p.1 t) trees.1 paths.1 (set_is p.0 p.1 t paths.0 trees.0 h)

replace_all_is : (ps : List (Path × Tree)) (t : Tree) → bytes.HoldTrees ps → ArePairs ps → IsTree t → IsTree (replace_all ps t)
replace_all_is [] t trees paths h = h
replace_all_is (p ∷ ps) t trees paths h = replace_all_is ps (replace_one p.0 p.1 t) trees.1 paths.1 (replace_is p.0 p.1 t paths.0 trees.0 h)

remove_all_is : (ps : List Path) (t : Tree) → ArePaths ps → IsTree t → IsTree (remove_all ps t)
remove_all_is [] t paths h = h
remove_all_is (p ∷ ps) t paths h = remove_all_is ps (remove_one p t) paths.1 (remove_is p t paths.0 h)

-- an edit of a tree by paths gives a tree
pub edited_is : (e : Edit) (t : Tree) → bytes.SetsTrees e → HasPaths e → IsTree t → IsTree (edited e t)
edited_is (Set ps) t trees paths h = set_all_is ps t trees paths h
edited_is (Replace ps) t trees paths h = replace_all_is ps t trees paths h
edited_is (Remove ps) t trees paths h = remove_all_is ps t paths h
