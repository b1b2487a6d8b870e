-- How many values a tree has with another value in the place of one of its own, without one, and with one more.
use Rattle.std.proofs.Common.{◌≡◌, ℕ, zero, suc, ◌+◌, ◌≤◌, ◌<◌, Bool, true, false, List, [], ◌∷◌, ◌++◌, length, bytes_eq, Some, None, is_some, true≢false, Ordering, Less, Equal, Greater, refl, sym, ap, ◌∙◌, arith, cond}
use Rattle.std.specs.Ordering.{match_ordering}
use Rattle.tree_model.specs.Tree.{Tree, null, boolean, number, text, array, object, Trees, no_trees, tree, tree_list, trees, Members, no_members, member, get, put, key_cmp}
use Rattle.tree_model.proofs.KeyLemmas.{key_equal, same_bytes}
use Rattle.binary_model.proofs.reading.StandLemmas.{values}
use Rattle.binary_model.proofs.in_place.RefitLemmas.{nth, with_element}
use Rattle.binary_model.proofs.in_place.KidsLemmas.{kids, with_nth_member, with_kid}
use Rattle.binary_model.proofs.in_place.RemoveLemmas.{without_element, without_nth_member, without_kid}
use Rattle.json_patch.specs.Touched.{weight, trees_weight, members_weight}

pub some_weight : (t : Tree) → 1 ≤ weight t
some_weight null = omega arith
some_weight (boolean b) = omega arith
some_weight (number z) = omega arith
some_weight (text x) = omega arith
some_weight (array ts) = omega arith
some_weight (object ms) = omega arith

-- ---- with another value

elements_with : (ts : Trees) (n : ℕ) (w : Tree) → n < length (tree_list ts) → trees_weight (with_element ts n w) + weight (nth ts n) ≡ trees_weight ts + weight w
elements_with no_trees n w low = absurd (omega (arith, low))
elements_with (tree t ts) zero w low = omega arith
elements_with (tree t ts) (suc n) w low = let rest : trees_weight (with_element ts n w) + weight (nth ts n) ≡ trees_weight ts + weight w = elements_with ts n w (omega (arith, low)) in omega (arith, rest)

members_with : (ms : Members) (n : ℕ) (w : Tree) → n < length (tree_list (values ms)) → members_weight (with_nth_member ms n w) + weight (nth (values ms) n) ≡ members_weight ms + weight w
members_with no_members n w low = absurd (omega (arith, low))
members_with (member k t ms) zero w low = omega arith
members_with (member k t ms) (suc n) w low = let rest : members_weight (with_nth_member ms n w) + weight (nth (values ms) n) ≡ members_weight ms + weight w = members_with ms n w (omega (arith, low)) in omega (arith, rest)

kid_weighs : (t : Tree) (n : ℕ) (w : Tree) → n < length (tree_list (kids t)) → weight (with_kid t n w) + weight (nth (kids t) n) ≡ weight t + weight w
kid_weighs null n w low = absurd (omega (arith, low))
kid_weighs (boolean b) n w low = absurd (omega (arith, low))
kid_weighs (number z) n w low = absurd (omega (arith, low))
kid_weighs (text x) n w low = absurd (omega (arith, low))
kid_weighs (array ts) n w low = let all : trees_weight (with_element ts n w) + weight (nth ts n) ≡ trees_weight ts + weight w = elements_with ts n w low in omega (arith, all)
kid_weighs (object ms) n w low = let all : members_weight (with_nth_member ms n w) + weight (nth (values ms) n) ≡ members_weight ms + weight w = members_with ms n w low in omega (arith, all)

-- a tree with a heavier value in the place of one of its own is heavier
pub kid_heavier : (t : Tree) (n : ℕ) (v w : Tree) → n < length (tree_list (kids t)) → nth (kids t) n ≡ v → weight v < weight w → weight t < weight (with_kid t n w)
kid_heavier t n v w low found more =
    let all : weight (with_kid t n w) + weight (nth (kids t) n) ≡ weight t + weight w = kid_weighs t n w low in
    let same : weight (nth (kids t) n) ≡ weight v = ap weight found in
    omega (arith, all, same, more)

-- a tree with a lighter value in the place of one of its own is lighter
pub kid_lighter : (t : Tree) (n : ℕ) (v w : Tree) → n < length (tree_list (kids t)) → nth (kids t) n ≡ v → weight w < weight v → weight (with_kid t n w) < weight t
kid_lighter t n v w low found less =
    let all : weight (with_kid t n w) + weight (nth (kids t) n) ≡ weight t + weight w = kid_weighs t n w low in
    let same : weight (nth (kids t) n) ≡ weight v = ap weight found in
    omega (arith, all, same, less)

-- ---- without a value

elements_out : (ts : Trees) (n : ℕ) → n < length (tree_list ts) → trees_weight (without_element ts n) < trees_weight ts
elements_out no_trees n low = absurd (omega (arith, low))
elements_out (tree t ts) zero low = let some = some_weight t in omega (arith, some)
elements_out (tree t ts) (suc n) low = let rest : trees_weight (without_element ts n) < trees_weight ts = elements_out ts n (omega (arith, low)) in omega (arith, rest)

members_out : (ms : Members) (n : ℕ) → n < length (tree_list (values ms)) → members_weight (without_nth_member ms n) < members_weight ms
members_out no_members n low = absurd (omega (arith, low))
members_out (member k t ms) zero low = let some = some_weight t in omega (arith, some)
members_out (member k t ms) (suc n) low = let rest : members_weight (without_nth_member ms n) < members_weight ms = members_out ms n (omega (arith, low)) in omega (arith, rest)

-- a tree without one of its values is lighter
pub kid_out_lighter : (t : Tree) (n : ℕ) → n < length (tree_list (kids t)) → weight (without_kid t n) < weight t
kid_out_lighter null n low = absurd (omega (arith, low))
kid_out_lighter (boolean b) n low = absurd (omega (arith, low))
kid_out_lighter (number z) n low = absurd (omega (arith, low))
kid_out_lighter (text x) n low = absurd (omega (arith, low))
kid_out_lighter (array ts) n low = let less : trees_weight (without_element ts n) < trees_weight ts = elements_out ts n low in omega (arith, less)
kid_out_lighter (object ms) n low = let less : members_weight (without_nth_member ms n) < members_weight ms = members_out ms n low in omega (arith, less)

-- ---- with one more

elements_more : (ts : Trees) (u : Tree) → trees_weight (trees (tree_list ts ++ u ∷ [])) ≡ trees_weight ts + weight u
elements_more no_trees u = omega arith
elements_more (tree t ts) u = let rest : trees_weight (trees (tree_list ts ++ u ∷ [])) ≡ trees_weight ts + weight u = elements_more ts u in omega (arith, rest)

-- a list with an element more is heavier
pub pushed_heavier : (ts : Trees) (u : Tree) → weight (array ts) < weight (array (trees (tree_list ts ++ u ∷ [])))
pushed_heavier ts u =
    let all : trees_weight (trees (tree_list ts ++ u ∷ [])) ≡ trees_weight ts + weight u = elements_more ts u in
    let some = some_weight u in
    omega (arith, all, some)

-- a list of a tree and another value is heavier than the tree
pub paired_heavier : (t u : Tree) → weight t < weight (array (trees (t ∷ u ∷ [])))
paired_heavier t u = omega arith

members_more : (k : List ℕ) (u : Tree) (ms : Members) → get k ms ≡ None → members_weight (put k u ms) ≡ members_weight ms + weight u
members_more k u no_members none = omega arith
members_more k u (member l t ms) none = by_bytes (bytes_eq k l) refl none (members_more k u ms)
  where
    by_order : (o : Ordering) → key_cmp k l ≡ o → bytes_eq k l ≡ false → members_weight (put k u ms) ≡ members_weight ms + weight u
        → members_weight (match_ordering o (member k u (member l t ms)) (member l u ms) (member l t (put k u ms))) ≡ weight t + members_weight ms + weight u
    by_order Less e other rest = omega arith
    by_order Equal e other rest = absurd (true≢false (sym (same_bytes k) ∙ ap (bytes_eq k) (key_equal k l e) ∙ other))
    by_order Greater e other rest = omega (arith, rest)

    by_bytes : (b : Bool) → bytes_eq k l ≡ b → cond b (Some t) (get k ms) ≡ None → (get k ms ≡ None → members_weight (put k u ms) ≡ members_weight ms + weight u) → members_weight (put k u (member l t ms)) ≡ weight t + members_weight ms + weight u
    by_bytes true same h rest = absurd (true≢false (ap is_some h))
    by_bytes false other h rest = by_order (key_cmp k l) refl other (rest h)

-- an object with a member of a new key is heavier
pub put_heavier : (k : List ℕ) (u : Tree) (ms : Members) → get k ms ≡ None → weight (object ms) < weight (object (put k u ms))
put_heavier k u ms none =
    let all : members_weight (put k u ms) ≡ members_weight ms + weight u = members_more k u ms none in
    let some = some_weight u in
    omega (arith, all, some)
