-- Edits of an object's members give trees.
use Rattle.std.proofs.Common.{◌≡◌, ℕ, Bool, true, false, List, Some, refl, subst, if◌then◌else◌, bytes_eq, Ordering, Less, Equal, Greater}
use Rattle.tree_model.specs.Tree.{Tree, object, Members, no_members, member, member_list, key_cmp, IsKey, AreMembers, IsTree, HoldTrees, get, put, without}
use Rattle.tree_model.proofs.KeyOrder.{key_total, turned, Above, Rising, rising_from}
use Rattle.std.specs.Ordering.{match_ordering}

-- ---- members

Keys : Members → Type 0
Keys no_members = Unit {0}
Keys (member k t ms) = IsKey k × Keys ms

keys_from : (ms : Members) → AreMembers (member_list ms) → Keys ms
unfolding Keys
keys_from no_members h = tt
keys_from (member k t no_members) h = (h, tt)
keys_from (member k t (member l u ms)) h = (h.0, keys_from (member l u ms) h.2)

are_from : (ms : Members) → Keys ms → Rising ms → AreMembers (member_list ms)
unfolding Keys
are_from no_members h g = tt
are_from (member k t no_members) h g = h.0
are_from (member k t (member l u ms)) h g = (h.0, g.0.0, are_from (member l u ms) h.1 g.1)

above_first : (k l : List ℕ) (ms : Members) → key_cmp k l ≡ Less → Above l ms → Above k ms
above_first k l no_members lt up = tt
above_first k l (member m u ms) lt up = (key_total.trans k l m lt up.0, above_first k l ms lt up.1)

above_put : (j k : List ℕ) (t : Tree) (ms : Members) → key_cmp j k ≡ Less → Above j ms → Above j (put k t ms)
above_put j k t no_members lt up = (lt, tt)
above_put j k t (member l u ms) lt up = go (key_cmp k l) (above_put j k t ms lt up.1)
  where
    go : (o : Ordering) → Above j (put k t ms) → Above j (match_ordering o (member k t (member l u ms)) (member l t ms) (member l u (put k t ms)))
    go Less rest = (lt, up)
    go Equal rest = up
    go Greater rest = (up.0, rest)

rising_put : (k : List ℕ) (t : Tree) (ms : Members) → Rising ms → Rising (put k t ms)
rising_put k t no_members up = (tt, tt)
rising_put k t (member l u ms) up = go (key_cmp k l) refl (rising_put k t ms up.1)
  where
    go : (o : Ordering) → key_cmp k l ≡ o → Rising (put k t ms) → Rising (match_ordering o (member k t (member l u ms)) (member l t ms) (member l u (put k t ms)))
    go Less e rest = ((e, above_first k l ms e up.0), up)
    go Equal e rest = up
    go Greater e rest = (above_put l k t ms (turned k l Greater e) up.0, rest)

keys_put : (k : List ℕ) (t : Tree) (ms : Members) → IsKey k → Keys ms → Keys (put k t ms)
unfolding Keys
keys_put k t no_members is h = (is, tt)
keys_put k t (member l u ms) is h = go (key_cmp k l) (keys_put k t ms is h.1)
  where
    go : (o : Ordering) → Keys (put k t ms) → Keys (match_ordering o (member k t (member l u ms)) (member l t ms) (member l u (put k t ms)))
    go Less rest = (is, h)
    go Equal rest = h
    go Greater rest = (h.0, rest)

trees_put : (k : List ℕ) (t : Tree) (ms : Members) → IsTree t → HoldTrees ms → HoldTrees (put k t ms)
trees_put k t no_members is h = (is, tt)
trees_put k t (member l u ms) is h = go (key_cmp k l) (trees_put k t ms is h.1)
  where
    go : (o : Ordering) → HoldTrees (put k t ms) → HoldTrees (match_ordering o (member k t (member l u ms)) (member l t ms) (member l u (put k t ms)))
    go Less rest = (is, h)
    go Equal rest = (is, h.1)
    go Greater rest = (h.0, rest)

-- an object with one member set
pub put_is : (k : List ℕ) (t : Tree) (ms : Members) → IsKey k → IsTree t → IsTree (object ms) → IsTree (object (put k t ms))
put_is k t ms short is h = (are_from (put k t ms) (keys_put k t ms short (keys_from ms h.0)) (rising_put k t ms (rising_from ms h.0)), trees_put k t ms is h.1)

above_without : (j k : List ℕ) (ms : Members) → Above j ms → Above j (without k ms)
above_without j k no_members up = tt
above_without j k (member l u ms) up = go (bytes_eq k l) (above_without j k ms up.1)
  where
    go : (b : Bool) → Above j (without k ms) → Above j (if b then ms else member l u (without k ms))
    go true rest = up.1
    go false rest = (up.0, rest)

rising_without : (k : List ℕ) (ms : Members) → Rising ms → Rising (without k ms)
rising_without k no_members up = tt
rising_without k (member l u ms) up = go (bytes_eq k l) (rising_without k ms up.1)
  where
    go : (b : Bool) → Rising (without k ms) → Rising (if b then ms else member l u (without k ms))
    go true rest = up.1
    go false rest = (above_without l k ms up.0, rest)

keys_without : (k : List ℕ) (ms : Members) → Keys ms → Keys (without k ms)
unfolding Keys
keys_without k no_members h = tt
keys_without k (member l u ms) h = go (bytes_eq k l) (keys_without k ms h.1)
  where
    go : (b : Bool) → Keys (without k ms) → Keys (if b then ms else member l u (without k ms))
    go true rest = h.1
    go false rest = (h.0, rest)

trees_without : (k : List ℕ) (ms : Members) → HoldTrees ms → HoldTrees (without k ms)
trees_without k no_members h = tt
trees_without k (member l u ms) h = go (bytes_eq k l) (trees_without k ms h.1)
  where
    go : (b : Bool) → HoldTrees (without k ms) → HoldTrees (if b then ms else member l u (without k ms))
    go true rest = h.1
    go false rest = (h.0, rest)

-- with one member taken out
pub without_is : (k : List ℕ) (ms : Members) → IsTree (object ms) → IsTree (object (without k ms))
without_is k ms h = (are_from (without k ms) (keys_without k ms (keys_from ms h.0)) (rising_without k ms (rising_from ms h.0)), trees_without k ms h.1)

-- a member of one that holds trees is a tree
pub got_is : (k : List ℕ) (ms : Members) (u : Tree) → HoldTrees ms → get k ms ≡ Some u → IsTree u
got_is k no_members u h e = cc
got_is k (member l t ms) u h e = go (bytes_eq k l) e (got_is k ms u h.1)
  where
    go : (b : Bool) → (if b then Some t else get k ms) ≡ Some u → (get k ms ≡ Some u → IsTree u) → IsTree u
    go true f rest = let one : t ≡ u = cc in subst IsTree one h.0
    go false f rest = rest f
