-- The order of keys, and members by key.
use Rattle.std.proofs.Common.{◌≡◌, ◌≢◌, ℕ, Bool, true, false, List, length, Some, cond, refl, sym, ap, ◌∙◌, Ordering, Less, Equal, Greater, is_eq, true≢false, nat_cmp, bytes_eq}
use Rattle.std.specs.Cmp.{IsTotalOrder}
use Rattle.std.specs.Cmp.Lexicographic.{slice_cmp}
use Rattle.std.specs.Ordering.{ordering_reverse, ordering_then, match_ordering}
use Rattle.std.proofs.lemmas.Cmp.{tied_itself, on_total, then_total, nat_cmp_total, nat_list_cmp_total}
use Rattle.std.proofs.lemmas.Map.Text.{is_eq-slice_cmp}
use Rattle.std.proofs.lemmas.Slice.Eq.{bytes_eq-Decides}
use Rattle.tree_model.specs.Tree.{Tree, Members, no_members, member, key_cmp, get, put}

-- the order of keys is total
pub key_total : IsTotalOrder key_cmp
key_total = then_total (on_total length nat_cmp_total) nat_list_cmp_total

-- each key equals itself in it
pub itself : (k : List ℕ) → key_cmp k k ≡ Equal
itself k = tied_itself key_total k

-- two keys turned round compare the other way
pub turned : (a b : List ℕ) (o : Ordering) → key_cmp a b ≡ o → key_cmp b a ≡ ordering_reverse o
turned a b o e = key_total.antisymm b a ∙ ap ordering_reverse e

-- keys that compare equal are equal
pub same_key : (a b : List ℕ) → slice_cmp nat_cmp a b ≡ Equal → a ≡ b
same_key a b e = (bytes_eq-Decides a b).0 (sym (is_eq-slice_cmp a b) ∙ ap is_eq e)

second_equal : (a b : Ordering) → ordering_then a b ≡ Equal → b ≡ Equal
second_equal Less b e = cc
second_equal Equal b e = e
second_equal Greater b e = cc

-- keys that tie are the same
pub key_equal : (a b : List ℕ) → key_cmp a b ≡ Equal → a ≡ b
key_equal a b e = same_key a b (second_equal (nat_cmp (length a) (length b)) (slice_cmp nat_cmp a b) e)

-- keys whose order isn't a tie are not the same
pub key_apart : (a b : List ℕ) → is_eq (key_cmp a b) ≡ false → bytes_eq a b ≡ false
key_apart a b n = go (bytes_eq a b) refl
  where
    go : (t : Bool) → bytes_eq a b ≡ t → t ≡ false
    go false e = refl
    go true e = absurd (true≢false (sym (ap is_eq (itself a)) ∙ ap (λ k. is_eq (key_cmp a k)) ((bytes_eq-Decides a b).0 e) ∙ n))

-- the test of equal bytes tells each list equal to itself
pub same_bytes : (k : List ℕ) → bytes_eq k k ≡ true
same_bytes k = (bytes_eq-Decides k k).1 refl

-- and unequal ones apart
pub other_bytes : (j k : List ℕ) → j ≢ k → bytes_eq j k ≡ false
other_bytes j k h = go (bytes_eq j k) refl
  where
    go : (t : Bool) → bytes_eq j k ≡ t → t ≡ false
    go false e = refl
    go true e = absurd (h ((bytes_eq-Decides j k).0 e))

-- ---- a member that was put

-- a member that was put is found
pub get-put_same : (k : List ℕ) (t : Tree) (ms : Members) → get k (put k t ms) ≡ Some t
get-put_same k t no_members = rw (same_bytes k) refl
get-put_same k t (member l u ms) = go (key_cmp k l) (get-put_same k t ms) refl
  where
    go : (o : Ordering) → get k (put k t ms) ≡ Some t → key_cmp k l ≡ o → get k (match_ordering o (member k t (member l u ms)) (member l t ms) (member l u (put k t ms))) ≡ Some t
    go Less rest e = rw (same_bytes k) refl
    go Equal rest e = let tied : bytes_eq k l ≡ true = (bytes_eq-Decides k l).1 (key_equal k l e) in rw tied refl
    go Greater rest e = let apart : bytes_eq k l ≡ false = key_apart k l (ap is_eq e) in rw apart rest

-- and each other member as before
pub get-put_other : (j k : List ℕ) (t : Tree) (ms : Members) → j ≢ k → get j (put k t ms) ≡ get j ms
get-put_other j k t no_members h = rw (other_bytes j k h) refl
get-put_other j k t (member l u ms) h = go (key_cmp k l) (get-put_other j k t ms h) refl
  where
    go : (o : Ordering) → get j (put k t ms) ≡ get j ms → key_cmp k l ≡ o → get j (match_ordering o (member k t (member l u ms)) (member l t ms) (member l u (put k t ms))) ≡ get j (member l u ms)
    go Less rest e = rw (other_bytes j k h) refl
    go Equal rest e = let apart : bytes_eq j l ≡ false = other_bytes j l (λ same. h (same ∙ sym (key_equal k l e))) in rw apart refl
    go Greater rest e = ap (cond (bytes_eq j l) (Some u)) rest
