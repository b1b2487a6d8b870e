-- Trees that differ within places only: one more value put into one of them, and when they are equal.
use Rattle.std.proofs.Common.{◌≡◌, ℕ, zero, suc, ◌<◌, ◌≤◌, ◌==◌, ◌&&◌, Bool, true, false, List, [], ◌∷◌, ◌++◌, length, map, slice_get, slice_set, Option, Some, None, option_map, option_and_then, refl, sym, ap, ap₂, subst, ◌∙◌, arith, ◌⊎◌, inl, inr}
use Rattle.std.specs.Cmp.{first_so, second_so}
use Rattle.std.specs.Cmp.Derive.{both_true}
use Rattle.std.proofs.lemmas.Bool.{eqb-true, eqb-false}
use Rattle.std.proofs.lemmas.Option.{none-some, slice_get-map, slice_get_within, option_and_then_some}
use Rattle.tree_model.specs.Tree.{Tree, null, array, object, Trees, no_trees, tree, tree_list, trees, Members, no_members, member, member_list, members, depth}
use Rattle.tree_model.proofs.TreeLemmas.{tree_list-trees, trees-tree_list}
use Rattle.tree_model.proofs.SameLemmas.{tree_equal, tree_itself}
use Rattle.binary_model.proofs.in_place.AgreeLemmas.{some_is}
use Rattle.binary_model.proofs.reading.StandLemmas.{values}
use Rattle.binary_model.proofs.in_place.RefitLemmas.{nth, with_element}
use Rattle.binary_model.proofs.in_place.KidsLemmas.{kids as kid_trees, with_nth_member, with_kid}
use Rattle.binary_model.proofs.in_place.LiftLemmas.{Reaches}
use Rattle.binary_model.proofs.in_place.PositionLemmas.{put_at}
use Rattle.json_patch.specs.Touched.{kids, value_at, frame, frame_at, begins, IsOutside, DifferWithin, same_where, same_at}
use Rattle.json_patch.proofs.PlaceLemmas.{found_at}
use Rattle.json_patch.proofs.SingleLemmas as single
use Rattle.json_patch.proofs.SingleLemmas.{below_deep}

-- ---- the values of a container, by number

values_list : (ms : Members) → map (λ m. m.1) (member_list ms) ≡ tree_list (values ms)
values_list no_members = refl
values_list (member k t ms) = ap (λ ts. t ∷ ts) (values_list ms)

kids_list : (t : Tree) → kids t ≡ tree_list (kid_trees t)
kids_list (array ts) = refl
kids_list (object ms) = values_list ms
kids_list t = refl

kid_found : (t : Tree) (k : ℕ) → k < length (tree_list (kid_trees t)) → slice_get (kids t) k ≡ Some (nth (kid_trees t) k)
kid_found t k low = ap (λ ts. slice_get ts k) (kids_list t) ∙ found_at (kid_trees t) k low

kid_is : (t v : Tree) (k : ℕ) → slice_get (kids t) k ≡ Some v → (k < length (tree_list (kid_trees t))) × (nth (kid_trees t) k ≡ v)
kid_is t v k e =
    let low : k < length (tree_list (kid_trees t)) = subst (λ ts. k < length ts) (kids_list t) (slice_get_within (kids t) k v e) in
    (low, some_is (sym (kid_found t k low) ∙ e))

kid_less : (t v : Tree) (k : ℕ) → slice_get (kids t) k ≡ Some v → suc (depth v) ≤ depth t
kid_less t v k e = let at = kid_is t v k e in subst (λ u. suc (depth u) ≤ depth t) at.1 (below_deep t k at.0)

-- what is found in the value of that number
abbrev frame_in : List ℕ → Option Tree → Option Tree
frame_in ds o = option_map frame (option_and_then (value_at ds) o)

-- ---- positions that reach a value

-- positions that reach a value of a tree find it there
pub value_reached : (ks : List ℕ) (t : Tree) → Reaches ks t → value_at ks t ≡ Some (single.value_at ks t)
value_reached [] t r = refl
value_reached (k ∷ ks) t r = ap (option_and_then (value_at ks)) (kid_found t k r.0) ∙ value_reached ks (nth (kid_trees t) k) r.1

-- positions that find a value in a tree reach it
pub value_of_reached : (ks : List ℕ) (t v : Tree) → value_at ks t ≡ Some v → Reaches ks t
value_of_reached [] t v e = tt
value_of_reached (k ∷ ks) t v e = option_and_then_some (value_at ks) (slice_get (kids t) k) v e (λ u found h.
    let at = kid_is t u k found in
    (at.0, value_of_reached ks (nth (kid_trees t) k) v (ap (value_at ks) at.1 ∙ h)))

-- ---- a value put elsewhere

elements_set : (ts : Trees) (n : ℕ) (u : Tree) → tree_list (with_element ts n u) ≡ slice_set (tree_list ts) n u
elements_set no_trees n u = refl
elements_set (tree t ts) zero u = refl
elements_set (tree t ts) (suc n) u = ap (λ us. t ∷ us) (elements_set ts n u)

members_set : (ms : Members) (n : ℕ) (u : Tree) → map (λ m. m.1) (member_list (with_nth_member ms n u)) ≡ slice_set (map (λ m. m.1) (member_list ms)) n u
members_set no_members n u = refl
members_set (member k t ms) zero u = refl
members_set (member k t ms) (suc n) u = ap (λ us. t ∷ us) (members_set ms n u)

kids_set : (t : Tree) (n : ℕ) (u : Tree) → kids (with_kid t n u) ≡ slice_set (kids t) n u
kids_set (array ts) n u = elements_set ts n u
kids_set (object ms) n u = members_set ms n u
kids_set t n u = refl

set_found : (ts : List Tree) (n : ℕ) (u : Tree) → n < length ts → slice_get (slice_set ts n u) n ≡ Some u
set_found [] n u low = absurd (omega (arith, low))
set_found (t ∷ ts) zero u low = refl
set_found (t ∷ ts) (suc n) u low = set_found ts n u (omega (arith, low))

set_kept : (ts : List Tree) (n m : ℕ) (u : Tree) → (n ≡ m → ⊥) → slice_get (slice_set ts n u) m ≡ slice_get ts m
set_kept [] n m u apart = refl
set_kept (t ∷ ts) zero zero u apart = absurd (apart refl)
set_kept (t ∷ ts) zero (suc m) u apart = refl
set_kept (t ∷ ts) (suc n) zero u apart = refl
set_kept (t ∷ ts) (suc n) (suc m) u apart = set_kept ts n m u (λ e. apart (ap suc e))

elements_framed : (ts : Trees) (n : ℕ) (u : Tree) → map (λ t. null) (tree_list (with_element ts n u)) ≡ map (λ t. null) (tree_list ts)
elements_framed no_trees n u = refl
elements_framed (tree t ts) zero u = refl
elements_framed (tree t ts) (suc n) u = ap (λ us. null ∷ us) (elements_framed ts n u)

members_framed : (ms : Members) (n : ℕ) (u : Tree) → members (map (λ m. (m.0, null)) (member_list (with_nth_member ms n u))) ≡ members (map (λ m. (m.0, null)) (member_list ms))
members_framed no_members n u = refl
members_framed (member k t ms) zero u = refl
members_framed (member k t ms) (suc n) u = ap (member k null) (members_framed ms n u)

kid_framed : (t : Tree) (n : ℕ) (u : Tree) → frame (with_kid t n u) ≡ frame t
kid_framed (array ts) n u = ap (λ us. array (trees us)) (elements_framed ts n u)
kid_framed (object ms) n u = ap object (members_framed ms n u)
kid_framed t n u = refl

frame_put : (ks ds : List ℕ) (v t : Tree) → Reaches ks t → begins ks ds ≡ false → frame_at ds (put_at ks v t) ≡ frame_at ds t
frame_put [] ds v t r h = let no : ⊥ = cc in absurd no
frame_put (k ∷ ks) [] v t r h = ap Some (kid_framed t k (put_at ks v (nth (kid_trees t) k)))
frame_put (k ∷ ks) (d ∷ ds) v t r h = go (k == d) refl h (frame_put ks ds v (nth (kid_trees t) k) r.1)
  where
    new : Tree
    new = put_at ks v (nth (kid_trees t) k)

    low : k < length (kids t)
    low = subst (λ ts. k < length ts) (sym (kids_list t)) r.0

    go : (b : Bool) → (k == d) ≡ b → (b && begins ks ds) ≡ false → (begins ks ds ≡ false → frame_at ds new ≡ frame_at ds (nth (kid_trees t) k)) → frame_in ds (slice_get (kids (with_kid t k new)) d) ≡ frame_in ds (slice_get (kids t) d)
    go true e apart later =
        subst (λ n. frame_in ds (slice_get (kids (with_kid t k new)) n) ≡ frame_in ds (slice_get (kids t) n)) (eqb-true k d e)
        (ap (λ ts. frame_in ds (slice_get ts k)) (kids_set t k new) ∙ ap (frame_in ds) (set_found (kids t) k new low) ∙ later apart ∙ sym (ap (frame_in ds) (kid_found t k r.0)))
    go false e apart later = ap (λ ts. frame_in ds (slice_get ts d)) (kids_set t k new) ∙ ap (frame_in ds) (set_kept (kids t) k d new (eqb-false k d e))

outside_both : (places : List (List ℕ)) (ks ds : List ℕ) → IsOutside (places ++ ks ∷ []) ds → IsOutside places ds × (begins ks ds ≡ false)
outside_both [] ks ds out = (tt, out.0)
outside_both (js ∷ places) ks ds out = let rest = outside_both places ks ds out.1 in ((out.0, rest.0), rest.1)

pub within_itself : (t : Tree) → DifferWithin [] t t
within_itself t ds out = refl

-- with a value put into one of two trees, they differ within the places and that value's
pub within_put : (places : List (List ℕ)) (ks : List ℕ) (v t u : Tree) → Reaches ks u → DifferWithin places t u → DifferWithin (places ++ ks ∷ []) t (put_at ks v u)
within_put places ks v t u r within ds out = let both = outside_both places ks ds out in within ds both.0 ∙ sym (frame_put ks ds v u r both.1)

-- ---- a tree from its frame and its values

abbrev paired : Members → List Tree → Members
paired no_members us = no_members
paired (member k t ms) [] = no_members
paired (member k t ms) (u ∷ us) = member k u (paired ms us)

abbrev rebuilt : Tree → List Tree → Tree
rebuilt (array ts) us = array (trees us)
rebuilt (object ms) us = object (paired ms us)
rebuilt t us = t

members_again : (ms : Members) → paired (members (map (λ m. (m.0, null)) (member_list ms))) (map (λ m. m.1) (member_list ms)) ≡ ms
members_again no_members = refl
members_again (member k t ms) = ap (member k t) (members_again ms)

again : (t : Tree) → rebuilt (frame t) (kids t) ≡ t
again (array ts) = ap array (trees-tree_list ts)
again (object ms) = ap object (members_again ms)
again t = refl

members_null : (ms : Members) → map (λ m. m.1) (member_list (members (map (λ m. (m.0, null)) (member_list ms)))) ≡ map (λ t. null) (map (λ m. m.1) (member_list ms))
members_null no_members = refl
members_null (member k t ms) = ap (λ us. null ∷ us) (members_null ms)

kids_null : (t : Tree) → kids (frame t) ≡ map (λ t. null) (kids t)
kids_null (array ts) = tree_list-trees (map (λ t. null) (tree_list ts))
kids_null (object ms) = members_null ms
kids_null t = refl

null_kid : (t : Tree) (k : ℕ) → slice_get (kids (frame t)) k ≡ option_map (λ t. null) (slice_get (kids t) k)
null_kid t k = ap (λ ts. slice_get ts k) (kids_null t) ∙ slice_get-map (λ t. null) (kids t) k

same_lists : (ts us : List Tree) → ((k : ℕ) → slice_get ts k ≡ slice_get us k) → ts ≡ us
same_lists [] [] f = refl
same_lists [] (u ∷ us) f = absurd (none-some u (f 0))
same_lists (t ∷ ts) [] f = absurd (none-some t (sym (f 0)))
same_lists (t ∷ ts) (u ∷ us) f = ap₂ (λ v vs. v ∷ vs) (some_is (f 0)) (same_lists ts us (λ k. f (suc k)))

-- ---- equal where they have the same values at the places

-- the positions lead through values that are the same
abbrev AreSameAbove : Tree → Tree → List ℕ → Type 0
AreSameAbove t u ds = (ks : List ℕ) × (begins ks ds ≡ true) × (same_where (value_at ks t) (value_at ks u) ≡ true)

abbrev Agree : Tree → Tree → List ℕ → Type 0
Agree t u ds = (frame_at ds t ≡ frame_at ds u) ⊎ AreSameAbove t u ds

outside_or_same : (places : List (List ℕ)) (t u : Tree) (ds : List ℕ) → same_at places t u ≡ true → IsOutside places ds ⊎ AreSameAbove t u ds
outside_or_same [] t u ds e = inl tt
outside_or_same (ks ∷ places) t u ds e = go (begins ks ds) refl (outside_or_same places t u ds (second_so (same_where (value_at ks t) (value_at ks u)) (same_at places t u) e))
  where
    go : (b : Bool) → begins ks ds ≡ b → IsOutside places ds ⊎ AreSameAbove t u ds → IsOutside (ks ∷ places) ds ⊎ AreSameAbove t u ds
    go true h later = inr (ks, h, first_so (same_where (value_at ks t) (value_at ks u)) (same_at places t u) e)
    go false h (inl out) = inl (h, out)
    go false h (inr same) = inr same

kids_agree : (t u v w : Tree) (k : ℕ) (ds : List ℕ) → slice_get (kids t) k ≡ Some v → slice_get (kids u) k ≡ Some w → Agree t u (k ∷ ds) → Agree v w ds
kids_agree t u v w k ds e h (inl same) = inl (sym (ap (frame_in ds) e) ∙ same ∙ ap (frame_in ds) h)
kids_agree t u v w k ds e h (inr ([], leads, same)) =
    let equal : v ≡ w = some_is (sym e ∙ ap (λ t. slice_get (kids t) k) (tree_equal t u same) ∙ h) in
    inl (ap (frame_at ds) equal)
kids_agree t u v w k ds e h (inr (j ∷ js, leads, same)) =
    let here : j ≡ k = eqb-true j k (first_so (j == k) (begins js ds) leads) in
    let left : value_at (j ∷ js) t ≡ value_at js v = ap (λ n. value_at (n ∷ js) t) here ∙ ap (option_and_then (value_at js)) e in
    let right : value_at (j ∷ js) u ≡ value_at js w = ap (λ n. value_at (n ∷ js) u) here ∙ ap (option_and_then (value_at js)) h in
    inr (js, second_so (j == k) (begins js ds) leads, sym (ap₂ same_where left right) ∙ same)

-- less deep trees that agree everywhere are equal
abbrev AreEqualBelow : ℕ → Type 0
AreEqualBelow n = (v w : Tree) → depth v < n → ((ds : List ℕ) → Agree v w ds) → v ≡ w

kids_equal : (n : ℕ) (t u : Tree) → depth t ≤ n → AreEqualBelow n → ((ds : List ℕ) → Agree t u ds) → frame t ≡ frame u → (k : ℕ) → slice_get (kids t) k ≡ slice_get (kids u) k
kids_equal n t u low below agree e k = go (slice_get (kids t) k) (slice_get (kids u) k) refl refl (sym (null_kid t k) ∙ ap (λ t. slice_get (kids t) k) e ∙ null_kid u k)
  where
    go : (o p : Option Tree) → slice_get (kids t) k ≡ o → slice_get (kids u) k ≡ p → option_map (λ t. null) o ≡ option_map (λ t. null) p → o ≡ p
    go None None f g both = refl
    go None (Some w) f g both = absurd (none-some null both)
    go (Some v) None f g both = absurd (none-some null (sym both))
    go (Some v) (Some w) f g both = let less = kid_less t v k f in ap Some (below v w (omega (arith, less, low)) (λ ds. kids_agree t u v w k ds f g (agree (k ∷ ds))))

equal_above : (n : ℕ) (t u : Tree) → depth t ≤ n → AreEqualBelow n → ((ds : List ℕ) → Agree t u ds) → Agree t u [] → t ≡ u
equal_above n t u low below agree (inl e) = let framed = some_is e in sym (again t) ∙ ap₂ rebuilt framed (same_lists (kids t) (kids u) (kids_equal n t u low below agree framed)) ∙ again u
equal_above n t u low below agree (inr ([], leads, same)) = tree_equal t u same
equal_above n t u low below agree (inr (k ∷ ks, leads, same)) = let no : ⊥ = cc in absurd no

all_equal : (n : ℕ) → AreEqualBelow n
all_equal zero t u low agree = absurd (omega (arith, low))
all_equal (suc n) t u low agree = equal_above n t u (omega (arith, low)) (λ v w. all_equal n v w) agree (agree [])

-- trees that differ within places only, and have the same values there, are equal
pub within_same : (places : List (List ℕ)) (t u : Tree) → DifferWithin places t u → same_at places t u ≡ true → t ≡ u
within_same places t u within same = all_equal (suc (depth t)) t u (omega arith) (λ ds. agree ds (outside_or_same places t u ds same))
  where
    agree : (ds : List ℕ) → IsOutside places ds ⊎ AreSameAbove t u ds → Agree t u ds
    agree ds (inl out) = inl (within ds out)
    agree ds (inr above) = inr above

where_itself : (o : Option Tree) → same_where o o ≡ true
where_itself None = refl
where_itself (Some t) = tree_itself t

-- a tree has the same values as itself, whatever the places
pub same_at_itself : (places : List (List ℕ)) (t : Tree) → same_at places t t ≡ true
same_at_itself [] t = refl
same_at_itself (ks ∷ places) t = both_true (where_itself (value_at ks t)) (same_at_itself places t)
