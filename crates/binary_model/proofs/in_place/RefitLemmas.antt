-- One value of a container replaced by another that fits between its neighbours: the container stands for the tree with it.
use Rattle.std.proofs.Common.{◌≡◌, ℕ, zero, suc, ◌+◌, ◌-◌, ◌≤◌, ◌<◌, Bool, true, false, List, length, refl, sym, ap, subst, ◌∙◌, arith, cond}
use Rattle.tree_model.specs.Tree.{Tree, null, Trees, no_trees, tree, tree_list}
use Rattle.binary_model.specs.Layout.{Container, end, inlined, child, value_end, floor_after}
use Rattle.binary_model.specs.Stands.{IsPlaced, IsValue, AreElements}
use Rattle.binary_model.specs.Change.{end_before, start_from}
use Rattle.binary_model.proofs.in_place.AgreeLemmas.{Same, same_part}
use Rattle.binary_model.proofs.in_place.StayLemmas.{bounds, EntryMoved, StandsAgain, one_again}
use Rattle.binary_model.proofs.in_place.AgainLemmas.{NextEntries, elements_again, stays, all_stay}

-- ---- elements by number

-- the n-th of values, null where there is none
abbrev pub nth : Trees → ℕ → Tree
nth no_trees n = null
nth (tree t ts) zero = t
nth (tree t ts) (suc n) = nth ts n

-- the values behind the n-th
abbrev pub rest : Trees → ℕ → Trees
rest no_trees n = no_trees
rest (tree t ts) zero = ts
rest (tree t ts) (suc n) = rest ts n

-- values whose n-th is another
abbrev pub with_element : Trees → ℕ → Tree → Trees
with_element no_trees n u = no_trees
with_element (tree t ts) zero u = tree u ts
with_element (tree t ts) (suc n) u = tree t (with_element ts n u)

-- how many stand behind the n-th
pub rest_length : (ts : Trees) (n : ℕ) → length (tree_list (rest ts n)) ≡ length (tree_list ts) - suc n
rest_length no_trees n = omega arith
rest_length (tree t ts) zero = omega arith
rest_length (tree t ts) (suc n) = let e = rest_length ts n in omega (arith, e)

-- another value leaves their number
pub with_length : (ts : Trees) (n : ℕ) (u : Tree) → length (tree_list (with_element ts n u)) ≡ length (tree_list ts)
with_length no_trees n u = refl
with_length (tree t ts) zero u = refl
with_length (tree t ts) (suc n) u = ap suc (with_length ts n u)

-- ---- floors

-- a value that is placed ends at its floor or past it
pub floor_up : (bytes : List ℕ) (c : Container) (t : Tree) (j floor : ℕ) → IsPlaced bytes c j floor → IsValue bytes t (child bytes c j) → floor ≤ floor_after bytes c j floor
floor_up bytes c t j floor p v = go (inlined bytes c j) refl
  where
    go : (b : Bool) → inlined bytes c j ≡ b → floor ≤ cond b floor (value_end bytes (child bytes c j))
    go true e = omega arith
    go false e = let low = p e in let wide = (bounds bytes t (child bytes c j) v).0 in omega (arith, low, wide)

-- values end at places that rise
pub ends_rise : (bytes : List ℕ) (c : Container) (ts : Trees) (j n : ℕ) → AreElements bytes c j (end_before bytes c j) ts → n ≤ length (tree_list ts) → end_before bytes c j ≤ end_before bytes c (j + n)
ends_rise bytes c ts j zero h low = let e : j ≡ j + 0 = omega arith in subst (λ i. end_before bytes c j ≤ end_before bytes c i) e (omega arith)
ends_rise bytes c no_trees j (suc n) h low = let no : ⊥ = omega (arith, low) in absurd no
ends_rise bytes c (tree t ts) j (suc n) h low =
    let e : suc j + n ≡ j + suc n = omega arith in
    let first = floor_up bytes c t j (end_before bytes c j) h.0 h.1 in
    let more = ends_rise bytes c ts (suc j) n h.2 (omega (arith, low)) in
    subst (λ i. end_before bytes c j ≤ end_before bytes c i) e (omega (arith, first, more))

-- the n-th element in place, and those behind it
abbrev pub FoundAt : List ℕ → Container → ℕ → Tree → Trees → Type 0
FoundAt bytes c k t ts = IsPlaced bytes c k (end_before bytes c k) × IsValue bytes t (child bytes c k) × AreElements bytes c (suc k) (end_before bytes c (suc k)) ts

-- the n-th value of elements in place, and those behind it
pub element_at : (bytes : List ℕ) (c : Container) (ts : Trees) (j n : ℕ) → AreElements bytes c j (end_before bytes c j) ts → n < length (tree_list ts) → FoundAt bytes c (j + n) (nth ts n) (rest ts n)
element_at bytes c no_trees j n h low = let no : ⊥ = omega (arith, low) in absurd no
element_at bytes c (tree t ts) j zero h low = let e : j ≡ j + 0 = omega arith in subst (λ i. FoundAt bytes c i t ts) e (h.0, h.1, h.2)
element_at bytes c (tree t ts) j (suc n) h low =
    let e : suc j + n ≡ j + suc n = omega arith in
    subst (λ i. FoundAt bytes c i (nth ts n) (rest ts n)) e (element_at bytes c ts (suc j) n h.2 (omega (arith, low)))

-- ---- the elements with another at one number

-- the k-th value is new, and r values behind it have stayed
pub record NewAt (xs ys : List ℕ) (c : Container) (k r : ℕ) (u : Tree) : Type 0 where
  pub placed : IsPlaced ys c k (end_before xs c k)
  pub value : IsValue ys u (child ys c k)
  pub last : floor_after ys c k (end_before xs c k) ≤ start_from xs c r (suc k)
  pub behind : NextEntries xs ys c (suc k) (suc k) r
  pub later : Same xs ys (start_from xs c r (suc k)) (end xs c)

same_floor : (xs ys : List ℕ) (t : Tree) (c : Container) (j floor : ℕ) (b : Bool) → inlined xs c j ≡ b → StandsAgain xs ys t c j j b → floor_after ys c j floor ≡ floor_after xs c j floor
same_floor xs ys t c j floor true e one = ap (λ b. cond b floor (value_end ys (child ys c j))) one.0 ∙ sym (ap (λ b. cond b floor (value_end xs (child xs c j))) e)
same_floor xs ys t c j floor false e one = ap (λ b. cond b floor (value_end ys (child ys c j))) one.0 ∙ (one.2 refl).1 ∙ sym (ap (λ b. cond b floor (value_end xs (child xs c j))) e)

same_place : (xs ys : List ℕ) (t : Tree) (c : Container) (j floor : ℕ) (b : Bool) → inlined xs c j ≡ b → StandsAgain xs ys t c j j b → IsPlaced xs c j floor → IsPlaced ys c j floor
same_place xs ys t c j floor true e one p = λ f. let no : ⊥ = let g = one.0 in cc in absurd no
same_place xs ys t c j floor false e one p = λ f. subst (λ n. floor ≤ n) (sym (one.2 refl).0) (p e)

abbrev FirstEntries : List ℕ → List ℕ → Container → ℕ → ℕ → Type 0
FirstEntries xs ys c j n = (m : ℕ) → m < n → EntryMoved xs ys c (j + m) (j + m)

-- elements whose n-th is new and fits stand in the new bytes
pub refitted : (ts : Trees) (xs ys : List ℕ) (c : Container) (j n : ℕ) (u : Tree) → length xs ≡ length ys → end ys c ≡ end xs c → AreElements xs c j (end_before xs c j) ts → n < length (tree_list ts)
    → FirstEntries xs ys c j n → Same xs ys (end_before xs c j) (end_before xs c (j + n)) → NewAt xs ys c (j + n) (length (tree_list (rest ts n))) u
    → AreElements ys c j (end_before xs c j) (with_element ts n u)
refitted no_trees xs ys c j n u len ends h low before same new = tt
refitted (tree t ts) xs ys c j zero u len ends h low before same new =
    let e : j + 0 ≡ j = omega arith in
    let at : NewAt xs ys c j (length (tree_list ts)) u = subst (λ k. NewAt xs ys c k (length (tree_list ts)) u) e new in (
      at.placed,
      at.value,
      elements_again ts (all_stay ts) xs ys c (suc j) (suc j) (end_before xs c (suc j)) (floor_after ys c j (end_before xs c j)) (start_from xs c (length (tree_list ts)) (suc j)) len ends h.2 at.behind at.later
          (omega arith) at.last,
    )
refitted (tree t ts) xs ys c j (suc n) u len ends h low before same new =
    let e : j + suc n ≡ suc j + n = omega arith in
    let here : j + 0 ≡ j = omega arith in
    let entry : EntryMoved xs ys c j j = subst (λ i. EntryMoved xs ys c i i) here (before 0 (omega arith)) in
    let up = ends_rise xs c ts (suc j) n h.2 (omega (arith, low)) in
    let wide = (bounds xs t (child xs c j) h.1).0 in
    let rise = floor_up xs c t j (end_before xs c j) h.0 h.1 in
    let far : Same xs ys (end_before xs c j) (end_before xs c (suc j + n)) = subst (λ i. Same xs ys (end_before xs c j) (end_before xs c i)) e same in
    let b = inlined xs c j in
    let one = one_again t (stays t) xs ys c j j len entry ends h.1 b refl (λ f.
    let end_here : end_before xs c (suc j) ≡ value_end xs (child xs c j) = ap (λ b. cond b (end_before xs c j) (value_end xs (child xs c j))) f in
    let first = h.0 f in
    same_part xs ys (end_before xs c j) (end_before xs c (suc j + n)) (child xs c j).at (value_end xs (child xs c j)) far first (omega (arith, end_here, up))) in (
      same_place xs ys t c j (end_before xs c j) b refl one h.0,
      one.1,
      subst (λ f. AreElements ys c (suc j) f (with_element ts n u)) (sym (same_floor xs ys t c j (end_before xs c j) b refl one))
          (refitted ts xs ys c (suc j) n u len ends h.2 (omega (arith, low)) (λ m below. let i : j + suc m ≡ suc j + m = omega arith in subst (λ i. EntryMoved xs ys c i i) i (before (suc m) (omega (arith, below))))
          (same_part xs ys (end_before xs c j) (end_before xs c (suc j + n)) (end_before xs c (suc j)) (end_before xs c (suc j + n)) far rise (omega arith))
          (subst (λ k. NewAt xs ys c k (length (tree_list (rest ts n))) u) e new)),
    )
