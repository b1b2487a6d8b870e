-- Whether what stands in bytes is a tree, value by value.
use Rattle.std.proofs.Common.{◌≡◌, ◌≢◌, ℕ, zero, suc, ◌+◌, ◌≤◌, ◌<◌, Bool, true, false, ◌&&◌, List, [], ◌∷◌, length, map, drop, get_or, bytes_eq, refl, sym, ap, subst, ◌∙◌, arith}
use Rattle.std.proofs.lemmas.List.{drop_all}
use Rattle.tree_model.specs.Tree.{Tree, Trees, no_trees, tree, trees, tree_list, Members, no_members, member, members, member_list, depth, members_depth}
use Rattle.tree_model.specs.Same.{same_tree, same_trees, same_members}
use Rattle.binary_model.specs.Layout.{Container, end, key_end, key_of, child, floor_after}
use Rattle.binary_model.specs.Stands.{IsValue, AreKeys, AreElements, HoldValues}
use Rattle.json_tree.specs.View.{tree_of, pair_of}
use Rattle.json_tree.specs.declared.tree.Json.{Json}
use Rattle.json_tree.specs.declared.tree.Member.{Member}
use Rattle.json_binary.proofs.SizeLemmas.{dropped}
use Rattle.json_binary.proofs.UsageLemmas.{behind_first, none_behind, nth}

-- ---- unequal numbers of values

never : (b c : Bool) → false ≡ c → false ≡ b && c
never true c e = e
never false c e = refl

-- lists of different lengths aren't the same
pub uneven_elements : (ts : Trees) (js : List Json) → length (tree_list ts) ≢ length js → false ≡ same_trees ts (trees (map tree_of js))
uneven_elements no_trees [] n = absurd (n refl)
uneven_elements no_trees (j ∷ js) n = refl
uneven_elements (tree t ts) [] n = refl
uneven_elements (tree t ts) (j ∷ js) n = never (same_tree t (tree_of j)) _ (uneven_elements ts js (λ e. n (ap suc e)))

-- and neither are such objects
pub uneven_members : (ms : Members) (js : List Member) → length (member_list ms) ≢ length js → false ≡ same_members ms (members (map pair_of js))
uneven_members no_members [] n = absurd (n refl)
uneven_members no_members (j ∷ js) n = refl
uneven_members (member key t ms) [] n = refl
uneven_members (member key t ms) (j ∷ js) n = never (bytes_eq key j.key) _ (never (same_tree t (tree_of j.value)) _ (uneven_members ms js (λ e. n (ap suc e))))

-- ---- elements

module _ (bytes : List ℕ) (c : Container) (k floor : ℕ) (ts : Trees) (js : List Json) where
  abbrev elements_left : ℕ → Bool
  elements_left n = same_trees (behind_first n ts) (trees (map tree_of (drop n js)))

  -- whether the k-th and all behind it are the same
  pub element_step : (j : Json) (same b : Bool) → same ≡ b → AreElements bytes c 0 floor ts → k < length (tree_list ts) → k < length js → j ≡ get_or js k j → ((t : Tree) → IsValue bytes t (child bytes c k) → same ≡ same_tree t (tree_of j))
      → elements_left k ≡ same_trees ts (trees (map tree_of js)) → (b && elements_left (k + 1)) ≡ same_trees ts (trees (map tree_of js))
  element_step j same b e a lt low is equals so_far =
      let n = nth bytes c 0 floor k ts a lt in
      let z : 0 + k ≡ k = omega arith in
      let one : k + 1 ≡ suc k = omega arith in
      let this = sym e ∙ equals n.first (subst (λ i. IsValue bytes n.first (child bytes c i)) z n.stands) in
      let parts = dropped js k j low is in
      let rest = n.rest in
      (λ i. this i && same_trees (behind_first (one i) ts) (trees (map tree_of (drop (k + 1) js))))
      ∙ sym (λ i. same_trees (rest i) (trees (map tree_of (parts i)))) ∙ so_far

  -- behind the last element all are the same
  pub elements_done : length (tree_list ts) ≤ k → length js ≤ k → elements_left k ≡ same_trees ts (trees (map tree_of js)) → true ≡ same_trees ts (trees (map tree_of js))
  elements_done h g so_far =
      let none = none_behind k ts h in
      let nothing = drop_all k js g in
      sym (λ i. same_trees (none i) (trees (map tree_of (nothing i)))) ∙ so_far

-- ---- the rest of members

-- the members from the k-th on
abbrev pub members_behind : ℕ → Members → Members
members_behind zero ms = ms
members_behind (suc k) no_members = no_members
members_behind (suc k) (member key t ms) = members_behind k ms

-- there are none from the end on
pub none_members : (k : ℕ) (ms : Members) → length (member_list ms) ≤ k → members_behind k ms ≡ no_members
none_members zero no_members h = refl
none_members zero (member key t ms) h = absurd (omega (arith, h))
none_members (suc k) no_members h = refl
none_members (suc k) (member key t ms) h = none_members k ms (omega (arith, h))

-- the k-th of the members that stand from the j-th on
pub record IsNthMember (bytes : List ℕ) (c : Container) (j k : ℕ) (ms : Members) : Type 0 where
  pub first : Tree
  pub rest : members_behind k ms ≡ member (key_of bytes c (j + k)) first (members_behind (suc k) ms)
  pub inside : key_end bytes c (j + k) ≤ end bytes c
  pub stands : IsValue bytes first (child bytes c (j + k))
  pub shallow : depth first ≤ members_depth ms

-- the k-th member in place, and those behind it
pub nth_member : (bytes : List ℕ) (c : Container) (j start floor k : ℕ) (ms : Members) → AreKeys bytes c j start (map (λ m. m.0) (member_list ms)) → HoldValues bytes c j floor ms → k < length (member_list ms) → IsNthMember bytes c j k ms
nth_member bytes c j start floor k no_members a h lt = absurd (omega (arith, lt))
nth_member bytes c j start floor zero (member key t ms) a h lt =
    let e : j ≡ j + 0 = omega arith in
    record {
      first = t;
      rest = subst (λ i. member key t ms ≡ member (key_of bytes c i) t ms) e (ap (λ l. member l t ms) (sym a.2));
      inside = subst (λ i. key_end bytes c i ≤ end bytes c) e a.1;
      stands = subst (λ i. IsValue bytes t (child bytes c i)) e h.1;
      shallow = omega arith;
    }
nth_member bytes c j start floor (suc k) (member key t ms) a h lt =
    let n = nth_member bytes c (suc j) (key_end bytes c j) (floor_after bytes c j floor) k ms a.3 h.2 (omega (arith, lt)) in
    let e : suc j + k ≡ j + suc k = omega arith in
    let t = n.first in
    let low = n.shallow in
    record {
      first = t;
      rest = subst (λ i. members_behind k ms ≡ member (key_of bytes c i) t (members_behind (suc k) ms)) e n.rest;
      inside = subst (λ i. key_end bytes c i ≤ end bytes c) e n.inside;
      stands = subst (λ i. IsValue bytes t (child bytes c i)) e n.stands;
      shallow = omega (arith, low);
    }

-- ---- members

module _ (bytes : List ℕ) (c : Container) (k start floor : ℕ) (ms : Members) (js : List Member) where
  abbrev members_left : ℕ → Bool
  members_left n = same_members (members_behind n ms) (members (map pair_of (drop n js)))

  both_and : (a b d : Bool) → (a && b && d) ≡ (a && (b && d))
  both_and true b d = refl
  both_and false b d = refl

  -- whether the k-th and all behind it are the same
  pub member_step : (j : Member) (same b : Bool) → same ≡ b → AreKeys bytes c 0 start (map (λ m. m.0) (member_list ms)) → HoldValues bytes c 0 floor ms → end bytes c ≤ length bytes → k < length (member_list ms) → k < length js → j ≡ get_or js k j
      → ((t : Tree) → key_end bytes c k ≤ length bytes → IsValue bytes t (child bytes c k) → same ≡ (bytes_eq (key_of bytes c k) j.key && same_tree t (tree_of j.value)))
      → members_left k ≡ same_members ms (members (map pair_of js)) → (b && members_left (k + 1)) ≡ same_members ms (members (map pair_of js))
  member_step j same b e a h within lt low is equals so_far =
      let n = nth_member bytes c 0 start floor k ms a h lt in
      let z : 0 + k ≡ k = omega arith in
      let one : k + 1 ≡ suc k = omega arith in
      let near : key_end bytes c k ≤ end bytes c = subst (λ i. key_end bytes c i ≤ end bytes c) z n.inside in
      let this = sym e ∙ equals n.first (omega (arith, near, within)) (subst (λ i. IsValue bytes n.first (child bytes c i)) z n.stands) in
      let parts = dropped js k j low is in
      let rest : members_behind k ms ≡ member (key_of bytes c k) n.first (members_behind (suc k) ms) = subst (λ i. members_behind k ms ≡ member (key_of bytes c i) n.first (members_behind (suc k) ms)) z n.rest in
      (λ i. this i && same_members (members_behind (one i) ms) (members (map pair_of (drop (k + 1) js))))
      ∙ both_and (bytes_eq (key_of bytes c k) j.key) (same_tree n.first (tree_of j.value)) _
      ∙ sym (λ i. same_members (rest i) (members (map pair_of (parts i)))) ∙ so_far

  -- behind the last member all are the same
  pub members_done : length (member_list ms) ≤ k → length js ≤ k → members_left k ≡ same_members ms (members (map pair_of js)) → true ≡ same_members ms (members (map pair_of js))
  members_done h g so_far =
      let none = none_members k ms h in
      let nothing = drop_all k js g in
      sym (λ i. same_members (none i) (members (map pair_of (nothing i)))) ∙ so_far
