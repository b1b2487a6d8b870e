-- Where an edit has touched a tree.
--     kids, value_at      the values of a container; the value that positions lead to
--     frame      a tree with null in the place of each of its values
--     DifferWithin      two trees have the same frames outside some places
--     same_at      they have the same values at the places
--     weight      how many values a tree has, itself among them
use Rattle.std.specs.Prelude.{◌≡◌, ℕ, suc, ◌+◌, ◌==◌, ◌&&◌, Bool, true, false, List, [], ◌∷◌, map, slice_get, Option, Some, option_map, option_and_then}
use Rattle.tree_model.specs.Tree.{Tree, null, array, object, Trees, no_trees, tree, trees, tree_list, Members, no_members, member, members, member_list}
use Rattle.tree_model.specs.Same.{same_tree}

abbrev pub kids : Tree → List Tree
kids (array ts) = tree_list ts
kids (object ms) = map (λ m. m.1) (member_list ms)
kids t = []

abbrev pub value_at : List ℕ → Tree → Option Tree
value_at [] t = Some t
value_at (k ∷ ks) t = option_and_then (value_at ks) (slice_get (kids t) k)

abbrev pub frame : Tree → Tree
frame (array ts) = array (trees (map (λ t. null) (tree_list ts)))
frame (object ms) = object (members (map (λ m. (m.0, null)) (member_list ms)))
frame t = t

abbrev pub frame_at : List ℕ → Tree → Option Tree
frame_at ks t = option_map frame (value_at ks t)

-- positions that begin with others lead into the value there
abbrev pub begins : List ℕ → List ℕ → Bool
begins [] ds = true
begins (k ∷ ks) [] = false
begins (k ∷ ks) (d ∷ ds) = (k == d) && begins ks ds

abbrev pub IsOutside : List (List ℕ) → List ℕ → Type 0
IsOutside [] ds = Unit {0}
IsOutside (ks ∷ places) ds = (begins ks ds ≡ false) × IsOutside places ds

abbrev pub DifferWithin : List (List ℕ) → Tree → Tree → Type 0
DifferWithin places t u = (ds : List ℕ) → IsOutside places ds → frame_at ds t ≡ frame_at ds u

-- a place that one of the trees doesn't have lies in one where they differ
abbrev pub same_where : Option Tree → Option Tree → Bool
same_where (Some v) (Some w) = same_tree v w
same_where a b = true

abbrev pub same_at : List (List ℕ) → Tree → Tree → Bool
same_at [] t u = true
same_at (ks ∷ places) t u = same_where (value_at ks t) (value_at ks u) && same_at places t u

abbrev mutual
  pub weight : Tree → ℕ
  weight (array ts) = suc (trees_weight ts)
  weight (object ms) = suc (members_weight ms)
  weight t = 1

  pub trees_weight : Trees → ℕ
  trees_weight no_trees = 0
  trees_weight (tree t ts) = weight t + trees_weight ts

  pub members_weight : Members → ℕ
  members_weight no_members = 0
  members_weight (member k t ms) = weight t + members_weight ms
