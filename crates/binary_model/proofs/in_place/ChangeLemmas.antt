-- The tree that a change follows is the edited tree.
use Rattle.std.proofs.Common.{◌≡◌, ℕ, Bool, true, false, List, [], ◌∷◌, Option, refl, ap, ◌∙◌, cond}
use Rattle.tree_model.specs.Tree.{Tree}
use Rattle.tree_model.specs.Path.{Path}
use Rattle.tree_model.specs.Same.{same_tree}
use Rattle.tree_model.specs.Edit.{Edit, Set, Replace, Remove, set, replace, remove, set_all, replace_all, remove_all, edited}
use Rattle.tree_model.proofs.SameLemmas.{tree_equal}
use Rattle.binary_model.specs.Change.{Progress, step, replaced_by, removed_by, all_replaced, all_removed, progress}

chosen_tree : (edit : List ℕ → Option (List ℕ)) (after : Tree) (p r : Progress) (b : Bool) → same_tree p.«tree» after ≡ b → r.«tree» ≡ after → (cond b p r).«tree» ≡ after
chosen_tree edit after p r true e h = tree_equal p.«tree» after e
chosen_tree edit after p r false e h = h

step_tree : (edit : List ℕ → Option (List ℕ)) (after : Tree) (p : Progress) → (step edit after p).«tree» ≡ after
step_tree edit after p = chosen_tree edit after p _ (same_tree p.«tree» after) refl refl

set_trees : (pairs : List (Path × Tree)) (p : Progress) → (all_replaced set pairs p).«tree» ≡ set_all pairs p.«tree»
set_trees [] p = refl
set_trees (a ∷ rest) p = set_trees rest (replaced_by set a.0 a.1 p) ∙ ap (set_all rest) (step_tree _ (set a.0 a.1 p.«tree») p)

replaced_trees : (pairs : List (Path × Tree)) (p : Progress) → (all_replaced replace pairs p).«tree» ≡ replace_all pairs p.«tree»
replaced_trees [] p = refl
replaced_trees (a ∷ rest) p = replaced_trees rest (replaced_by replace a.0 a.1 p) ∙ ap (replace_all rest) (step_tree _ (replace a.0 a.1 p.«tree») p)

removed_trees : (paths : List Path) (p : Progress) → (all_removed paths p).«tree» ≡ remove_all paths p.«tree»
removed_trees [] p = refl
removed_trees (a ∷ rest) p = removed_trees rest (removed_by a p) ∙ ap (remove_all rest) (step_tree _ (remove a p.«tree») p)

-- the tree that a change follows is the edited tree
pub same_edits : (edit : Edit) (p : Progress) → (progress edit p).«tree» ≡ edited edit p.«tree»
same_edits (Set pairs) p = set_trees pairs p
same_edits (Replace pairs) p = replaced_trees pairs p
same_edits (Remove paths) p = removed_trees paths p
