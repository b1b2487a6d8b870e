-- Whether edits in place have left the tree, and what is stored then.
use Rattle.std.proofs.Common.{◌≡◌, ℕ, ◌≤◌, ◌<◌, Bool, true, false, true≢false, List, Option, Some, None, refl, sym, ap, subst, ◌∙◌, arith, map, cond, nat_lt}
use Rattle.std.proofs.lemmas.Bool.{ltb-true, ltb-false}
use Rattle.tree_model.specs.Tree.{Tree, IsTree, depth}
use Rattle.tree_model.specs.Same.{same_tree}
use Rattle.tree_model.proofs.SameLemmas.{tree_equal, tree_itself}
use Rattle.binary_model.specs.Layout as layout
use Rattle.binary_model.specs.Stands.{IsValue, Stands}
use Rattle.tree_model.specs.Edit.{Edit, edited}
use Rattle.binary_model.specs.Canonical.{canonical}
use Rattle.binary_model.specs.Change.{Progress, progress, change, finished, Same, Full}
use Rattle.binary_model.proofs.in_place.ChangeLemmas.{same_edits}
use Rattle.binary_model.proofs.in_place.AgreeLemmas.{some_is}
use Rattle.json_binary.specs.Place.{spot_of}
use Rattle.json_binary.specs.declared.cursor.place.Spot.{Spot}
use Rattle.json_patch.specs.Led.{StandsFor}
use Rattle.json_patch.specs.Touched.{value_at, same_where, same_at}
use Rattle.json_patch.specs.Made.{in_place}
use Rattle.json_patch.specs.Draft.{IsDraft}
use Rattle.json_patch.specs.declared.draft.Draft.{Draft}
use Rattle.json_patch.proofs.SingleLemmas.{by_equal, at_tree, at_shallow}
use Rattle.json_patch.proofs.WithinLemmas.{value_reached, value_of_reached, within_same, same_at_itself}

-- ---- the same the other way round

pub same_turned : (t u : Tree) → same_tree t u ≡ same_tree u t
same_turned t u = by_equal (same_tree t u) (same_tree u t)
    (λ h. subst (λ v. same_tree u v ≡ true) (sym (tree_equal t u h)) (tree_itself u))
    (λ h. subst (λ v. same_tree t v ≡ true) (sym (tree_equal u t h)) (tree_itself t))

-- ---- the value at a place

-- a tree's value at positions, which the tree has
value_there : (ks : List ℕ) (t v : Tree) → IsTree t → depth t ≤ 100 → value_at ks t ≡ Some v → IsTree v × (depth v ≤ 100)
value_there ks t v is low e =
    let r = value_of_reached ks t v e in
    let same = some_is (sym (value_reached ks t r) ∙ e) in
    (subst IsTree same (at_tree ks t is), subst (λ w. depth w ≤ 100) same (at_shallow ks t 100 r low))

-- the new value at a place, compared with the old one, tells whether the trees are the same there
pub both_there : (old new : List ℕ) (ks : List ℕ) (t u value : Tree) (before after : Spot) (r : Bool) → Stands old t → StandsFor old (value_at ks t) (Some before) → StandsFor new (value_at ks u) (Some after)
    → ((v : Tree) → IsTree v → IsValue old v (spot_of before) → depth v ≤ 100 → value ≡ v) → ((w : Tree) → IsValue new w (spot_of after) → r ≡ same_tree w value) → r ≡ same_where (value_at ks t) (value_at ks u)
both_there old new ks t u value before after r s a b read compared = go (value_at ks t) (value_at ks u) refl a b
  where
    go : (o p : Option Tree) → value_at ks t ≡ o → StandsFor old o (Some before) → StandsFor new p (Some after) → r ≡ same_where o p
    go None p e a b = absurd a
    go (Some v) None e a b = absurd b
    go (Some v) (Some w) e a b =
        let is = value_there ks t v s.«tree» s.nested e in
        compared w b ∙ ap (same_tree w) (read v is.0 a is.1) ∙ same_turned w v

-- ---- a draft at its end

-- progress with edited bytes is that of an edit that was made in place so far
pub ended_at : (items : List ℕ) (p : Progress) → p.edited ≡ Some items → p ≡ in_place items p.«tree»
ended_at items p e = ap (λ o. record { «tree» = p.«tree»; edited = o }) e

-- the document's own value
root_at : (items b1 b2 : List ℕ) (t : Tree) (s : layout.Spot) → b1 ≡ items → b2 ≡ items → s ≡ layout.root b1 → IsValue items t (layout.root items) → IsValue b2 t s
root_at items b1 b2 t s e1 e2 es h = subst (λ b. IsValue b t s) (sym e2) (subst (IsValue items t) (sym (es ∙ ap layout.root e1)) h)

module _ (t u : Tree) (d : Draft) (h : IsDraft t d u) where
  pub restored_draft : true ≡ same_at (map (λ ks. ks.items) d.touched.items) t u → same_tree t u ≡ true
  restored_draft e = subst (λ v. same_tree t v ≡ true) (within_same (map (λ ks. ks.items) d.touched.items) t u h.within (sym e)) (tree_itself t)

  pub other_draft : false ≡ same_at (map (λ ks. ks.items) d.touched.items) t u → same_tree t u ≡ false
  other_draft e = go (same_tree t u) refl
    where
      go : (b : Bool) → same_tree t u ≡ b → same_tree t u ≡ false
      go true same = absurd (true≢false (sym (same_at_itself (map (λ ks. ks.items) d.touched.items) t) ∙ ap (same_at (map (λ ks. ks.items) d.touched.items) t) (tree_equal t u same) ∙ sym e))
      go false apart = apart

  pub shallow_draft : (b1 b2 : List ℕ) (s : layout.Spot) (deep : Bool) → b1 ≡ d.bytes.items → b2 ≡ d.bytes.items → s ≡ layout.root b1 → ((v : Tree) → IsValue b2 v s → deep ≡ nat_lt 100 (depth v)) → deep ≡ false → depth u ≤ 100
  shallow_draft b1 b2 s deep e1 e2 es f up = let low = ltb-false 100 (depth u) (sym (f u (root_at d.bytes.items b1 b2 u s e1 e2 es h.stands.value)) ∙ up) in omega (arith, low)

  pub deep_draft : (b1 b2 : List ℕ) (s : layout.Spot) (deep : Bool) → b1 ≡ d.bytes.items → b2 ≡ d.bytes.items → s ≡ layout.root b1 → ((v : Tree) → IsValue b2 v s → deep ≡ nat_lt 100 (depth v)) → deep ≡ true → 100 < depth u
  deep_draft b1 b2 s deep e1 e2 es f up = ltb-true 100 (depth u) (sym (f u (root_at d.bytes.items b1 b2 u s e1 e2 es h.stands.value)) ∙ up)

-- ---- what is stored where a pair can't be made in place

module _ (bytes : List ℕ) (t : Tree) (edit : Edit) (marked : (progress edit (in_place bytes t)).edited ≡ None) where
  last_is : progress edit (in_place bytes t) ≡ record { «tree» = edited edit t; edited = None }
  last_is = ap (λ o. record { «tree» = (progress edit (in_place bytes t)).«tree»; edited = o }) marked ∙ ap (λ u. record { «tree» = u; edited = None }) (same_edits edit (in_place bytes t))

  anew : change bytes t edit ≡ cond (same_tree t (edited edit t)) Same (Full (canonical (edited edit t)))
  anew = ap (finished bytes t) last_is

  pub anew_same : same_tree t (edited edit t) ≡ true → change bytes t edit ≡ Same
  anew_same e = anew ∙ ap (λ b. cond b Same (Full (canonical (edited edit t)))) e

  pub anew_full : same_tree t (edited edit t) ≡ false → change bytes t edit ≡ Full (canonical (edited edit t))
  anew_full e = anew ∙ ap (λ b. cond b Same (Full (canonical (edited edit t)))) e
