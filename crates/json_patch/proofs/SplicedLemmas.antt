-- A new encoding laid from the document's bytes is the plan.
use Rattle.std.proofs.Common.{◌≡◌, ℕ, ◌+◌, ◌≤◌, ◌<◌, Bool, true, false, List, [], ◌∷◌, length, map, get_or, Option, Some, None, Result, Ok, Err, IfOk, IfSome, Vec, Global, refl, sym, ap, subst, ◌∙◌, arith}
use Rattle.tree_model.specs.Tree.{Tree, IsTree, depth}
use Rattle.tree_model.specs.Path.{Path}
use Rattle.tree_model.specs.Same.{same_tree}
use Rattle.tree_model.specs.Edit.{edited}
use Rattle.binary_model.specs.Layout.{code_of}
use Rattle.binary_model.specs.Stands.{Stands}
use Rattle.binary_model.specs.Canonical.{Spelling, spelling, canonical, canonical_length}
use Rattle.binary_model.specs.Change.{positions, progress}
use Rattle.binary_model.proofs.canonical.LengthLemmas.{measured_length}
use Rattle.binary_model.proofs.canonical.RoundLemmas.{canonical_stands}
use Rattle.binary_model.proofs.in_place.PositionLemmas.{put_at, put_at_is}
use Rattle.json_patch.specs.declared.planning.Planned.TheVariants as planned
use Rattle.json_edit.specs.declared.pairs.Pair.{Pair}
use Rattle.json_edit.specs.Edits.{assigned}
use Rattle.json_patch.specs.Answer.{IsPlanFor, Plans}
use Rattle.json_patch.specs.Made.{edit_by, act_by, in_place}
use Rattle.json_patch.specs.Spliced.{IsReplaced}
use Rattle.json_patch.proofs.SingleLemmas.{none_some}
use Rattle.json_patch.proofs.RestoredLemmas.{anew_full}
use Rattle.json_patch.proofs.DraftLemmas.{put_positions, one_pair, kept_progress, put_shallow}

-- the edit of one pair
one_edit : (adding : Bool) (path : Path) (v t : Tree) → edited (edit_by adding ((path, v) ∷ [])) t ≡ act_by adding path v t
one_edit true path v t = refl
one_edit false path v t = refl

-- a pair that can't be made in place makes another tree
marked_apart : (bytes : List ℕ) (adding : Bool) (path : Path) (v t : Tree) → (progress (edit_by adding ((path, v) ∷ [])) (in_place bytes t)).edited ≡ None → same_tree t (act_by adding path v t) ≡ false
marked_apart bytes adding path v t marked = go (same_tree t (act_by adding path v t)) refl
  where
    go : (b : Bool) → same_tree t (act_by adding path v t) ≡ b → same_tree t (act_by adding path v t) ≡ false
    go true e = absurd (none_some bytes (sym marked ∙ ap (λ p. p.edited) (one_pair adding path v (in_place bytes t) ∙ kept_progress bytes adding path v t e)))
    go false e = e

module _ (bytes : List ℕ) (adding : Bool) (path : Path) (v t : Tree) (out : List ℕ) (s : Stands bytes t) (h : IsReplaced t path v out) where
  put_is : edited (edit_by adding ((path, v) ∷ [])) t ≡ put_at h.ks v t
  put_is = one_edit adding path v t ∙ (put_positions adding path v t h.ks s.«tree» h.found).0

  encoding_is : out ≡ canonical (edited (edit_by adding ((path, v) ∷ [])) t)
  encoding_is = h.encoded ∙ ap canonical (sym put_is)

  edited_low : length path + depth v ≤ 100 → depth (edited (edit_by adding ((path, v) ∷ [])) t) ≤ 100
  edited_low low = subst (λ u. depth u ≤ 100) (sym (one_edit adding path v t)) (put_shallow adding path v t h.ks s.«tree» h.found s.nested low)

  pub replaced_answer : length path + depth v ≤ 100 → (progress (edit_by adding ((path, v) ∷ [])) (in_place bytes t)).edited ≡ None
      → (depth (edited (edit_by adding ((path, v) ∷ [])) t) ≤ 100) × (canonical_length (edited (edit_by adding ((path, v) ∷ [])) t) ≤ 16777216) × (out ≡ canonical (edited (edit_by adding ((path, v) ∷ [])) t))
  replaced_answer low marked =
      let e = edit_by adding ((path, v) ∷ []) in
      let size = measured_length (edited e t) in
      let long = ap length encoding_is in
      let fits = h.fits in
      (edited_low low, omega (arith, size, long, fits), encoding_is)

  pub replaced_stands : length path + depth v ≤ 100 → Stands out (edited (edit_by adding ((path, v) ∷ [])) t) × (length out ≤ 16777216)
  replaced_stands low =
      let u = edited (edit_by adding ((path, v) ∷ [])) t in
      let is : IsTree u = subst IsTree (sym put_is) (put_at_is h.ks v t h.is_tree s.«tree») in
      let long = ap length encoding_is in
      let fits = h.fits in
      (subst (λ b. Stands b u) (sym encoding_is) (canonical_stands u is (edited_low low) (omega (arith, long, fits))), fits)

-- ---- what is laid

-- the spelling of the tree with the value, behind its type byte
pub replaced_from : (path : Path) (v t : Tree) (ks : List ℕ) (whole : Spelling) (out : List ℕ) → IsTree v → positions path t ≡ Some ks → whole ≡ spelling (put_at ks v t) → out ≡ code_of whole.0 ∷ whole.1 → length out ≤ 16777216 → IsReplaced t path v out
replaced_from path v t ks whole out is found laid e fits = record {
  is_tree = is;
  ks = ks;
  found = found;
  encoded = e ∙ ap (λ w. code_of w.0 ∷ w.1) laid;
  fits = fits;
}

-- what holds of an answer's value by two facts, where there is one
pub on_both : {A E : Type 0} (P Q R : A → Type 0) (r : Result (Option A) E) → IfOk r (λ o. IfSome o P) → IfOk r (λ o. IfSome o Q) → ((x : A) → P x → Q x → R x) → IfOk r (λ o. IfSome o R)
on_both P Q R (Ok (Some x)) p q f = f x p q
on_both P Q R (Ok None) p q f = tt
on_both P Q R (Err e) p q f = tt

-- such an encoding is the plan of the pair
pub replaced_plan : (bytes : List ℕ) (adding : Bool) (path : Path) (v : Tree) (out : Vec ℕ Global) → ((t : Tree) → Stands bytes t → IsReplaced t path v out.items) → length path + depth v ≤ 100
    → ((t : Tree) → Stands bytes t → (progress (edit_by adding ((path, v) ∷ [])) (in_place bytes t)).edited ≡ None) → Plans bytes (edit_by adding ((path, v) ∷ [])) (Ok (planned.Full out))
replaced_plan bytes adding path v out made low marked =
    let e = edit_by adding ((path, v) ∷ []) in
    record {
      answer = λ t s. subst (λ ch. IsPlanFor ch (depth (edited e t)) (canonical_length (edited e t)) (planned.Full out))
          (sym (anew_full bytes t e (marked t s) (ap (same_tree t) (one_edit adding path v t) ∙ marked_apart bytes adding path v t (marked t s))))
          (replaced_answer bytes adding path v t out.items s (made t s) low (marked t s));
      stands = λ t s. tt;
      encoded = λ t s. replaced_stands bytes adding path v t out.items s (made t s) low;
    }

-- one pair alone
pub only_pair : (ps : List Pair) (p : Pair) → 1 ≤ length ps → length ps < 2 → p ≡ get_or ps 0 p → map assigned ps ≡ assigned p ∷ []
only_pair [] p some few is = absurd (omega (arith, some))
only_pair (q ∷ []) p some few is = ap (λ x. assigned x ∷ []) (sym is)
only_pair (q ∷ r ∷ ps) p some few is = absurd (omega (arith, few))
