-- The bytes that a change in place leaves stand for the edited tree.
use Rattle.std.proofs.Common.{◌≡◌, ℕ, ◌≤◌, Bool, true, false, List, [], ◌∷◌, length, Option, Some, None, option_and_then, refl, sym, ap, subst, ◌∙◌, arith, cond, inl, inr}
use Rattle.tree_model.specs.Tree.{Tree, IsTree, depth}
use Rattle.tree_model.specs.Path.{Path}
use Rattle.tree_model.specs.Edit.{Edit, Set, Replace, Remove, set, replace, remove, edited}
use Rattle.tree_model.specs.Same.{same_tree}
use Rattle.tree_model.proofs.SameLemmas.{tree_itself}
use Rattle.binary_model.specs.Layout.{root, Container, value_end}
use Rattle.binary_model.specs.Stands.{IsBytes, IsValue, Stands, max_nested}
use Rattle.binary_model.specs.Canonical.{spelling, canonical}
use Rattle.binary_model.specs.Change.{positions, at_holder, with_value, without_value, edited_at, Run, runs, Progress, step, replaced_by, removed_by, all_replaced, all_removed, progress, HoldTrees, SetsTrees, Change, Same, Parts, Full, stored_as, change, put_all}
use Rattle.binary_model.proofs.runs.RunLemmas.{runs_applied}
use Rattle.binary_model.proofs.in_place.ChangeLemmas.{same_edits}
use Rattle.binary_model.proofs.in_place.ReplaceLemmas.{Lifted}
use Rattle.binary_model.proofs.in_place.KidsLemmas.{with_kid}
use Rattle.binary_model.proofs.in_place.LiftLemmas.{Acts, Reaches, changed_at, kid_replaced, lifted}
use Rattle.binary_model.proofs.in_place.RemoveLemmas.{without_kid, kid_removed}
use Rattle.binary_model.proofs.in_place.PositionLemmas.{put_at, put_changes, Removes, set_positions, replace_positions, remove_positions, put_at_is, taken_is}

-- the bytes stand for the tree, whatever its depth, and are as many as the old ones
pub record InPlace (old bytes : List ℕ) (t : Tree) : Type 0 where
  pub len : length old ≡ length bytes
  pub octets : IsBytes bytes
  pub is : IsTree t
  pub some : 1 ≤ length bytes
  pub value : IsValue bytes t (root bytes)
  pub whole : value_end bytes (root bytes) ≡ length bytes

-- bytes, while there are some, stand for the tree so far and are as many bytes as the old ones
abbrev pub Follows : List ℕ → Option (List ℕ) → Tree → Type 0
Follows old None t = Unit {0}
Follows old (Some bytes) t = InPlace old bytes t

at_root : (old bytes other : List ℕ) (t u : Tree) → InPlace old bytes t → IsTree u → Lifted bytes other u (root bytes) → InPlace old other u
at_root old bytes other t u p is l =
    let some = p.some in
    let len = l.len in
    record {
      len = p.len ∙ len;
      octets = l.octets;
      is = is;
      some = omega (arith, some, len);
      value = subst (λ n. IsValue other u (record { type_at = 0; at = 1; limit = n })) len l.value;
      whole = ap (λ n. value_end other (record { type_at = 0; at = 1; limit = n })) (sym len) ∙ l.ends ∙ p.whole ∙ len;
    }

-- ---- one pair

step_kept : (old : List ℕ) (edit : List ℕ → Option (List ℕ)) (after t : Tree) (o : Option (List ℕ)) → same_tree t after ≡ false → Follows old o t
    → ((bytes other : List ℕ) → InPlace old bytes t → edit bytes ≡ Some other → same_tree t after ≡ false → InPlace old other after) → Follows old (option_and_then edit o) after
step_kept old edit after t None e f h = tt
step_kept old edit after t (Some bytes) e f h = go (edit bytes) refl
  where
    go : (o : Option (List ℕ)) → edit bytes ≡ o → Follows old o after
    go None at = tt
    go (Some other) at = h bytes other f at e

abbrev FollowsIt : List ℕ → Progress → Type 0
FollowsIt old p = Follows old p.edited p.«tree»

stepped : (old : List ℕ) (edit : List ℕ → Option (List ℕ)) (after : Tree) (p : Progress) → FollowsIt old p
    → ((bytes other : List ℕ) → InPlace old bytes p.«tree» → edit bytes ≡ Some other → same_tree p.«tree» after ≡ false → InPlace old other after) → FollowsIt old (step edit after p)
stepped old edit after p f h = go (same_tree p.«tree» after) refl
  where
    go : (b : Bool) → same_tree p.«tree» after ≡ b → FollowsIt old (cond b p (record { «tree» = after; edited = option_and_then edit p.edited }))
    go true e = f
    go false e = step_kept old edit after p.«tree» p.edited e f h

-- at positions that lead into the tree
along : (old bytes other : List ℕ) (t : Tree) (act : List ℕ → Container → ℕ → Option (List ℕ)) (change : Tree → ℕ → Tree) (ks : List ℕ) → InPlace old bytes t → Acts bytes (act bytes) change → Reaches ks t
    → IsTree (changed_at change ks t) → at_holder bytes (act bytes) (root bytes) ks ≡ Some other → InPlace old other (changed_at change ks t)
along old bytes other t act change ks p acts reach is e =
    at_root old bytes other t (changed_at change ks t) p is (lifted bytes (act bytes) change acts ks t other (root bytes) p.value (omega arith) (omega arith) reach e)

abbrev Positioned : (Path → Tree → Tree → Tree) → Type 0
Positioned act = (path : Path) (u t : Tree) (ks : List ℕ) → IsTree t → positions path t ≡ Some ks → (act path u t ≡ put_at ks u t) × Reaches ks t

put_along : (old bytes other : List ℕ) (t u : Tree) (ks : List ℕ) → IsTree u → InPlace old bytes t → Reaches ks t → at_holder bytes (with_value bytes (spelling u)) (root bytes) ks ≡ Some other → InPlace old other (put_at ks u t)
put_along old bytes other t u [] is p reach e = let no : ⊥ = cc in absurd no
put_along old bytes other t u (k ∷ ks) is p reach e =
    subst (InPlace old other) (sym (put_changes k ks u t))
    (along old bytes other t (λ bytes. with_value bytes (spelling u)) (λ t n. with_kid t n u) (k ∷ ks) p (kid_replaced bytes u p.octets is) reach (subst IsTree (put_changes k ks u t) (put_at_is (k ∷ ks) u t is p.is)) e)

put_in_place : (act : Path → Tree → Tree → Tree) → Positioned act → (old bytes other : List ℕ) (t u : Tree) (path : Path) → IsTree u → InPlace old bytes t → (o : Option (List ℕ)) → positions path t ≡ o
    → option_and_then (at_holder bytes (with_value bytes (spelling u)) (root bytes)) o ≡ Some other → InPlace old other (act path u t)
put_in_place act at old bytes other t u path is p None f e = let no : ⊥ = cc in absurd no
put_in_place act at old bytes other t u path is p (Some ks) f e =
    let place = at path u t ks p.is f in
    subst (InPlace old other) (sym place.0) (put_along old bytes other t u ks is p place.1 e)

one_replaced : (act : Path → Tree → Tree → Tree) → Positioned act → (old : List ℕ) (path : Path) (u : Tree) (p : Progress) → IsTree u → FollowsIt old p → FollowsIt old (replaced_by act path u p)
one_replaced act at old path u p is f =
    stepped old (edited_at (λ bytes. with_value bytes (spelling u)) (positions path p.«tree»)) (act path u p.«tree») p f
    (λ bytes other g e apart. put_in_place act at old bytes other p.«tree» u path is g (positions path p.«tree») refl e)

out_along : (old bytes other : List ℕ) (t after : Tree) (ks : List ℕ) → InPlace old bytes t → Removes ks t after → same_tree t after ≡ false → at_holder bytes (without_value bytes) (root bytes) ks ≡ Some other → InPlace old other after
out_along old bytes other t after ks p (inl same, reach) apart e = let twice : same_tree t after ≡ true = ap (same_tree t) same ∙ tree_itself t in let no : ⊥ = cc in absurd no
out_along old bytes other t after ks p (inr out, reach) apart e =
    subst (InPlace old other) (sym out) (along old bytes other t without_value without_kid ks p (kid_removed bytes p.octets) reach (taken_is ks t p.is) e)

out_in_place : (old bytes other : List ℕ) (t : Tree) (path : Path) → InPlace old bytes t → same_tree t (remove path t) ≡ false → (o : Option (List ℕ)) → positions path t ≡ o
    → option_and_then (at_holder bytes (without_value bytes) (root bytes)) o ≡ Some other → InPlace old other (remove path t)
out_in_place old bytes other t path p apart None f e = let no : ⊥ = cc in absurd no
out_in_place old bytes other t path p apart (Some ks) f e = out_along old bytes other t (remove path t) ks p (remove_positions path t ks p.is f) apart e

one_removed : (old : List ℕ) (path : Path) (p : Progress) → FollowsIt old p → FollowsIt old (removed_by path p)
one_removed old path p f =
    stepped old (edited_at without_value (positions path p.«tree»)) (remove path p.«tree») p f
    (λ bytes other g e apart. out_in_place old bytes other p.«tree» path g apart (positions path p.«tree») refl e)

-- ---- all pairs

all_put : (act : Path → Tree → Tree → Tree) → Positioned act → (old : List ℕ) (pairs : List (Path × Tree)) (p : Progress) → HoldTrees pairs → FollowsIt old p → FollowsIt old (all_replaced act pairs p)
all_put act at old [] p h f = f
all_put act at old (a ∷ rest) p h f = all_put act at old rest (replaced_by act a.0 a.1 p) h.1 (one_replaced act at old a.0 a.1 p h.0 f)

all_out : (old : List ℕ) (paths : List Path) (p : Progress) → FollowsIt old p → FollowsIt old (all_removed paths p)
all_out old [] p f = f
all_out old (path ∷ rest) p f = all_out old rest (removed_by path p) (one_removed old path p f)

-- an edit keeps that
pub progress_follows : (old : List ℕ) (edit : Edit) (p : Progress) → SetsTrees edit → FollowsIt old p → FollowsIt old (progress edit p)
progress_follows old (Set pairs) p h f = all_put set set_positions old pairs p h f
progress_follows old (Replace pairs) p h f = all_put replace replace_positions old pairs p h f
progress_follows old (Remove paths) p h f = all_out old paths p f

-- ---- the change

abbrev StandAs : List ℕ → List Run → Tree → Type 0
StandAs bytes rs t = Stands (put_all rs bytes) t × (length (put_all rs bytes) ≡ length bytes)

from_runs : (bytes new : List ℕ) (rs : List Run) (t : Tree) → runs bytes new ≡ rs → depth t ≤ max_nested → InPlace bytes new t → StandAs bytes rs t
from_runs bytes new rs t e low p =
    let whole : put_all rs bytes ≡ new = ap (λ rs. put_all rs bytes) (sym e) ∙ runs_applied bytes new p.len in (
      subst (λ r. Stands r t) (sym whole) (record { «tree» = p.is; nested = low; some = p.some; value = p.value; whole = p.whole }),
      ap length whole ∙ sym p.len,
    )

from_stored : (bytes : List ℕ) (rs : List Run) (t : Tree) (o : Option (List ℕ)) → elim o [ None ↦ Full (canonical t) | Some new ↦ Parts (runs bytes new) ] ≡ Parts rs → depth t ≤ max_nested → Follows bytes o t → StandAs bytes rs t
from_stored bytes rs t None e low f = let no : ⊥ = cc in absurd no
from_stored bytes rs t (Some new) e low f = from_runs bytes new rs t (ap parts e) low f
  where
    parts : Change → List Run
    parts Same = []
    parts (Parts rs) = rs
    parts (Full new) = []

from_change : (bytes : List ℕ) (t : Tree) (rs : List Run) (p : Progress) (b : Bool) → cond b Same (stored_as bytes p) ≡ Parts rs → depth p.«tree» ≤ max_nested → FollowsIt bytes p → StandAs bytes rs p.«tree»
from_change bytes t rs p true e low f = let no : ⊥ = cc in absurd no
from_change bytes t rs p false e low f = from_stored bytes rs p.«tree» p.edited e low f

-- behind a change in place stand the edited tree's bytes, as many as before
pub edits_are : (bytes : List ℕ) (t : Tree) (edit : Edit) (rs : List Run) → IsBytes bytes → Stands bytes t → SetsTrees edit → depth (edited edit t) ≤ max_nested → change bytes t edit ≡ Parts rs → StandAs bytes rs (edited edit t)
edits_are bytes t edit rs octets s h low e =
    let first : Progress = record { «tree» = t; edited = Some bytes } in
    let start : FollowsIt bytes first = record { len = refl; octets = octets; is = s.«tree»; some = s.some; value = s.value; whole = s.whole } in
    let last = progress edit first in
    let same : last.«tree» ≡ edited edit t = same_edits edit first in
    subst (StandAs bytes rs) same (from_change bytes t rs last (same_tree t last.«tree») e (subst (λ u. depth u ≤ max_nested) (sym same) low) (progress_follows bytes edit first h start))

-- ---- the bytes behind a change in place are bytes

octets_from_stored : (bytes : List ℕ) (rs : List Run) (t : Tree) (o : Option (List ℕ)) → elim o [ None ↦ Full (canonical t) | Some new ↦ Parts (runs bytes new) ] ≡ Parts rs → Follows bytes o t → IsBytes (put_all rs bytes)
octets_from_stored bytes rs t None e f = let no : ⊥ = cc in absurd no
octets_from_stored bytes rs t (Some new) e f = subst IsBytes (sym (ap (λ rs. put_all rs bytes) (sym (ap parts e)) ∙ runs_applied bytes new f.len)) f.octets
  where
    parts : Change → List Run
    parts Same = []
    parts (Parts rs) = rs
    parts (Full new) = []

octets_from_change : (bytes : List ℕ) (rs : List Run) (p : Progress) (b : Bool) → cond b Same (stored_as bytes p) ≡ Parts rs → FollowsIt bytes p → IsBytes (put_all rs bytes)
octets_from_change bytes rs p true e f = let no : ⊥ = cc in absurd no
octets_from_change bytes rs p false e f = octets_from_stored bytes rs p.«tree» p.edited e f

-- what stands behind a change in place are bytes
pub edits_are_bytes : (bytes : List ℕ) (t : Tree) (edit : Edit) (rs : List Run) → IsBytes bytes → Stands bytes t → SetsTrees edit → change bytes t edit ≡ Parts rs → IsBytes (put_all rs bytes)
edits_are_bytes bytes t edit rs octets s h e =
    let first : Progress = record { «tree» = t; edited = Some bytes } in
    let start : FollowsIt bytes first = record { len = refl; octets = octets; is = s.«tree»; some = s.some; value = s.value; whole = s.whole } in
    let last = progress edit first in
    octets_from_change bytes rs last (same_tree t last.«tree») e (progress_follows bytes edit first h start)
