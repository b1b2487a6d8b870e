-- What a pair makes of bytes that stand for a tree, and of a draft.
use Rattle.std.proofs.Common.{◌≡◌, ℕ, ◌+◌, ◌≤◌, ◌<◌, Bool, true, false, ◌||◌, List, [], ◌∷◌, ◌++◌, length, map, Option, Some, None, is_some, true≢false, option_map, option_and_then, unwrap_or, refl, sym, ap, subst, ◌∙◌, arith, cond, if◌then◌else◌}
use Rattle.tree_model.specs.Tree.{Tree, IsTree, depth}
use Rattle.tree_model.specs.Path.{Leg, Path, child as tree_child, with_child}
use Rattle.tree_model.specs.Same.{same_tree}
use Rattle.tree_model.specs.Edit.{at_parent, replaced, try_set, set, replace}
use Rattle.tree_model.proofs.SameLemmas.{tree_equal, tree_itself}
use Rattle.binary_model.specs.Layout as layout
use Rattle.binary_model.specs.Stands.{IsValue, Stands}
use Rattle.binary_model.specs.Canonical.{spelling}
use Rattle.binary_model.specs.Change.{SetsTrees, position_of, positions, at_holder, with_value, Progress, step, replaced_by, progress, runs}
use Rattle.binary_model.proofs.in_place.LiftLemmas.{Reaches}
use Rattle.binary_model.proofs.in_place.PositionLemmas.{put_at, set_positions, replace_positions}
use Rattle.json_binary.specs.Place.{container_of}
use Rattle.json_patch.specs.declared.draft.Draft.{Draft}
use Rattle.json_patch.specs.declared.parts.Parts.{Parts as Changed}
use Rattle.json_patch.specs.View.{runs_of}
use Rattle.json_patch.specs.declared.lead.Place.{Place}
use Rattle.json_patch.specs.declared.writes.Write.{Write}
use Rattle.json_patch.specs.declared.pair.Made.TheVariants.{Kept, Anew}
use Rattle.json_patch.specs.Writes.{put_writes, AreWrites}
use Rattle.json_patch.specs.Led.{ActsThere}
use Rattle.json_patch.specs.Touched.{weight, DifferWithin}
use Rattle.json_patch.specs.Made.{edit_by, act_by, in_place, StandFor, Makes, Puts, putting}
use Rattle.json_patch.specs.Draft.{IsDraft, IsPairPut}
use Rattle.json_patch.proofs.PlanLemmas.{stands_on, writes_length, LeadsBack, LeadsOn}
use Rattle.json_patch.proofs.OutLemmas.{set_heavier}
use Rattle.json_patch.proofs.SingleLemmas.{value_at, step_same, step_other, same_put, put_deep, few_entered, none_some, place_found}
use Rattle.json_patch.proofs.WithinLemmas.{within_put}

-- ---- one pair's edit, adding or not

-- a pair puts its value at the positions
pub put_positions : (adding : Bool) (path : Path) (v u : Tree) (ks : List ℕ) → IsTree u → positions path u ≡ Some ks → (act_by adding path v u ≡ put_at ks v u) × Reaches ks u
put_positions true path v u ks is e = set_positions path v u ks is e
put_positions false path v u ks is e = replace_positions path v u ks is e

-- the definition by one pair
pub one_pair : (adding : Bool) (path : Path) (v : Tree) (p : Progress) → progress (edit_by adding ((path, v) ∷ [])) p ≡ replaced_by (act_by adding) path v p
one_pair true path v p = refl
one_pair false path v p = refl

sets_tree : (adding : Bool) (path : Path) (v : Tree) → IsTree v → SetsTrees (edit_by adding ((path, v) ∷ []))
sets_tree true path v is = (is, tt)
sets_tree false path v is = (is, tt)

-- ---- what a pair makes of bytes that stand for a tree

-- what acts where the path leads
put_there : (bytes : List ℕ) (path : Path) (v u : Tree) (ks : List ℕ) → positions path u ≡ Some ks → putting path v u bytes ≡ at_holder bytes (with_value bytes (spelling v)) (layout.root bytes) ks
put_there bytes path v u ks at = ap (option_and_then (at_holder bytes (with_value bytes (spelling v)) (layout.root bytes))) at

module _ (bytes : List ℕ) (adding : Bool) (path : Path) (v u : Tree) (h : StandFor bytes u) where
  -- the path finds the root
  same_root : positions path u ≡ Some [] → same_tree u (act_by adding path v u) ≡ same_tree u v
  same_root at = ap (same_tree u) (put_positions adding path v u [] h.is at).0

  pub root_kept : positions path u ≡ Some [] → same_tree u v ≡ true → Makes bytes u adding path v Kept
  root_kept at same = same_root at ∙ same

  pub root_anew : positions path u ≡ Some [] → same_tree u v ≡ false → Makes bytes u adding path v Anew
  root_anew at apart = (same_root at ∙ apart, put_there bytes path v u [] at)

  -- it finds a container's value
  module _ (ks : List ℕ) (p : Place) (at : positions path u ≡ Some ks) (a : ActsThere bytes ks p) where
    same_there : same_tree u (act_by adding path v u) ≡ same_tree (value_at ks u) v
    same_there = let put = put_positions adding path v u ks h.is at in ap (same_tree u) put.0 ∙ same_put ks v u put.1

    -- which stands at its spot
    pub value_there : IsValue bytes (value_at ks u) (layout.child bytes (container_of p.container) p.number)
    value_there = (place_found bytes u path ks p h.is h.value at a).there

    made_there : (o : Option (List ℕ)) → with_value bytes (spelling v) (container_of p.container) p.number ≡ o → putting path v u bytes ≡ o
    made_there o made = put_there bytes path v u ks at ∙ a.acts (with_value bytes (spelling v)) ∙ made

    pub value_kept : same_tree (value_at ks u) v ≡ true → Makes bytes u adding path v Kept
    value_kept same = same_there ∙ same

    pub value_anew : same_tree (value_at ks u) v ≡ false → with_value bytes (spelling v) (container_of p.container) p.number ≡ None → Makes bytes u adding path v Anew
    value_anew apart none = (same_there ∙ apart, made_there None none)

    pub value_put : (ws : List Write) → same_tree (value_at ks u) v ≡ false → IsTree v → AreWrites bytes (with_value bytes (spelling v) (container_of p.container) p.number) ws → Puts bytes u adding path v ks ws
    value_put ws apart is w = record {
      other = same_there ∙ apart;
      is = is;
      at = at;
      writes = record { made = made_there (Some (put_writes ws bytes)) w.made; inside = w.inside; rising = w.rising };
    }

-- ---- where the path finds nothing

none_mapped : {X Y : Type 0} (f : X → Y) (o : Option X) → option_map f o ≡ None → o ≡ None
none_mapped f None e = refl
none_mapped f (Some x) e = absurd (none_some (f x) (sym e))

nowhere_step : (v t : Tree) (l : Leg) (o : Option Tree) → option_and_then (λ w. option_map (λ ks. position_of t l ++ ks) (Some [])) o ≡ None → (if is_some o then Some (with_child t l v) else None) ≡ None
nowhere_step v t l None e = refl
nowhere_step v t l (Some w) e = absurd (none_some (position_of t l ++ []) (sym e))

nowhere_below : (v t : Tree) (l m : Leg) (ls : Path) → ((w : Tree) → positions (m ∷ ls) w ≡ None → at_parent (replaced v) m ls w ≡ None) → (o : Option Tree)
    → option_and_then (λ w. option_map (λ ks. position_of t l ++ ks) (positions (m ∷ ls) w)) o ≡ None → option_map (with_child t l) (option_and_then (at_parent (replaced v) m ls) o) ≡ None
nowhere_below v t l m ls again None e = refl
nowhere_below v t l m ls again (Some w) e = ap (option_map (with_child t l)) (again w (none_mapped (λ ks. position_of t l ++ ks) (positions (m ∷ ls) w) e))

replaced_nowhere : (v t : Tree) (l : Leg) (ls : Path) → positions (l ∷ ls) t ≡ None → at_parent (replaced v) l ls t ≡ None
replaced_nowhere v t l [] e = nowhere_step v t l (tree_child t l) e
replaced_nowhere v t l (m ∷ ls) e = nowhere_below v t l m ls (λ w h. replaced_nowhere v w m ls h) (tree_child t l) e

pub replace_nowhere : (path : Path) (v t : Tree) → positions path t ≡ None → replace path v t ≡ t
replace_nowhere [] v t e = absurd (none_some [] (sym e))
replace_nowhere (l ∷ ls) v t e = ap (λ o. unwrap_or o t) (replaced_nowhere v t l ls e)

heavier_apart : (t u : Tree) → weight t < weight u → same_tree t u ≡ false
heavier_apart t u low = go (same_tree t u) refl
  where
    go : (b : Bool) → same_tree t u ≡ b → same_tree t u ≡ false
    go true e = let same = ap weight (tree_equal t u e) in absurd (omega (arith, low, same))
    go false e = e

-- the tree with a value added is another one
added_apart : (path : Path) (v u : Tree) (o : Option Tree) → IsTree u → positions path u ≡ None → try_set path v u ≡ o → is_some o ≡ true → same_tree u (set path v u) ≡ false
added_apart path v u None is nowhere made some = absurd (true≢false (sym some))
added_apart path v u (Some w) is nowhere made some = ap (λ o. same_tree u (unwrap_or o u)) made ∙ heavier_apart u w (set_heavier path v u w is nowhere made)

none_is : (o : Option Tree) → is_some o ≡ false → o ≡ None
none_is None e = refl
none_is (Some w) e = absurd (true≢false e)

module _ (bytes : List ℕ) (path : Path) (v u : Tree) (adds : Bool) (h : StandFor bytes u) (nowhere : positions path u ≡ None) (at : (w : Tree) → is_some (try_set path w u) ≡ adds) where
  pub added_anew : adds ≡ true → Makes bytes u true path v Anew
  added_anew so = (added_apart path v u (try_set path v u) h.is nowhere refl (at v ∙ so), ap (option_and_then (at_holder bytes (with_value bytes (spelling v)) (layout.root bytes))) nowhere)

  pub nothing_added : adds ≡ false → Makes bytes u true path v Kept
  nothing_added so = ap (λ o. same_tree u (unwrap_or o u)) (none_is (try_set path v u) (at v ∙ so)) ∙ tree_itself u

-- a replacement at a path that leads to no value keeps the tree
pub nothing_replaced : (bytes : List ℕ) (path : Path) (v u : Tree) → positions path u ≡ None → Makes bytes u false path v Kept
nothing_replaced bytes path v u nowhere = ap (same_tree u) (replace_nowhere path v u nowhere) ∙ tree_itself u

-- ---- what it makes of a draft

neither : (a b : Bool) → (a || b) ≡ false → (a ≡ false) × (b ≡ false)
neither true b e = absurd (true≢false e)
neither false b e = (refl, e)

-- the definition's progress by one pair
pub kept_progress : (bytes : List ℕ) (adding : Bool) (path : Path) (v u : Tree) → same_tree u (act_by adding path v u) ≡ true → replaced_by (act_by adding) path v (in_place bytes u) ≡ in_place bytes u
kept_progress bytes adding path v u h = step_same (putting path v u) (act_by adding path v u) (in_place bytes u) h

pub other_progress : (bytes : List ℕ) (adding : Bool) (path : Path) (v u : Tree) (o : Option (List ℕ)) → same_tree u (act_by adding path v u) ≡ false → putting path v u bytes ≡ o
    → replaced_by (act_by adding) path v (in_place bytes u) ≡ record { «tree» = act_by adding path v u; edited = o }
other_progress bytes adding path v u o h made = step_other (putting path v u) (act_by adding path v u) (in_place bytes u) h ∙ ap (λ o. record { «tree» = act_by adding path v u; edited = o }) made

-- bytes with the value in place stand for the tree with it
pub put_stands : (bytes new : List ℕ) (adding : Bool) (path : Path) (v u : Tree) → IsTree v → StandFor bytes u → replaced_by (act_by adding) path v (in_place bytes u) ≡ in_place new (act_by adding path v u) → StandFor new (act_by adding path v u)
put_stands bytes new adding path v u is h e =
    stands_on (edit_by adding ((path, v) ∷ [])) bytes new u (act_by adding path v u) (sets_tree adding path v is) h (one_pair adding path v (in_place bytes u) ∙ e)

-- and it is no deeper than it may be
pub put_shallow : (adding : Bool) (path : Path) (v u : Tree) (ks : List ℕ) → IsTree u → positions path u ≡ Some ks → depth u ≤ 100 → length path + depth v ≤ 100 → depth (act_by adding path v u) ≤ 100
put_shallow adding path v u ks is at low shallow =
    let put = put_positions adding path v u ks is at in
    let few : length ks ≤ length path = few_entered path u ks at in
    subst (λ w. depth w ≤ 100) (sym put.0) (put_deep ks v u 100 put.1 low (omega (arith, few, shallow)))

-- ---- the plan of one pair

module _ (bytes : List ℕ) (adding : Bool) (path : Path) (v t : Tree) where
  pub pair_back : Makes bytes t adding path v Kept → LeadsBack bytes (edit_by adding ((path, v) ∷ [])) t
  pair_back same = (bytes, t, one_pair adding path v (in_place bytes t) ∙ kept_progress bytes adding path v t same, tree_itself t)

  pub pair_off : Makes bytes t adding path v Anew → (progress (edit_by adding ((path, v) ∷ [])) (in_place bytes t)).edited ≡ None
  pair_off m = ap (λ p. p.edited) (one_pair adding path v (in_place bytes t) ∙ other_progress bytes adding path v t None m.0 m.1)

  pub pair_on : (ks : List ℕ) (ws : List Write) (parts : Changed) → Stands bytes t → StandFor bytes t → Puts bytes t adding path v ks ws → length path + depth v ≤ 100 → runs_of parts ≡ runs bytes (put_writes ws bytes)
      → LeadsOn bytes (edit_by adding ((path, v) ∷ [])) t parts
  pair_on ks ws parts s h m low parts_are =
      let made = other_progress bytes adding path v t (Some (put_writes ws bytes)) m.other m.writes.made in
      record {
        new = put_writes ws bytes;
        other = act_by adding path v t;
        leads = one_pair adding path v (in_place bytes t) ∙ made;
        apart = m.other;
        shallow = put_shallow adding path v t ks h.is m.at s.nested low;
        stands = put_stands bytes (put_writes ws bytes) adding path v t m.is h made;
        long = writes_length ws bytes m.writes.inside;
        parts_are = parts_are;
      }

-- ---- a draft

module _ (adding : Bool) (path : Path) (v t u : Tree) (d : Draft) (h : IsDraft t d u) where
  pub put_kept : Makes d.bytes.items u adding path v Kept → IsPairPut t (replaced_by (act_by adding) path v (in_place d.bytes.items u)) (Some d)
  put_kept same = subst (λ p. IsPairPut t p (Some d)) (sym (kept_progress d.bytes.items adding path v u same)) (refl, h)

  pub put_anew : Makes d.bytes.items u adding path v Anew → IsPairPut t (replaced_by (act_by adding) path v (in_place d.bytes.items u)) None
  put_anew m = ap (λ p. p.edited) (other_progress d.bytes.items adding path v u None m.0 m.1)

  pub put_written : (e : Draft) (deep : Bool) (ks : List ℕ) (ws : List Write) → Puts d.bytes.items u adding path v ks ws → e.bytes.items ≡ put_writes ws d.bytes.items
      → map (λ ks. ks.items) e.touched.items ≡ map (λ ks. ks.items) d.touched.items ++ ks ∷ [] → e.deep ≡ (d.deep || deep) → (deep ≡ false → length path + depth v ≤ 100)
      → IsPairPut t (replaced_by (act_by adding) path v (in_place d.bytes.items u)) (Some e)
  put_written e deep ks ws m new touched sank shallow =
      let put = put_positions adding path v u ks h.stands.is m.at in
      let made = other_progress d.bytes.items adding path v u (Some e.bytes.items) m.other (m.writes.made ∙ ap Some (sym new)) in
      subst (λ q. IsPairPut t q (Some e)) (sym made) (
        refl,
        record {
          stands = put_stands d.bytes.items e.bytes.items adding path v u m.is h.stands made;
          within = subst (λ places. DifferWithin places t (act_by adding path v u)) (sym touched)
              (subst (DifferWithin (map (λ ks. ks.items) d.touched.items ++ ks ∷ []) t) (sym put.0) (within_put (map (λ ks. ks.items) d.touched.items) ks v t u put.1 h.within));
          nested = λ up. let both = neither d.deep deep (sym sank ∙ up) in put_shallow adding path v u ks h.stands.is m.at (h.nested both.0) (shallow both.1);
        },
      )

-- ---- all pairs

one_more : (adding : Bool) (path : Path) (v : Tree) (rest : List (Path × Tree)) (p : Progress) → progress (edit_by adding ((path, v) ∷ rest)) p ≡ progress (edit_by adding rest) (replaced_by (act_by adding) path v p)
one_more true path v rest p = refl
one_more false path v rest p = refl

step_marked : (edit : List ℕ → Option (List ℕ)) (after : Tree) (p : Progress) → p.edited ≡ None → (step edit after p).edited ≡ None
step_marked edit after p e = go (same_tree p.«tree» after)
  where
    go : (b : Bool) → (cond b p (record { «tree» = after; edited = option_and_then edit p.edited })).edited ≡ None
    go true = e
    go false = ap (option_and_then edit) e

pub marked_stays : (adding : Bool) (pairs : List (Path × Tree)) (p : Progress) → p.edited ≡ None → (progress (edit_by adding pairs) p).edited ≡ None
marked_stays true [] p e = e
marked_stays true (a ∷ rest) p e = marked_stays true rest (replaced_by set a.0 a.1 p) (step_marked (putting a.0 a.1 p.«tree») (set a.0 a.1 p.«tree») p e)
marked_stays false [] p e = e
marked_stays false (a ∷ rest) p e = marked_stays false rest (replaced_by replace a.0 a.1 p) (step_marked (putting a.0 a.1 p.«tree») (replace a.0 a.1 p.«tree») p e)

-- ---- from pair to pair

-- where the first pair is made in place, the pairs left lead on to what all of them lead to
pub put_on : (adding : Bool) (path : Path) (v : Tree) (rest whole : List (Path × Tree)) (bytes b : List ℕ) (u : Tree) (last : Progress) → whole ≡ (path, v) ∷ rest → progress (edit_by adding whole) (in_place bytes u) ≡ last
    → (replaced_by (act_by adding) path v (in_place bytes u)).edited ≡ Some b → progress (edit_by adding rest) (in_place b (replaced_by (act_by adding) path v (in_place bytes u)).«tree») ≡ last
put_on adding path v rest whole bytes b u last w h e =
    let q = replaced_by (act_by adding) path v (in_place bytes u) in
    ap (λ o. progress (edit_by adding rest) (record { «tree» = q.«tree»; edited = o })) (sym e) ∙ sym (one_more adding path v rest (in_place bytes u)) ∙ ap (λ ps. progress (edit_by adding ps) (in_place bytes u)) (sym w) ∙ h

-- where the first pair can't be made in place, the edit by all of them can't
pub put_off : (adding : Bool) (path : Path) (v : Tree) (rest whole : List (Path × Tree)) (bytes : List ℕ) (u : Tree) (last : Progress) → whole ≡ (path, v) ∷ rest → progress (edit_by adding whole) (in_place bytes u) ≡ last
    → (replaced_by (act_by adding) path v (in_place bytes u)).edited ≡ None → last.edited ≡ None
put_off adding path v rest whole bytes u last w h e =
    let q = replaced_by (act_by adding) path v (in_place bytes u) in
    ap (λ p. p.edited) (sym h ∙ ap (λ ps. progress (edit_by adding ps) (in_place bytes u)) w ∙ one_more adding path v rest (in_place bytes u)) ∙ marked_stays adding rest q e
