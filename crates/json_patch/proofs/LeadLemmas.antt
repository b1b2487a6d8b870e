-- A path that is followed leg by leg: the legs left do from the value reached what the whole path does from the root.
use Rattle.std.proofs.Common.{◌≡◌, ℕ, Bool, true, false, List, [], ◌∷◌, ◌++◌, append-nil, Option, Some, None, is_some, option_map, option_and_then, refl, sym, ap, subst, ◌∙◌, inl, inr}
use Rattle.std.proofs.lemmas.List.{append_assoc}
use Rattle.tree_model.specs.Tree.{Tree, null, boolean, number, text, array, object, IsTree}
use Rattle.tree_model.specs.Path.{Leg, key, cell, last, Path, child as tree_child, with_child}
use Rattle.tree_model.specs.Edit.{at_parent, altered, added, set_at, taken_out, try_remove}
use Rattle.binary_model.specs.Layout as layout
use Rattle.binary_model.specs.Layout.{container_at, child}
use Rattle.binary_model.specs.Stands.{IsValue}
use Rattle.binary_model.specs.Change.{position_of, positions, at_holder}
use Rattle.binary_model.proofs.in_place.PositionLemmas.{leg_step, step_is}
use Rattle.json_binary.specs.declared.cursor.place.Spot.{Spot}
use Rattle.json_binary.specs.declared.cursor.place.Container.{Container}
use Rattle.json_binary.specs.Place.{spot_of}
use Rattle.json_patch.specs.declared.lead.Place.{Place}
use Rattle.json_patch.specs.declared.lead.End.{End}
use Rattle.json_patch.specs.declared.lead.End.TheVariants as end
use Rattle.json_patch.specs.declared.lead.Led.{Led}
use Rattle.json_patch.specs.declared.lead.Entered.TheVariants.{Itself}
use Rattle.json_patch.specs.Led.{IsEntered, EntersValue, takes, staying, ActsThere, EndsAt, EndsInside, IsLed}
use Rattle.binary_model.proofs.in_place.AgainLemmas.{HasMembers}
use Rattle.json_patch.proofs.PlaceLemmas.{Holder, holder, none_at, stays_at, enters_at}
use Rattle.json_patch.proofs.OutLemmas.{nothing_out, set_added}

-- ---- what legs do from a value

-- the legs left edit where the whole path does; at the end of the path it is known whether it takes a value out
abbrev EditsOn : Path → Tree → Path → Tree → End → Type 0
EditsOn path t [] here e = is_some (try_remove path t) ≡ takes e
EditsOn path t (l ∷ ls) here e = (root : Option Tree) (act : Tree → Leg → Option Tree) → is_some (altered root act path t) ≡ is_some (at_parent act l ls here)

abbrev EndsSoFar : List ℕ → List ℕ → End → Type 0
EndsSoFar bytes ks end.Root = ks ≡ []
EndsSoFar bytes ks (end.Value p) = ActsThere bytes ks p
EndsSoFar bytes ks (end.Nothing adds) = ⊥

-- the value here stands at the spot, and so many positions were entered on the way to it
pub record Walk (bytes : List ℕ) (t : Tree) (path left : Path) (ks : List ℕ) (s : layout.Spot) (e : End) : Type 0 where
  pub here : Tree
  pub is : IsTree here
  pub value : IsValue bytes here s
  pub enters : positions path t ≡ option_map (λ js. ks ++ js) (positions left here)
  pub acts : (act : layout.Container → ℕ → Option (List ℕ)) (j : ℕ) (js : List ℕ) → at_holder bytes act (layout.root bytes) (ks ++ j ∷ js) ≡ at_holder bytes act s (j ∷ js)
  pub edits : EditsOn path t left here e
  pub ends : EndsSoFar bytes ks e

mapped_itself : (o : Option (List ℕ)) → option_map (λ ks. [] ++ ks) o ≡ o
mapped_itself None = refl
mapped_itself (Some ks) = refl

mapped_some : {X Y : Type 0} (f : X → Y) (o : Option X) → is_some (option_map f o) ≡ is_some o
mapped_some f None = refl
mapped_some f (Some x) = refl

starts : (path : Path) (t : Tree) → EditsOn path t path t end.Root
starts [] t = refl
starts (l ∷ ls) t = λ root act. refl

pub walk_start : (bytes : List ℕ) (t : Tree) (path : Path) → IsTree t → IsValue bytes t (layout.root bytes) → Walk bytes t path path [] (layout.root bytes) end.Root
walk_start bytes t path is value = record {
  here = t;
  is = is;
  value = value;
  enters = sym (mapped_itself (positions path t));
  acts = λ act j js. refl;
  edits = starts path t;
  ends = refl;
}

-- ---- a leg that stays

below : (here v : Tree) (l m : Leg) (ls : Path) (act : Tree → Leg → Option Tree) → tree_child here l ≡ Some v → is_some (at_parent act l (m ∷ ls) here) ≡ is_some (at_parent act m ls v)
below here v l m ls act e =
    ap (λ o. is_some (option_map (with_child here l) (option_and_then (at_parent act m ls) o))) e ∙ mapped_some (with_child here l) (at_parent act m ls v)

none_taken : (e : End) → takes (staying e) ≡ false
none_taken end.Root = refl
none_taken (end.Value p) = refl
none_taken (end.Nothing adds) = refl

edits_itself : (path : Path) (t here : Tree) (l : Leg) (ls : Path) (e : End) → IsTree here → tree_child here l ≡ Some here → position_of here l ≡ [] → EditsOn path t (l ∷ ls) here e → EditsOn path t ls here (staying e)
edits_itself path t here l [] e is at none h = h None taken_out ∙ ap is_some (stays_at here l (leg_step here l here is at) none).3 ∙ sym (none_taken e)
edits_itself path t here l (m ∷ ls) e is at none h = λ root act. h root act ∙ below here here l m ls act at

ends_itself : (bytes ks : List ℕ) (e : End) → EndsSoFar bytes ks e → EndsSoFar bytes ks (staying e)
ends_itself bytes ks end.Root h = h
ends_itself bytes ks (end.Value p) h = record { kid = h.kid; acts = h.acts }
ends_itself bytes ks (end.Nothing adds) h = absurd h

itself_entered : (here : Tree) (l : Leg) (ls : Path) → tree_child here l ≡ Some here → position_of here l ≡ [] → positions (l ∷ ls) here ≡ positions ls here
itself_entered here l ls at none =
    ap (option_and_then (λ v. option_map (λ ks. position_of here l ++ ks) (positions ls v))) at
    ∙ ap (λ js. option_map (λ ks. js ++ ks) (positions ls here)) none ∙ mapped_itself (positions ls here)

-- past a leg that stays, the walk is at the same spot, and a removal takes nothing out there
pub walk_itself : (bytes : List ℕ) (t : Tree) (path : Path) (l : Leg) (ls : Path) (ks : List ℕ) (s : layout.Spot) (e : End) → Walk bytes t path (l ∷ ls) ks s e
    → ((v : Tree) → IsTree v → IsValue bytes v s → IsEntered bytes s v l Itself) → Walk bytes t path ls ks s (staying e)
walk_itself bytes t path l ls ks s e w h =
    let (at, none) = h w.here w.is w.value in
    record {
      here = w.here;
      is = w.is;
      value = w.value;
      enters = w.enters ∙ ap (option_map (λ js. ks ++ js)) (itself_entered w.here l ls at none);
      acts = w.acts;
      edits = edits_itself path t w.here l ls e w.is at none w.edits;
      ends = ends_itself bytes ks e w.ends;
    }

-- behind a leg that stays, the value at the end still lies within the bytes
pub inside_itself : (bytes : List ℕ) (e : End) → EndsInside bytes e → EndsInside bytes (staying e)
inside_itself bytes end.Root h = h
inside_itself bytes (end.Value p) h = h
inside_itself bytes (end.Nothing adds) h = h

-- ---- a leg that enters a value

joined : (before : List ℕ) (k : ℕ) (o : Option (List ℕ)) → option_map (λ js. before ++ js) (option_map (λ js. (k ∷ []) ++ js) o) ≡ option_map (λ js. (before ++ k ∷ []) ++ js) o
joined before k None = refl
joined before k (Some ks) = ap Some (sym (append_assoc before (k ∷ []) ks))

edits_value : (path : Path) (t here v : Tree) (l : Leg) (ls : Path) (k : ℕ) (e : End) (p : Place) → IsTree here → tree_child here l ≡ Some v → position_of here l ≡ k ∷ [] → p.taken ≡ true → EditsOn path t (l ∷ ls) here e
    → EditsOn path t ls v (end.Value p)
edits_value path t here v l [] k e p is at position taken h = h None taken_out ∙ ap is_some (enters_at here l v k (leg_step here l v is at) position).out ∙ sym taken
edits_value path t here v l (m ∷ ls) k e p is at position taken h = λ root act. h root act ∙ below here v l m ls act at

-- past a leg that enters a value, the walk is at that value's spot, with its position behind the
-- others
pub walk_value : (bytes : List ℕ) (t : Tree) (path : Path) (l : Leg) (ls : Path) (ks : List ℕ) (s : layout.Spot) (e : End) (c : Container) (k : ℕ) (u : Spot) → Walk bytes t path (l ∷ ls) ks s e
    → ((v : Tree) → IsTree v → IsValue bytes v s → EntersValue bytes s v l c k u) → Walk bytes t path ls (ks ++ k ∷ []) (spot_of u) (end.Value (record { container = c; number = k; spot = u; taken = true }))
walk_value bytes t path l ls ks s e c k u w h =
    let n = h w.here w.is w.value in
    let step = leg_step w.here l n.value w.is n.found in
    record {
      here = n.value;
      is = step_is w.here l n.value w.is step;
      value = n.stands;
      enters = w.enters
          ∙ ap (option_map (λ js. ks ++ js)) (ap (option_and_then (λ v. option_map (λ js. position_of w.here l ++ js) (positions ls v))) n.found ∙ ap (λ js. option_map (λ is. js ++ is) (positions ls n.value)) n.position)
          ∙ joined ks k (positions ls n.value);
      acts = λ act j js. ap (at_holder bytes act (layout.root bytes)) (append_assoc ks (k ∷ []) (j ∷ js)) ∙ w.acts act k (j ∷ js)
          ∙ ap (option_and_then (λ d. at_holder bytes act (child bytes d k) (j ∷ js))) n.is ∙ ap (λ v. at_holder bytes act v (j ∷ js)) (sym n.kid.spot);
      edits = edits_value path t w.here n.value l ls k e _ w.is n.found n.position refl w.edits;
      ends = record { kid = n.kid; acts = λ act. w.acts act k [] ∙ ap (option_and_then (λ d. act d k)) n.is };
    }

-- ---- a leg that finds nothing

nothing_removed : (here : Tree) (l : Leg) (ls : Path) → tree_child here l ≡ None → is_some (at_parent taken_out l ls here) ≡ false
nothing_removed here l [] e = ap is_some (nothing_out here l e)
nothing_removed here l (m ∷ ls) e = ap (λ o. is_some (option_map (with_child here l) (option_and_then (at_parent taken_out m ls) o))) e

-- where the next leg finds nothing, so does the path, and a set by it adds a value if one by the
-- legs left does
pub walk_nothing : (bytes : List ℕ) (t : Tree) (path : Path) (l : Leg) (ls : Path) (ks : List ℕ) (s : layout.Spot) (e : End) (adds : Bool) (led : Led) → Walk bytes t path (l ∷ ls) ks s e
    → ((v : Tree) → IsTree v → IsValue bytes v s → tree_child v l ≡ None) → ((v u : Tree) → IsValue bytes v s → tree_child v l ≡ None → is_some (at_parent (set_at u) l ls v) ≡ adds)
    → led.end ≡ end.Nothing adds → IsLed bytes t path led
walk_nothing bytes t path l ls ks s e adds led w h more ends =
    let none = h w.here w.is w.value in
    let nowhere : positions path t ≡ None = w.enters ∙ ap (λ o. option_map (λ js. ks ++ js) (option_and_then (λ v. option_map (λ js. position_of w.here l ++ js) (positions ls v)) o)) none in
    record {
      ends = subst (EndsAt bytes t path led.positions.items) (sym ends) (nowhere, λ u. w.edits (Some u) (set_at u) ∙ more w.here u w.value none);
      removal = w.edits None taken_out ∙ nothing_removed w.here l ls none ∙ ap takes (sym ends);
    }

-- ---- the end of the path

ended : (bytes : List ℕ) (t : Tree) (path : Path) (ks : List ℕ) (e : End) → positions path t ≡ Some (ks ++ []) → EndsSoFar bytes ks e → EndsAt bytes t path ks e
ended bytes t path ks end.Root at h = at ∙ ap (λ js. Some (js ++ [])) h
ended bytes t path ks (end.Value p) at h = (at ∙ ap Some (append-nil ks), h)
ended bytes t path ks (end.Nothing adds) at h = absurd h

pub walk_end : (bytes : List ℕ) (t : Tree) (path : Path) (s : layout.Spot) (led : Led) → Walk bytes t path [] led.positions.items s led.end → IsLed bytes t path led
walk_end bytes t path s led w = record { ends = ended bytes t path led.positions.items led.end w.enters w.ends; removal = w.edits }

-- by an equal path, at the end that it is
pub led_to : (bytes : List ℕ) (t : Tree) (ls path : Path) (led : Led) (e : End) → IsLed bytes t ls led → ls ≡ path → led.end ≡ e → EndsAt bytes t path led.positions.items e × (is_some (try_remove path t) ≡ takes e)
led_to bytes t ls path led e h same at = (
  subst (EndsAt bytes t path led.positions.items) at (subst (λ ls. EndsAt bytes t ls led.positions.items led.end) same h.ends),
  sym (ap (λ ls. is_some (try_remove ls t)) same) ∙ h.removal ∙ ap takes at,
)

-- ---- what a set adds where a leg finds nothing

-- a set adds nothing where a leg that isn't the path's last one finds nothing
pub more_behind : (t u : Tree) (l m : Leg) (ls : Path) → tree_child t l ≡ None → is_some (at_parent (set_at u) l (m ∷ ls) t) ≡ false
more_behind t u l m ls e = ap (λ o. is_some (option_map (with_child t l) (option_and_then (at_parent (set_at u) m ls) o))) e

cell_added : (t u : Tree) (n : ℕ) → is_some (added u t (cell n)) ≡ true
cell_added null u n = refl
cell_added (boolean b) u n = refl
cell_added (number z) u n = refl
cell_added (text x) u n = refl
cell_added (array ts) u n = refl
cell_added (object ms) u n = refl

last_added : (t u : Tree) (n : ℕ) → is_some (added u t (last n)) ≡ false
last_added null u n = refl
last_added (boolean b) u n = refl
last_added (number z) u n = refl
last_added (text x) u n = refl
last_added (array ts) u n = refl
last_added (object ms) u n = refl

pub cell_adds : (t u : Tree) (n : ℕ) → tree_child t (cell n) ≡ None → is_some (at_parent (set_at u) (cell n) [] t) ≡ true
cell_adds t u n e = ap is_some (set_added u t (cell n) e) ∙ cell_added t u n

pub last_adds : (t u : Tree) (n : ℕ) → tree_child t (last n) ≡ None → is_some (at_parent (set_at u) (last n) [] t) ≡ false
last_adds t u n e = ap is_some (set_added u t (last n) e) ∙ last_added t u n

pub key_adds : (bytes : List ℕ) (t u : Tree) (s : layout.Spot) (d : layout.Container) (k : List ℕ) → IsValue bytes t s → container_at bytes s ≡ Some d → tree_child t (key k) ≡ None → is_some (at_parent (set_at u) (key k) [] t) ≡ d.is_object
key_adds bytes t u s d k v is e = ap is_some (set_added u t (key k) e) ∙ by_holder t (holder bytes t s d v is)
  where
    by_holder : (t : Tree) → Holder bytes s d t → is_some (added u t (key k)) ≡ d.is_object
    by_holder t (inl (ts, same, h)) = ap (λ t. is_some (added u t (key k))) same ∙ sym h.0
    by_holder t (inr (ms, same, h)) = ap (λ t. is_some (added u t (key k))) same ∙ sym h.0

pub scalar_adds : (bytes : List ℕ) (t u : Tree) (s : layout.Spot) (k : List ℕ) → IsValue bytes t s → container_at bytes s ≡ None → tree_child t (key k) ≡ None → is_some (at_parent (set_at u) (key k) [] t) ≡ false
scalar_adds bytes t u s k v is e = ap is_some (set_added u t (key k) e) ∙ by_tree t v
  where
    by_tree : (t : Tree) → IsValue bytes t s → is_some (added u t (key k)) ≡ false
    by_tree null v = refl
    by_tree (boolean b) v = refl
    by_tree (number z) v = refl
    by_tree (text x) v = refl
    by_tree (array ts) v = refl
    by_tree (object ms) v = absurd (none_at (HasMembers bytes s.limit ms) (container_at bytes s) is v)
