-- The value that positions lead to.
use Rattle.std.proofs.Common.{◌≡◌, ℕ, ◌<◌, List, ◌∷◌, map, slice_get, Option, Some, option_and_then, refl, sym, ap, subst, ◌∙◌, arith, inl, inr}
use Rattle.tree_model.specs.Tree.{Tree, tree_list, Members, no_members, member, member_list}
use Rattle.binary_model.specs.Layout as layout
use Rattle.binary_model.specs.Layout.{container_at, count, child}
use Rattle.binary_model.specs.Stands.{IsValue}
use Rattle.binary_model.proofs.reading.StandLemmas.{values, values_length}
use Rattle.binary_model.proofs.in_place.RefitLemmas.{nth}
use Rattle.json_binary.specs.declared.cursor.place.Spot.{Spot}
use Rattle.json_binary.specs.Place.{spot_of}
use Rattle.json_patch.specs.Led.{StandsFor}
use Rattle.json_patch.specs.Touched.{kids, value_at}
use Rattle.json_patch.proofs.RoomLemmas.{kid_stands}
use Rattle.json_patch.proofs.PlaceLemmas.{Holder, holder, elements_values, members_values, found_at}

values_list : (ms : Members) → map (λ m. m.1) (member_list ms) ≡ tree_list (values ms)
values_list no_members = refl
values_list (member k t ms) = ap (λ ts. t ∷ ts) (values_list ms)

-- the k-th value of a tree stands there, if it has one
abbrev KidAt : List ℕ → layout.Container → Tree → ℕ → Type 0
KidAt bytes d t k = (v : Tree) × (slice_get (kids t) k ≡ Some v) × IsValue bytes v (child bytes d k)

kid_at : (bytes : List ℕ) (t : Tree) (s : layout.Spot) (d : layout.Container) (k : ℕ) → Holder bytes s d t → k < count bytes d → KidAt bytes d t k
kid_at bytes t s d k (inl (ts, same, h)) low =
    let many = h.2 in
    subst (λ t. KidAt bytes d t k) (sym same) (nth ts k, found_at ts k (omega (arith, low, many)), kid_stands bytes d ts k (elements_values bytes s.limit ts d h) low)
kid_at bytes t s d k (inr (ms, same, h)) low =
    let many = h.2 ∙ values_length ms in
    subst (λ t. KidAt bytes d t k) (sym same)
    (nth (values ms) k, ap (λ ts. slice_get ts k) (values_list ms) ∙ found_at (values ms) k (omega (arith, low, many)), kid_stands bytes d (values ms) k (members_values bytes s.limit ms d h) low)

-- the spot that positions lead to from a container's k-th value is where k and they lead from the
-- container
pub inner_at : (bytes : List ℕ) (t : Tree) (s : layout.Spot) (d : layout.Container) (k : ℕ) (ks : List ℕ) (u : Spot) (found : Option Spot) → IsValue bytes t s → container_at bytes s ≡ Some d → k < count bytes d
    → spot_of u ≡ child bytes d k → ((v : Tree) → IsValue bytes v (spot_of u) → StandsFor bytes (value_at ks v) found) → StandsFor bytes (value_at (k ∷ ks) t) found
inner_at bytes t s d k ks u found v is low place h =
    let kid = kid_at bytes t s d k (holder bytes t s d v is) low in
    subst (λ o. StandsFor bytes (option_and_then (value_at ks) o) found) (sym kid.1) (h kid.0 (subst (IsValue bytes kid.0) (sym place) kid.2))
