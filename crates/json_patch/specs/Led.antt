-- Where a path leads in place.
--     IsNumber      the number that one leg finds in a container
--     IsEntered      what one leg enters
--     IsPlace      a value in its container, which a path leads to
--     IsLed      what a path leads to
--     StandsFor      the value that positions lead to
use Rattle.std.specs.Prelude.{◌≡◌, ◌<◌, ℕ, Bool, true, false, List, [], ◌∷◌, length, map, Option, Some, None, is_some}
use Rattle.tree_model.specs.Tree.{Tree, Members, member_list, get, AreMembers}
use Rattle.tree_model.specs.Path.{Leg, Path, key, child}
use Rattle.tree_model.specs.Edit.{try_set, try_remove}
use Rattle.binary_model.specs.Layout as layout
use Rattle.binary_model.specs.Layout.{count, key_of}
use Rattle.binary_model.specs.Stands.{IsValue, AreKeys}
use Rattle.binary_model.specs.Change.{position_of, positions, at_holder}
use Rattle.json_edit.specs.Places.{place_in}
use Rattle.json_binary.specs.declared.cursor.place.Container.{Container}
use Rattle.json_binary.specs.declared.cursor.place.Spot.{Spot}
use Rattle.json_binary.specs.Place.{container_of, spot_of, IsInside}
use Rattle.json_patch.specs.Stand.{HasValues}
use Rattle.json_patch.specs.declared.lead.Place.{Place}
use Rattle.json_patch.specs.declared.lead.End.{End}
use Rattle.json_patch.specs.declared.lead.End.TheVariants as end
use Rattle.json_patch.specs.declared.lead.Led.{Led}
use Rattle.json_patch.specs.declared.lead.Entered.{Entered}
use Rattle.json_patch.specs.declared.lead.Entered.TheVariants.{Nothing, Itself, Value}

-- ---- one leg

abbrev pub keys_in : Members → List (List ℕ)
keys_in ms = map (λ m. m.0) (member_list ms)

-- the object's keys are those of the members
pub record HasKeys (bytes : List ℕ) (d : layout.Container) (ms : Members) : Type 0 where
  pub floor : ℕ
  pub members : AreMembers (member_list ms)
  pub keys : AreKeys bytes d 0 floor (keys_in ms)
  pub number : length (keys_in ms) ≡ count bytes d

-- the number of the member that a leg finds in an object, which has no other with that key
abbrev pub IsMember : List ℕ → layout.Container → Leg → Option ℕ → Type 0
IsMember bytes d (key k) None = (ms : Members) → HasKeys bytes d ms → get k ms ≡ None
IsMember bytes d (key k) (Some n) = (n < count bytes d) × (key_of bytes d n ≡ k)
IsMember bytes d l found = found ≡ None

-- the number of the value that a leg finds in a container
pub record IsNumber (bytes : List ℕ) (d : layout.Container) (l : Leg) (found : Option ℕ) : Type
    0 where
  pub element : d.is_object ≡ false → place_in (count bytes d) l ≡ found
  pub member : d.is_object ≡ true → IsMember bytes d l found

-- the spot is that of a container's k-th value
pub record IsKid (bytes : List ℕ) (c : Container) (k : ℕ) (u : Spot) : Type 0 where
  pub values : HasValues bytes c
  pub low : k < count bytes (container_of c)
  pub spot : spot_of u ≡ layout.child bytes (container_of c) k

-- the leg leads from the tree, a container at the spot s, to its k-th value
pub record EntersValue (bytes : List ℕ) (s : layout.Spot) (t : Tree) (l : Leg) (c : Container)
    (k : ℕ) (u : Spot) : Type 0 where
  pub is : layout.container_at bytes s ≡ Some (container_of c)
  pub kid : IsKid bytes c k u
  pub position : position_of t l ≡ k ∷ []
  pub value : Tree
  pub found : child t l ≡ Some value
  pub stands : IsValue bytes value (spot_of u)

abbrev pub IsEntered : List ℕ → layout.Spot → Tree → Leg → Entered → Type 0
IsEntered bytes s t l Nothing = child t l ≡ None
IsEntered bytes s t l Itself = (child t l ≡ Some t) × (position_of t l ≡ [])
IsEntered bytes s t l (Value c k u) = EntersValue bytes s t l c k u

-- a value that is entered lies within the bytes
abbrev pub EntersInside : List ℕ → Entered → Type 0
EntersInside bytes (Value c k u) = IsInside bytes u
EntersInside bytes entered = Unit {0}

-- ---- a path

-- a removal takes a value out of its container
abbrev pub takes : End → Bool
takes (end.Value p) = p.taken
takes e = false

abbrev pub staying : End → End
staying (end.Value p) = end.Value
    (record { container = p.container; number = p.number; spot = p.spot; taken = false })
staying e = e

-- an action at the end of the positions acts on this container's value
pub record ActsThere (bytes : List ℕ) (ks : List ℕ) (p : Place) : Type 0 where
  pub kid : IsKid bytes p.container p.number p.spot
  pub acts : (act : layout.Container → ℕ → Option (List ℕ))
      → at_holder bytes act (layout.root bytes) ks ≡ act (container_of p.container) p.number

-- the path enters values to the end of the positions, or finds nothing; then a set adds a value or
-- not
abbrev pub EndsAt : List ℕ → Tree → Path → List ℕ → End → Type 0
EndsAt bytes t path ks end.Root = positions path t ≡ Some []
EndsAt bytes t path ks (end.Value p) = (positions path t ≡ Some ks) × ActsThere bytes ks p
EndsAt bytes t path ks (end.Nothing adds) =
    (positions path t ≡ None) × ((u : Tree) → is_some (try_set path u t) ≡ adds)

-- where a path leads in bytes that stand for the tree
pub record IsLed (bytes : List ℕ) (t : Tree) (path : Path) (led : Led) : Type 0 where
  pub ends : EndsAt bytes t path led.positions.items led.end
  pub removal : is_some (try_remove path t) ≡ takes led.end

abbrev pub EndsInside : List ℕ → End → Type 0
EndsInside bytes (end.Value p) = IsInside bytes p.spot
EndsInside bytes e = Unit {0}

-- ---- positions

-- the tree that positions lead to stands at the spot
abbrev pub StandsFor : List ℕ → Option Tree → Option Spot → Type 0
StandsFor bytes None None = Unit {0}
StandsFor bytes (Some v) (Some s) = IsValue bytes v (spot_of s)
StandsFor bytes found spot = ⊥
