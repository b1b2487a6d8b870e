-- What an edit answers, and what it leaves.
use Rattle.std.specs.Prelude.{◌≡◌, Bool, true, false, Option, Some, None, ⊤}
use Rattle.tree_model.specs.Tree.{Tree}
use Rattle.tree_model.specs.Path.{Leg}
use Rattle.tree_model.specs.Edit.{set_at, replaced, taken_out}
use Rattle.json_tree.specs.View.{tree_of}
use Rattle.json_edit.specs.declared.action.Action.{Action}
use Rattle.json_edit.specs.declared.action.Action.TheVariants.{Set, Replace, Remove}

-- the edited tree and true, or false and the tree as it was where there is no place to act
abbrev pub Acts : Option Tree → Tree → Tree → Bool → Type 0
Acts (Some t) old new acted = (acted ≡ true) × (new ≡ t)
Acts None old new acted = (acted ≡ false) × (new ≡ old)

-- what an action makes of a parent and its last leg
abbrev pub act_of : Action → Tree → Leg → Option Tree
act_of (Set alloc value) = set_at (tree_of value)
act_of (Replace value) = replaced (tree_of value)
act_of Remove = taken_out

abbrev pub IsSet : Action → Type 0
IsSet (Set alloc value) = ⊤
IsSet (Replace value) = ⊥
IsSet Remove = ⊥
