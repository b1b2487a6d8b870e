-- What a plan answers.
--     IsAnswer      the definition's change, or why it isn't stored
--     StaysInPlace, IsEncoded      what it stores stands for the tree
--     Plans      all of it, of an edit
use Rattle.std.specs.Prelude.{◌≡◌, ◌≤◌, ◌<◌, ℕ, List, length, Option, Some, None, Result, Ok, Err}
use Rattle.tree_model.specs.Tree.{Tree, depth}
use Rattle.tree_model.specs.Edit.{Edit, edited}
use Rattle.tree_model.specs.Text.{max_depth}
use Rattle.binary_model.specs.Stands.{Stands}
use Rattle.binary_model.specs.Canonical.{canonical_length, max_document_bytes}
use Rattle.binary_model.specs.Change as change
use Rattle.binary_model.specs.Change.{Change, Run, change as change_of, progress, put_all}
use Rattle.json_patch.specs.declared.planning.Planned.{Planned}
use Rattle.json_patch.specs.declared.planning.Planned.TheVariants as planned
use Rattle.json_patch.specs.declared.error.PlanError.{PlanError}
use Rattle.json_patch.specs.declared.error.PlanError.TheVariants.{Deep, Large, Memory}
use Rattle.json_patch.specs.Made.{in_place}
use Rattle.json_patch.specs.View.{runs_of, AreWithin}

-- the plan is the change, within the limits
abbrev pub IsPlanFor : Change → ℕ → ℕ → Planned → Type 0
IsPlanFor change.Same nested size planned.Same = Unit {0}
IsPlanFor (change.Parts rs) nested size (planned.Parts parts) =
    (nested ≤ max_depth) × (runs_of parts ≡ rs)
IsPlanFor (change.Full new) nested size (planned.Full out) =
    (nested ≤ max_depth) × (size ≤ max_document_bytes) × (out.items ≡ new)
IsPlanFor c nested size plan = ⊥

abbrev pub IsOther : Change → Type 0
IsOther change.Same = ⊥
IsOther c = Unit {0}

abbrev pub IsFull : Change → Type 0
IsFull (change.Full new) = Unit {0}
IsFull c = ⊥

-- too deep comes before too large; memory may always run out
abbrev pub IsPlanRefused : Change → ℕ → ℕ → PlanError → Type 0
IsPlanRefused c nested size Deep = IsOther c × (max_depth < nested)
IsPlanRefused c nested size Large = IsFull c × (nested ≤ max_depth) × (max_document_bytes < size)
IsPlanRefused c nested size Memory = Unit {0}

-- of the change, the depth of the edited tree and the length of its encoding
abbrev pub IsAnswer : Change → ℕ → ℕ → Result Planned PlanError → Type 0
IsAnswer c nested size (Ok plan) = IsPlanFor c nested size plan
IsAnswer c nested size (Err e) = IsPlanRefused c nested size e

-- patches that lie within the bytes, and make of them as many that stand for the tree
abbrev pub MakeStanding : List ℕ → Tree → List Run → Type 0
MakeStanding bytes t rs = AreWithin (length bytes) rs × Stands (put_all rs bytes) t
    × (length (put_all rs bytes) ≡ length bytes)

-- bytes that are changed in place stand for the tree
abbrev pub StaysInPlace : List ℕ → Tree → Result Planned PlanError → Type 0
StaysInPlace bytes t (Ok (planned.Parts parts)) = MakeStanding bytes t (runs_of parts)
StaysInPlace bytes t answer = Unit {0}

-- a new encoding stands for the tree, within the limit
abbrev pub IsEncoded : Tree → Result Planned PlanError → Type 0
IsEncoded t (Ok (planned.Full out)) = Stands out.items t × (length out.items ≤ max_document_bytes)
IsEncoded t answer = Unit {0}

-- what the edit makes of bytes that stand for a tree: each answer exactly, unless memory runs out;
-- bytes changed in place, and a new encoding, stand for the edited tree
pub record Plans (bytes : List ℕ) (edit : Edit) (result : Result Planned PlanError) : Type 0 where
  pub answer : (t : Tree) → Stands bytes t
      → IsAnswer (change_of bytes t edit) (depth (edited edit t)) (canonical_length (edited edit t))
      result
  pub stands : (t : Tree) → Stands bytes t → StaysInPlace bytes (edited edit t) result
  pub encoded : (t : Tree) → Stands bytes t → IsEncoded (edited edit t) result

-- the plan, where each pair is made in place; none, where one of them can't be
abbrev pub PlansOrNot : List ℕ → Edit → Option Planned → Type 0
PlansOrNot bytes edit None = (t : Tree) → Stands bytes t
    → (progress edit (in_place bytes t)).edited ≡ None
PlansOrNot bytes edit (Some plan) = Plans bytes edit (Ok plan)

abbrev pub PlansInPlace : List ℕ → Edit → Result (Option Planned) PlanError → Type 0
PlansInPlace bytes edit (Ok found) = PlansOrNot bytes edit found
PlansInPlace bytes edit (Err e) = Plans bytes edit (Err e)
