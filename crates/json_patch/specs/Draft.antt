-- A document under an edit of pairs, while each of them is made in place.
--     IsDraft, IsPairPut      a draft of a document, and one behind more pairs
--     IsDraftOf      the draft of an edit
--     IsNoted      a draft differs from the old bytes where that is noted
use Rattle.std.specs.Prelude.{◌≡◌, ◌≤◌, ℕ, false, List, map, Option, Some, None}
use Rattle.tree_model.specs.Tree.{Tree, depth}
use Rattle.tree_model.specs.Edit.{Edit}
use Rattle.tree_model.specs.Text.{max_depth}
use Rattle.binary_model.specs.Stands.{Stands}
use Rattle.binary_model.specs.Change.{Progress, progress}
use Rattle.json_patch.specs.Touched.{DifferWithin}
use Rattle.json_patch.specs.Spans.{DifferInSpans}
use Rattle.json_patch.specs.Made.{StandFor, in_place}
use Rattle.json_patch.specs.declared.draft.Draft.{Draft}

-- the draft stands for u, and u differs from t within the touched values only
pub record IsDraft (t : Tree) (d : Draft) (u : Tree) : Type 0 where
  pub stands : StandFor d.bytes.items u
  pub within : DifferWithin (map (λ ks. ks.items) d.touched.items) t u
  pub nested : d.deep ≡ false → depth u ≤ max_depth

-- the pairs are made in place, or one of them can't be
abbrev pub IsPairPut : Tree → Progress → Option Draft → Type 0
IsPairPut t p None = p.edited ≡ None
IsPairPut t p (Some d) = (p.edited ≡ Some d.bytes.items) × IsDraft t d p.«tree»

abbrev pub IsDraftOf : List ℕ → Edit → Option Draft → Type 0
IsDraftOf bytes edit found = (t : Tree) → Stands bytes t
    → IsPairPut t (progress edit (in_place bytes t)) found

-- the draft's bytes differ from the old ones within the noted spans only
abbrev pub IsNoted : List ℕ → Draft → Type 0
IsNoted old d = DifferInSpans old d.bytes.items d.spans.items
