use Rattle.std.proofs.Common.{◌≡◌, map, drop}
use Rattle.tree_model.specs.Tree.{Tree}
use Rattle.binary_model.specs.Stands.{Stands}
use Rattle.binary_model.specs.Change.{progress}
use Rattle.json_edit.specs.Edits.{assigned}
use Rattle.json_patch.specs.Made.{edit_by, in_place}
use Rattle.json_patch.specs.Draft.{IsDraft, IsNoted}
use Rattle.json_patch.proofs.draft.put_pairs.Given as goal

abbrev pub invariant-loop-pair : goal.invariant-loop-pair
invariant-loop-pair l = IsNoted l.bytes l.draft × ((t : Tree) → Stands l.bytes t → (u : Tree) × IsDraft t l.draft u × (progress (edit_by l.adding (map assigned (drop l.pair-index l.pairs))) (in_place l.draft.bytes.items u) ≡ progress (edit_by l.adding (map assigned l.pairs)) (in_place l.bytes t)))
