use Rattle.std.proofs.Common.{map, length}
use Rattle.tree_model.specs.Tree.{Tree, IsTree}
use Rattle.binary_model.specs.Layout as layout
use Rattle.binary_model.specs.Stands.{IsValue}
use Rattle.json_path.specs.View.{leg_of}
use Rattle.json_binary.specs.Place.{spot_of, IsInside}
use Rattle.json_patch.specs.Led.{EndsInside}
use Rattle.json_patch.proofs.LeadLemmas.{Walk}
use Rattle.json_patch.proofs.lead.lead.Given as goal

abbrev pub invariant-loop-left : goal.invariant-loop-left
invariant-loop-left l = IsInside l.bytes l.spot × EndsInside l.bytes l.end
    × ((t : Tree) → IsTree t → IsValue l.bytes t (layout.root l.bytes) → Walk l.bytes t (map leg_of l.legs) (map leg_of l.left) l.positions.items (spot_of l.spot) l.end)

abbrev pub decreases-loop-left : goal.decreases-loop-left
decreases-loop-left l = length l.left
