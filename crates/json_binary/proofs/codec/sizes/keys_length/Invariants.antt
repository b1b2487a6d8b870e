use Rattle.std.proofs.Common.{◌≡◌, ◌+◌, ◌-◌, ◌^◌, ◌≤◌, map, drop}
use Rattle.tree_model.specs.Tree.{members}
use Rattle.binary_model.specs.Canonical.{keys_length}
use Rattle.json_tree.specs.View.{pair_of}
use Rattle.json_binary.specs.Sizes.{capped}
use Rattle.json_binary.proofs.codec.sizes.keys_length.Given as goal

abbrev pub invariant-loop-item : goal.invariant-loop-item
invariant-loop-item l = (l.length ≤ 2 ^ 64 - 1) × (capped (l.length + keys_length (members (map pair_of (drop l.item-index l.items)))) ≡ capped (keys_length (members (map pair_of l.items))))
