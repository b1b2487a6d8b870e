use Rattle.std.proofs.Common.{◌≡◌, ◌++◌, map, drop}
use Rattle.tree_model.specs.Tree.{members}
use Rattle.binary_model.specs.Canonical.{keys, joined}
use Rattle.json_tree.specs.View.{pair_of}
use Rattle.json_tree.specs.Writing.{Extends}
use Rattle.json_binary.proofs.codec.writer.push_keys.Given as goal

abbrev pub invariant-loop-item : goal.invariant-loop-item
invariant-loop-item l =
    ((l.out.items ++ joined (keys (members (map pair_of (drop l.item-index l.items))))) ≡ (l.initial.out.items ++ joined (keys (members (map pair_of l.items)))))
    × Extends l.initial.out.items l.out.items
