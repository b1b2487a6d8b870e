use Rattle.std.proofs.Common.{◌≡◌, ◌+◌, ◌^◌, ◌≤◌, ◌++◌, map, drop}
use Rattle.tree_model.specs.Tree.{members}
use Rattle.binary_model.specs.Canonical.{key_entries, keys, keys_length}
use Rattle.json_tree.specs.View.{pair_of}
use Rattle.json_binary.specs.View.{form_of}
use Rattle.json_tree.specs.Writing.{Extends}
use Rattle.json_binary.proofs.codec.writer.push_key_entries.Given as goal

abbrev pub invariant-loop-item : goal.invariant-loop-item
invariant-loop-item l =
    let rest = members (map pair_of (drop l.item-index l.items)) in
    ((l.out.items ++ key_entries (form_of l.form) l.offset (keys rest)) ≡ (l.initial.out.items ++ key_entries (form_of l.form) l.fn.offset (keys (members (map pair_of l.items)))))
    × Extends l.initial.out.items l.out.items
    × (l.offset + keys_length rest ≤ 2 ^ 24)
