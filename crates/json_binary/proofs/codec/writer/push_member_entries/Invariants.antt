use Rattle.std.proofs.Common.{◌≡◌, ◌+◌, ◌^◌, ◌≤◌, ◌++◌, map, drop}
use Rattle.tree_model.specs.Tree.{members}
use Rattle.binary_model.specs.Canonical.{all_behind, value_entries, member_measures, member_spellings}
use Rattle.json_tree.specs.View.{pair_of}
use Rattle.json_binary.specs.View.{form_of}
use Rattle.json_binary.specs.Sizes.{member_extents}
use Rattle.json_tree.specs.Writing.{Extends}
use Rattle.json_binary.proofs.codec.writer.push_member_entries.Given as goal

-- what is written, and then what is left, is the whole
abbrev pub invariant-loop-item : goal.invariant-loop-item
invariant-loop-item l =
    let form = form_of l.form in
    let rest = members (map pair_of (drop l.item-index l.items)) in
    let all = members (map pair_of l.items) in
    ((l.out.items ++ value_entries form l.offset (member_spellings rest)) ≡ (l.initial.out.items ++ value_entries form l.fn.offset (member_spellings all)))
    × Extends l.initial.out.items l.out.items
    × (l.rest ≡ member_extents rest)
    × (l.offset + all_behind form (member_measures rest) ≤ 2 ^ 24)
