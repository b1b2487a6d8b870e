use Rattle.std.proofs.Common.{◌≡◌, ◌+◌, ◌^◌, ◌≤◌, ◌++◌, map, drop}
use Rattle.tree_model.specs.Tree.{trees}
use Rattle.binary_model.specs.Canonical.{all_behind, value_entries, measures, spellings}
use Rattle.json_tree.specs.View.{tree_of}
use Rattle.json_binary.specs.View.{form_of}
use Rattle.json_binary.specs.Sizes.{all_extents}
use Rattle.json_tree.specs.Writing.{Extends}
use Rattle.json_binary.proofs.codec.writer.push_element_entries.Given as goal

-- what is written, and then what is left, is the whole
abbrev pub invariant-loop-item : goal.invariant-loop-item
invariant-loop-item l =
    let form = form_of l.form in
    let rest = trees (map tree_of (drop l.item-index l.items)) in
    let all = trees (map tree_of l.items) in
    ((l.out.items ++ value_entries form l.offset (spellings rest)) ≡ (l.initial.out.items ++ value_entries form l.fn.offset (spellings all)))
    × Extends l.initial.out.items l.out.items
    × (l.rest ≡ all_extents rest)
    × (l.offset + all_behind form (measures rest) ≤ 2 ^ 24)
