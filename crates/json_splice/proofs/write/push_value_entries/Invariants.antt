use Rattle.std.proofs.Common.{◌≡◌, ◌+◌, ◌≤◌, ◌^◌, ◌++◌, map, drop}
use Rattle.binary_model.specs.Canonical.{measured, all_behind, value_entries}
use Rattle.json_binary.specs.View.{form_of}
use Rattle.json_splice.specs.Parts.{parts_in}
use Rattle.json_splice.proofs.write.push_value_entries.Given as goal

abbrev pub invariant-loop-part : goal.invariant-loop-part
invariant-loop-part l =
    (l.out.items ++ value_entries (form_of l.form) l.offset (parts_in l.old l.new (drop l.part-index l.parts)) ≡ l.initial.out.items ++ value_entries (form_of l.form) l.fn.offset (parts_in l.old l.new l.parts))
    × (l.offset + all_behind (form_of l.form) (map measured (parts_in l.old l.new (drop l.part-index l.parts))) ≤ 2 ^ 24)
