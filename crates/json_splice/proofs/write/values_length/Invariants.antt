use Rattle.std.proofs.Common.{◌≡◌, ◌+◌, map, drop}
use Rattle.binary_model.specs.Canonical.{measured, all_behind}
use Rattle.json_binary.specs.View.{form_of}
use Rattle.json_splice.specs.Parts.{parts_in}
use Rattle.json_splice.proofs.write.values_length.Given as goal

abbrev pub invariant-loop-part : goal.invariant-loop-part
invariant-loop-part l =
    l.total + all_behind (form_of l.form) (map measured (parts_in l.old l.new (drop l.part-index l.parts))) ≡ all_behind (form_of l.form) (map measured (parts_in l.old l.new l.parts))
