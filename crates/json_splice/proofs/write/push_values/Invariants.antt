use Rattle.std.proofs.Common.{◌≡◌, ◌++◌, drop}
use Rattle.binary_model.specs.Canonical.{values_behind}
use Rattle.json_binary.specs.View.{form_of}
use Rattle.json_splice.specs.Parts.{parts_in}
use Rattle.json_splice.proofs.write.push_values.Given as goal

abbrev pub invariant-loop-part : goal.invariant-loop-part
invariant-loop-part l =
    l.out.items ++ values_behind (form_of l.form) (parts_in l.old l.new (drop l.part-index l.parts)) ≡ l.initial.out.items ++ values_behind (form_of l.form) (parts_in l.old l.new l.parts)
