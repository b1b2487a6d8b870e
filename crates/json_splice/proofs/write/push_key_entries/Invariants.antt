use Rattle.std.proofs.Common.{◌≡◌, ◌+◌, ◌≤◌, ◌^◌, ◌++◌, length, drop}
use Rattle.binary_model.specs.Canonical.{joined, key_entries}
use Rattle.json_binary.specs.View.{form_of}
use Rattle.json_splice.specs.Parts.{keys_in}
use Rattle.json_splice.proofs.write.push_key_entries.Given as goal

abbrev pub invariant-loop-key : goal.invariant-loop-key
invariant-loop-key l =
    (l.out.items ++ key_entries (form_of l.form) l.offset (keys_in l.old (drop l.key-index l.keys)) ≡ l.initial.out.items ++ key_entries (form_of l.form) l.fn.offset (keys_in l.old l.keys))
    × (l.offset + length (joined (keys_in l.old (drop l.key-index l.keys))) ≤ 2 ^ 24)
