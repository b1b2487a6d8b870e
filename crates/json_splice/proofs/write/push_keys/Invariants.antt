use Rattle.std.proofs.Common.{◌≡◌, ◌++◌, drop}
use Rattle.binary_model.specs.Canonical.{joined}
use Rattle.json_splice.specs.Parts.{keys_in}
use Rattle.json_splice.proofs.write.push_keys.Given as goal

abbrev pub invariant-loop-key : goal.invariant-loop-key
invariant-loop-key l =
    l.out.items ++ joined (keys_in l.old (drop l.key-index l.keys)) ≡ l.initial.out.items ++ joined (keys_in l.old l.keys)
