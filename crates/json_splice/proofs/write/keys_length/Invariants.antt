use Rattle.std.proofs.Common.{◌≡◌, ◌+◌, length, drop}
use Rattle.binary_model.specs.Canonical.{joined}
use Rattle.json_splice.specs.Parts.{keys_in}
use Rattle.json_splice.proofs.write.keys_length.Given as goal

abbrev pub invariant-loop-key : goal.invariant-loop-key
invariant-loop-key l =
    l.total + length (joined (keys_in l.old (drop l.key-index l.keys))) ≡ length (joined (keys_in l.old l.keys))
