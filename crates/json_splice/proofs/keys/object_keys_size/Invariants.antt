use Rattle.std.proofs.Common.{◌≡◌, ℕ, ◌+◌, ◌≤◌, List, length, drop}
use Rattle.binary_model.specs.Layout.{count, end}
use Rattle.binary_model.specs.Stands.{AreKeys}
use Rattle.binary_model.specs.Canonical.{joined}
use Rattle.json_binary.specs.Place.{container_of}
use Rattle.json_splice.proofs.KeysLemmas.{AreKeysFrom}
use Rattle.json_splice.proofs.keys.object_keys_size.Given as goal

-- where the keys that are left stand canonically, all do
abbrev pub invariant-loop-k : goal.invariant-loop-k
invariant-loop-k l =
    let c = container_of l.container in
    (l.offset ≤ l.at) × ((ks : List (List ℕ)) (start : ℕ) → AreKeys l.bytes c 0 start ks → length ks ≡ count l.bytes c →
    (AreKeysFrom l.bytes c l.k l.at (drop l.k ks) → AreKeysFrom l.bytes c 0 l.offset ks)
    × (l.at + length (joined (drop l.k ks)) ≡ l.offset + length (joined ks))
    × (c.at + l.at ≤ end l.bytes c))
