use Rattle.std.proofs.Common.{◌≡◌, ℕ, ◌++◌, List, length, drop}
use Rattle.binary_model.specs.Layout.{count}
use Rattle.binary_model.specs.Stands.{AreKeys}
use Rattle.json_binary.specs.Place.{container_of}
use Rattle.json_splice.specs.Parts.{keys_in}
use Rattle.json_splice.proofs.parts.object_keys.Given as goal

abbrev pub invariant-loop-k : goal.invariant-loop-k
invariant-loop-k l =
    let c = container_of l.container in
    (ks : List (List ℕ)) (start : ℕ) → AreKeys l.bytes c 0 start ks → length ks ≡ count l.bytes c → keys_in l.bytes l.keys.items ++ drop l.k ks ≡ ks
