use Rattle.std.proofs.Common.{◌≡◌, ℕ, ◌+◌, ◌-◌, ◌^◌, ◌≤◌, List, drop, length}
use Rattle.binary_model.specs.Layout.{count}
use Rattle.binary_model.specs.Stands.{AreKeys}
use Rattle.json_binary.specs.Place.{container_of}
use Rattle.json_binary.specs.Sizes.{capped}
use Rattle.json_binary.specs.Usage.{total_length}
use Rattle.json_binary.proofs.cursor.usage.keys_used.Given as goal

abbrev pub invariant-loop-k : goal.invariant-loop-k
invariant-loop-k l =
    let c = container_of l.container in
    (l.total ≤ 2 ^ 64 - 1) × ((ks : List (List ℕ)) (floor : ℕ) → AreKeys l.bytes c 0 floor ks → length ks ≡ count l.bytes c
    → capped (l.total + total_length (drop l.k ks)) ≡ capped (total_length ks))
