use Rattle.std.proofs.Common.{◌≡◌, ℕ, ◌-◌, ◌≤◌, map, length}
use Rattle.tree_model.specs.Tree.{Members, AreMembers, member_list}
use Rattle.binary_model.specs.Layout.{count}
use Rattle.binary_model.specs.Stands.{AreKeys}
use Rattle.json_binary.specs.Place.{container_of}
use Rattle.json_binary.proofs.SearchLemmas.{IsHalved}
use Rattle.json_binary.proofs.cursor.containers.member.Given as goal

abbrev pub decreases-loop-low : goal.decreases-loop-low
decreases-loop-low l = l.high - l.low

-- what keys the bytes stand for, the key is not among those passed over
abbrev pub invariant-loop-low : goal.invariant-loop-low
invariant-loop-low l =
    let c = container_of l.container in
    (l.high ≤ count l.bytes c)
    × ((ms : Members) (floor : ℕ) → AreMembers (member_list ms) → AreKeys l.bytes c 0 floor (map (λ m. m.0) (member_list ms)) → length (map (λ m. m.0) (member_list ms)) ≡ count l.bytes c
    → IsHalved (map (λ m. m.0) (member_list ms)) l.key l.low l.high)
