use Rattle.std.proofs.Common.{◌≡◌, ◌+◌, ◌*◌, map, drop}
use Rattle.tree_model.specs.Tree.{Trees}
use Rattle.binary_model.specs.Layout.{small}
use Rattle.binary_model.specs.Canonical.{measured, spellings, all_behind}
use Rattle.json_binary.specs.Place.{container_of}
use Rattle.json_splice.specs.Spelled.{HoldsTrees}
use Rattle.json_splice.proofs.ValuesLemmas.{AreEntriesFrom}
use Rattle.json_splice.proofs.canonical.+canonical_size.Given as goal

abbrev pub decreases-canonical_size : goal.decreases-canonical_size
decreases-canonical_size l = 4 * l.nesting

abbrev pub decreases-value_size : goal.decreases-value_size
decreases-value_size l = 4 * l.nesting + 1

abbrev pub decreases-values_behind : goal.decreases-values_behind
decreases-values_behind l = 4 * l.nesting + 2

abbrev pub decreases-container_size : goal.decreases-container_size
decreases-container_size l = 4 * l.nesting + 3

-- where the entries that are left are canonical, all are; what was measured, and what is left, is the whole
abbrev pub invariant-values_behind-loop-k : goal.invariant-values_behind-loop-k
invariant-values_behind-loop-k l =
    let c = container_of l.container in
    (ts : Trees) → HoldsTrees l.bytes c l.nesting ts → let rest = drop l.k (spellings ts) in
    (AreEntriesFrom l.bytes c l.k l.end rest → AreEntriesFrom l.bytes c 0 l.offset (spellings ts))
    × (l.end + all_behind c.form (map measured rest) ≡ l.offset + all_behind c.form (map measured (spellings ts)))
    × (l.small + all_behind small (map measured rest) ≡ all_behind small (map measured (spellings ts)))
