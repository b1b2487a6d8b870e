use Rattle.std.proofs.Common.{◌≡◌, ◌++◌, drop}
use Rattle.tree_model.specs.Tree.{Tree, Trees}
use Rattle.binary_model.specs.Canonical.{spelling, spellings}
use Rattle.binary_model.proofs.in_place.RefitLemmas.{with_element}
use Rattle.json_binary.specs.Place.{container_of}
use Rattle.json_binary.specs.Writing.{spelling_of}
use Rattle.json_splice.specs.Spelled.{HoldsTrees}
use Rattle.json_splice.specs.Parts.{parts_in}
use Rattle.json_splice.proofs.parts.parts_of.Given as goal

abbrev pub invariant-loop-k : goal.invariant-loop-k
invariant-loop-k l =
    (ts : Trees) (w : Tree) → HoldsTrees l.bytes (container_of l.container) l.nesting ts → spelling_of l.value ≡ spelling w →
    parts_in l.bytes l.value.bytes.items l.parts.items ++ drop l.k (spellings (with_element ts l.number w)) ≡ spellings (with_element ts l.number w)
