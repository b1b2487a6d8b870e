use Rattle.std.proofs.Common.{◌≡◌, ◌+◌, ◌-◌, ◌*◌, ◌++◌, [], map, length}
use Rattle.std.specs.Vec.Iter.{into_iter_items}
use Rattle.binary_model.specs.Layout.{count, values_floor}
use Rattle.json_binary.specs.Place.{container_of}
use Rattle.json_binary.proofs.DecodeLemmas.{collected, joined, values_from}
use Rattle.json_binary.proofs.codec.decoder.+value.Given as goal

abbrev pub decreases-read_array : goal.decreases-read_array
decreases-read_array l = 3 * l.nesting + 1

abbrev pub decreases-read_elements : goal.decreases-read_elements
decreases-read_elements l = 3 * l.nesting + 3

abbrev pub decreases-read_members : goal.decreases-read_members
decreases-read_members l = 3 * l.nesting + 3

abbrev pub decreases-read_object : goal.decreases-read_object
decreases-read_object l = 3 * l.nesting + 1

abbrev pub decreases-read_value : goal.decreases-read_value
decreases-read_value l = 3 * l.nesting + 2

-- what is read, and then what is left, is the whole
abbrev pub invariant-read_elements-loop-k : goal.invariant-read_elements-loop-k
invariant-read_elements-loop-k l =
    let c = container_of l.container in
    collected l.list (values_from l.nesting l.bytes c (l.count - l.k) l.k l.floor) ≡ collected [] (values_from l.nesting l.bytes c l.count 0 (values_floor l.bytes c))

abbrev pub invariant-read_members-loop-key : goal.invariant-read_members-loop-key
invariant-read_members-loop-key l =
    let c = container_of l.container in
    let rest = into_iter_items l.key-iterator in
    (l.k + length rest ≡ count l.bytes c)
    × (map (λ m. m.0) l.members ++ rest ≡ l.fn.keys.items)
    × (joined l.members rest (values_from l.nesting l.bytes c (length rest) l.k l.floor)
    ≡ joined [] l.fn.keys.items (values_from l.nesting l.bytes c (count l.bytes c) 0 (values_floor l.bytes c)))
